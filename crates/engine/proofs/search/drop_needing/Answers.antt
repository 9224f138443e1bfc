use Rattle.std.proofs.Common.{◌≡◌, ◌+◌, ◌<◌, ◌∙◌, ℕ, List, All, ap, arith, false, get_or, length, subst}
use Rattle.graph.specs.Lists.{list_at, times}
use Rattle.graph.specs.Marks.{has_mark}
use Rattle.graph.proofs.Lists.{get_or-same}
use Rattle.engine.specs.inside.Searching.{Adds}
use Rattle.engine.proofs.Sifting.{IsSifting-more, next_fits}
use Rattle.engine.proofs.search.drop_needing.Goals as goal

pub raise-requires-clause-few : goal.raise-requires-clause-few
raise-requires-clause-few c =
    let dropped = c.follow.dropped.items in
    let runs = c.args.runs.now in
    let within : c.follow.followed < length dropped = omega (arith, c.follow-test.true, c.len.ensures, c.follow.dropped.ok) in
    let is : c.at-needing.result.now ≡ list_at runs (get_or dropped c.follow.followed 0) =
    c.at-needing.ensures ∙ ap (list_at runs) (c.index.ensures ∙ get_or-same dropped c.follow.followed c.index.result.now 0 within) in
    λ p inside. omega (arith, ap (times p) is, next_fits c.follow.invariant.sifting c.requires.each c.requires.lacks within c.requires.fits p inside)

pub follow-preserved : goal.follow-preserved
follow-preserved c =
    let dropped = c.follow.dropped.items in
    let runs = c.args.runs.now in
    let within : c.follow.followed < length dropped = omega (arith, c.follow-test.true, c.len.ensures, c.follow.dropped.ok) in
    let is : c.at-needing.result.now ≡ list_at runs (get_or dropped c.follow.followed 0) =
    c.at-needing.ensures ∙ ap (list_at runs) (c.index.ensures ∙ get_or-same dropped c.follow.followed c.index.result.now 0 within) in
    record {
      sifting = IsSifting-more c.follow.invariant.sifting c.requires.each c.requires.lacks c.drop.new.marks c.drop.new.dropped.items c.raise.new.lacks within
          c.drop.auto.marks c.raise.auto.lacks
          (λ p inside. c.raise.ensures p inside ∙ ap (λ ds. get_or c.follow.lacks p 0 + times p ds) is)
          c.drop.ensures.parted
          (subst (All (λ p. has_mark c.drop.new.marks p ≡ false)) is c.drop.ensures.gone)
          c.drop.ensures.only
          (subst (λ (ds : List ℕ). Adds ds c.follow.marks dropped c.drop.new.dropped.items) is c.drop.ensures.adds);
      room = c.drop.ensures.room ∙ c.follow.invariant.room;
    }
