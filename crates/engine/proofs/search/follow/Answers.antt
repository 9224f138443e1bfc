use Rattle.std.proofs.Common.{◌≡◌, ◌<◌, ◌∙◌, ℕ, List, All, ap, arith, get_or, length, subst, sym, true}
use Rattle.graph.specs.Lists.{list_at}
use Rattle.graph.specs.Marks.{has_mark}
use Rattle.graph.proofs.Lists.{get_or-same}
use Rattle.graph.proofs.Walks.{found-marked}
use Rattle.graph.proofs.Marked.{marked_within}
use Rattle.engine.specs.shared.Shown.{letter_at}
use Rattle.engine.specs.declared.Letter.TheVariants.{B}
use Rattle.engine.proofs.Finding.{IsFollowing-closed, IsFollowing-more}
use Rattle.engine.proofs.search.follow.Goals as goal

pub at-requires : goal.at-requires
at-requires c =
    let following = c.follow.invariant.following in
    let within : c.follow.followed < length c.follow.found.items = omega (arith, c.follow-test.true, c.len.ensures, c.follow.found.ok) in
    omega (arith, marked_within c.follow.marks _ (found-marked following.are_found _ (c.follow.followed, within, sym c.index.ensures)), following.each, c.requires.each)

pub follow-preserved : goal.follow-preserved
follow-preserved c =
    let found = c.follow.found.items in
    let runs = c.args.runs.now in
    let within : c.follow.followed < length found = omega (arith, c.follow-test.true, c.len.ensures, c.follow.found.ok) in
    let is : c.at.result.now ≡ list_at runs (get_or found c.follow.followed 0) =
    c.at.ensures ∙ ap (list_at runs) (c.index.ensures ∙ get_or-same found c.follow.followed c.index.result.now 0 within) in
    record {
      following = IsFollowing-more c.follow.invariant.following c.find.new.marks c.find.new.found.items within c.find.ensures.found c.find.auto.marks
          (subst (λ (ds : List ℕ). All (λ d. letter_at c.args.letters.now d ≡ B → has_mark c.find.new.marks d ≡ true) ds) is c.find.ensures.all) c.find.ensures.kept
          c.find.ensures.only c.find.ensures.longer c.find.ensures.order;
      room = c.find.ensures.room ∙ c.follow.invariant.room;
    }

pub returns-clause-closed : goal.returns-clause-closed
returns-clause-closed c = IsFollowing-closed c.follow.invariant.following (omega (arith, c.follow-test.false, c.len.ensures, c.follow.found.ok))
