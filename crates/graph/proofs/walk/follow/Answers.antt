use Rattle.std.proofs.Common.{◌≡◌, ◌<◌, ◌⊎◌, ◌∙◌, ℕ, List, All, Contains, ap, arith, get_or, length, subst, sym, true}
use Rattle.graph.specs.Lists.{list_at}
use Rattle.graph.specs.Marks.{has_mark}
use Rattle.graph.proofs.Lists.{get_or-same}
use Rattle.graph.proofs.Walks.{IsFollowing-closed, IsFollowing-more, found-marked}
use Rattle.graph.proofs.Marked.{marked_within}
use Rattle.graph.proofs.walk.follow.Goals as goal

pub at-requires : goal.at-requires
at-requires c =
    let following = c.follow.invariant.following in
    let within : c.follow.followed < length c.follow.found.items = omega (arith, c.follow-test.true, c.len.ensures, c.follow.found.ok) in
    omega (arith, marked_within c.follow.marks _ (found-marked following.are_found _ (c.follow.followed, within, sym c.index.ensures)), following.each, c.requires.each)

pub follow-preserved : goal.follow-preserved
follow-preserved c =
    let found = c.follow.found.items in
    let lists = c.args.lists.now in
    let within : c.follow.followed < length found = omega (arith, c.follow-test.true, c.len.ensures, c.follow.found.ok) in
    let is : c.at.result.now ≡ list_at lists (get_or found c.follow.followed 0) =
    c.at.ensures ∙ ap (list_at lists) (c.index.ensures ∙ get_or-same found c.follow.followed c.index.result.now 0 within) in
    record {
      following = IsFollowing-more c.follow.invariant.following c.find.new.marks c.find.new.found.items within c.find.ensures.found c.find.auto.marks
          (subst (λ (ds : List ℕ). All (λ d. has_mark c.find.new.marks d ≡ true) ds) is c.find.ensures.all) c.find.ensures.kept
          (λ p marked. subst (λ (ds : List ℕ). (has_mark c.follow.marks p ≡ true) ⊎ Contains ds p) is (c.find.ensures.only p marked))
          c.find.ensures.longer c.find.ensures.order;
      room = c.find.ensures.room ∙ c.follow.invariant.room;
    }

pub returns-clause-closed : goal.returns-clause-closed
returns-clause-closed c = IsFollowing-closed c.follow.invariant.following (omega (arith, c.follow-test.false, c.len.ensures, c.follow.found.ok))
