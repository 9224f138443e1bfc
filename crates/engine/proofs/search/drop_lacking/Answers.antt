use Rattle.std.proofs.Common.{◌≡◌, ◌∙◌, ap, arith, get_or, sym, true}
use borrow.Author.Count.{below_more}
use Rattle.std.proofs.lemmas.Bool.{both_ways}
use Rattle.graph.specs.Marks.{has_mark}
use Rattle.graph.proofs.Lists.{get_or-same}
use Rattle.graph.proofs.Walks.{marked-found}
use Rattle.engine.proofs.Dropping.{AreParted-through, dropped_one}
use Rattle.engine.proofs.search.drop_lacking.Goals as goal
use Rattle.engine.proofs.search.drop_lacking.Goals.{then-lacks-position-gt0, else-lacks-position-gt0}

pub loop-position-preserved : goal.loop-position-preserved
loop-position-preserved c =
    let before = c.loop-position.invariant in
    let found = c.args.found.now in
    let lacks = c.args.lacks.now in
    let n = c.loop-position.position-index in
    elim c.if-lacks-position-gt0.branch [
      | then-lacks-position-gt0 w ↦ rw (w.marks-is, w.dropped-is) (record {
        parted = AreParted-through before.parted w.drop.ensures.parted;
        only = λ p marked. before.only p (w.drop.ensures.only p marked);
        rest = below_more (λ k. has_mark w.drop.new.marks (get_or found k 0) ≡ true → get_or lacks (get_or found k 0) 0 ≡ 0) n
            (λ k below marked. before.rest k below (w.drop.ensures.only (get_or found k 0) marked))
            (λ marked. absurd (both_ways (has_mark w.drop.new.marks (get_or found n 0)) (w.drop.ensures.gone 0 0 (omega arith)) marked));
        some = dropped_one lacks c.loop-position.marks c.loop-position.dropped.items w.drop.new.dropped.items (get_or found n 0) before.some
            w.if-lacks-position-gt0.true w.drop.ensures.adds;
        room = w.drop.ensures.room ∙ before.room;
      })
      | else-lacks-position-gt0 w ↦ rw (w.marks-is, w.dropped-is) (record {
        parted = before.parted;
        only = before.only;
        rest = below_more (λ k. has_mark c.loop-position.marks (get_or found k 0) ≡ true → get_or lacks (get_or found k 0) 0 ≡ 0) n before.rest
            (λ marked. omega (arith, w.if-lacks-position-gt0.false));
        some = before.some;
        room = before.room;
      })
    ]

pub returns-clause-rest : goal.returns-clause-rest
returns-clause-rest c = λ p marked.
    let before = c.loop-position.invariant in
    let found = c.args.found.now in
    let at = marked-found c.requires.found p (before.only p marked) in
    let is : get_or found at.0 0 ≡ p = get_or-same found at.0 0 p at.1 ∙ at.2 in
    ap (λ x. get_or c.args.lacks.now x 0) (sym is)
    ∙ before.rest at.0 (omega (arith, at.1, c.loop-position-test.false)) (ap (has_mark c.loop-position.marks) is ∙ marked)
