use Rattle.std.proofs.Common.{◌∙◌, ap, arith, refl}
use Rattle.graph.specs.Marks.{has_mark}
use Rattle.graph.proofs.Lists.{get_or-same}
use Rattle.engine.proofs.Dropping.{IsDropping-drops, IsDropping-keeps, room-left}
use Rattle.engine.proofs.search.drop.Goals as goal
use Rattle.engine.proofs.search.drop.Goals.{then-marks-place, else-marks-place}

pub push_reserved-requires : goal.push_reserved-requires
push_reserved-requires c =
    let dropping = c.loop-position.invariant.dropping in
    let room = room-left dropping _ _ (omega (arith, c.requires.within c.loop-position.position-index 0 c.loop-position-test.true, dropping.each)) c.if-marks-place.true c.requires.room in
    omega (arith, room, c.loop-position.invariant.room, c.loop-position.dropped.ok)

pub loop-position-preserved : goal.loop-position-preserved
loop-position-preserved c =
    let dropping = c.loop-position.invariant.dropping in
    elim c.if-marks-place.branch [
      | then-marks-place w ↦ rw (w.marks-is, w.dropped-is) (record {
        dropping = rw w.push_reserved.ensures.items (IsDropping-drops dropping _ c.loop-position-test.true refl
            (omega (arith, c.requires.within c.loop-position.position-index 0 c.loop-position-test.true, dropping.each)) w.if-marks-place.true);
        room = w.push_reserved.ensures.capacity ∙ c.loop-position.invariant.room;
      })
      | else-marks-place w ↦ rw (w.marks-is, w.dropped-is) (record {
        dropping = IsDropping-keeps dropping w.if-marks-place.false;
        room = c.loop-position.invariant.room;
      })
    ]

pub returns-clause-gone : goal.returns-clause-gone
returns-clause-gone c = λ k d inside.
    ap (has_mark c.loop-position.marks) (get_or-same c.args.positions.now k d 0 inside)
    ∙ c.loop-position.invariant.dropping.gone k (omega (arith, inside, c.loop-position-test.false))
