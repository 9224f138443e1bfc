use Rattle.std.proofs.Common.{arith}
use Rattle.engine.proofs.Dependents.{IsMarking-all, IsMarking-more}
use Rattle.engine.proofs.ignored.marks_of.Goals as goal

pub loop-position-preserved : goal.loop-position-preserved
loop-position-preserved c =
    IsMarking-more c.args.len c.loop-position.marks.items c.args.positions.now c.loop-position.position-index c.loop-position.invariant c.loop-position-test.true
    (c.requires c.loop-position.position-index 0 c.loop-position-test.true)

pub returns : goal.returns
returns c = IsMarking-all c.args.len c.loop-position.marks.items c.args.positions.now c.loop-position.position-index c.loop-position.invariant (omega (arith, c.loop-position-test.false))
