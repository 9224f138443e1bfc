use Rattle.engine.proofs.Lowering.{some_left}
use Rattle.engine.proofs.lacks.lower.Goals as goal

pub overflow_sub-lacks : goal.overflow_sub-lacks
overflow_sub-lacks c =
    some_left c.args.lacks.now c.loop-position.lacks c.args.positions.now c.loop-position.position-index c.loop-position-test.true c.requires.within c.requires.some c.loop-position.invariant
