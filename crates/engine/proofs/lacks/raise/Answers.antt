use Rattle.std.proofs.Common.{arith}
use Rattle.engine.proofs.Lowering.{fits_more}
use Rattle.engine.proofs.lacks.raise.Goals as goal

pub overflow_add-lacks : goal.overflow_add-lacks
overflow_add-lacks c = omega (
  arith,
  fits_more c.args.lacks.now c.loop-position.lacks c.args.positions.now c.loop-position.position-index c.loop-position-test.true c.requires.within c.requires.few c.loop-position.invariant,
)
