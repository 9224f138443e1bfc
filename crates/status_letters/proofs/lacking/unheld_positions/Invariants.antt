use Rattle.status_letters.specs.inside.Lacking.{AreUnmarked}
use Rattle.status_letters.proofs.lacking.unheld_positions.Given as goal

abbrev pub invariant-loop-position : goal.invariant-loop-position
invariant-loop-position l = AreUnmarked l.held l.position l.unheld.items
