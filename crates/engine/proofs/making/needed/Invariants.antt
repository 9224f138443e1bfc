use Rattle.std.proofs.Common.{◌≡◌, take}
use Rattle.engine.specs.inside.UnitKeeping.{needs_in_turn}
use Rattle.engine.proofs.making.needed.Given as goal

abbrev pub invariant-loop-position : goal.invariant-loop-position
invariant-loop-position l = l.needed.items ≡ needs_in_turn l.tree l.packages (take l.position-index l.packages)
