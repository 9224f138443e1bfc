use Rattle.std.proofs.Common.{◌≡◌, map}
use Rattle.engine.specs.Units.{unit_from}
use Rattle.engine.specs.inside.Gathering.{lists_of}
use Rattle.engine.specs.inside.UnitKeeping.{unit_made}
use Rattle.engine.proofs.making.units_of.Given as goal

abbrev pub invariant-loop-positions : goal.invariant-loop-positions
invariant-loop-positions l = map (unit_made l.tree) l.units.items ≡ map (unit_from l.tree) (lists_of l.yielded)
