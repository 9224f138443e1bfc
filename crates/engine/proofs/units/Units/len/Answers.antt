use Rattle.std.proofs.Common.{ap, arith, length}
use Rattle.std.proofs.lemmas.List.{length-map}
use Rattle.engine.proofs.Kept.{few_units}
use Rattle.engine.specs.declared.units.Parts.{Parts}
use Rattle.engine.specs.inside.UnitKeeping.{unit_made}
use Rattle.engine.proofs.units.Units.len.Goals as goal

pub overflow_cast-result : goal.overflow_cast-result
overflow_cast-result c =
    omega (arith, few_units _ c.self.invariant.0, c.self.invariant.0.tree.few, ap (λ (p : Parts). length p.units.items) c.deref.ensures, length-map c.self.inside.parts.value.units.items (unit_made c.self.inside.tree.now))
