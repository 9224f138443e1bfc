use Rattle.std.proofs.Common.{◌≡◌, All, false, nat_eq}
use Rattle.indexmap.specs.IndexSet.{contains}
use Rattle.scheduler.proofs.desk.Desk.unmarked.Given as goal

abbrev pub invariant-loop-unit : goal.invariant-loop-unit
invariant-loop-unit l = All (λ u. contains nat_eq l.self.unwritten u ≡ false) l.units.items
