use Rattle.std.proofs.Common.{◌≡◌, ℕ, Some, length, slice_get}
use Rattle.simulator.specs.declared.slot.Slot.{Slot}
use Rattle.simulator.specs.inside.Starting.{IsUpFresh}
use Rattle.simulator.proofs.world_state.fresh_nodes.Given as goal

abbrev pub invariant-loop-me : goal.invariant-loop-me
invariant-loop-me l = record {
  count : length l.nodes.items ≡ l.me;
  each : (k : ℕ) (x : Slot) → slice_get l.nodes.items k ≡ Some x → IsUpFresh l.tree l.weights k x;
}
