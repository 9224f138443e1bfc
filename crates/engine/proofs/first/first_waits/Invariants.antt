use Rattle.std.proofs.Common.{◌≡◌, ◌<◌, ℕ, get_or, length}
use Rattle.engine.specs.inside.Queueing.{needs_of}
use Rattle.engine.proofs.first.first_waits.Given as goal

abbrev pub invariant-loop-unit : goal.invariant-loop-unit
invariant-loop-unit l = record {
  each : length l.waits.items ≡ l.unit;
  counted : (u : ℕ) → u < l.unit → get_or l.waits.items u 0 ≡ length (needs_of l.units u);
}
