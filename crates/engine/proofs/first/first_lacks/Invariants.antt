use Rattle.std.proofs.Common.{◌≡◌, ◌<◌, ◌^◌, ℕ, get_or, length}
use Rattle.listing.specs.Tree.{run_at}
use Rattle.engine.proofs.first.first_lacks.Given as goal

abbrev pub invariant-loop-position : goal.invariant-loop-position
invariant-loop-position l = record {
  each : length l.lacks.items ≡ l.position;
  counted : (p : ℕ) → p < l.position → (get_or l.lacks.items p 0 ≡ length (run_at l.tree p)) × (length (run_at l.tree p) < 2 ^ 64);
}
