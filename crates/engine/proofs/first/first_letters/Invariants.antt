use Rattle.std.proofs.Common.{◌≡◌, ◌<◌, ℕ, false, length}
use Rattle.engine.specs.shared.Keeping.{holds}
use Rattle.engine.specs.inside.Queueing.{FitsUnit}
use Rattle.engine.specs.shared.Shown.{letter_at}
use Rattle.engine.proofs.first.first_letters.Given as goal

abbrev pub invariant-loop-position : goal.invariant-loop-position
invariant-loop-position l = record {
  each : length l.letters ≡ length l.units.tree;
  fit : (p : ℕ) → p < l.position → FitsUnit l.units l.waits p (letter_at l.letters p);
  none_held : (p : ℕ) → holds l.letters p ≡ false;
}
