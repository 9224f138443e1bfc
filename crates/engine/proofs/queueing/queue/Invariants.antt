use Rattle.std.proofs.Common.{◌≡◌, ◌≢◌, ◌<◌, ◌⊎◌, ℕ, Contains, get_or, length}
use Rattle.engine.specs.shared.Shown.{letter_at}
use Rattle.engine.specs.declared.Letter.TheVariants.{T, Q}
use Rattle.engine.proofs.queueing.queue.Given as goal

abbrev pub invariant-loop-position : goal.invariant-loop-position
invariant-loop-position l = record {
  each : length l.letters ≡ length l.initial.letters;
  only : (p : ℕ) → (letter_at l.letters p ≡ letter_at l.initial.letters p)
      ⊎ (Contains l.packages p × (letter_at l.initial.letters p ≡ T) × (letter_at l.letters p ≡ Q));
  all : (k : ℕ) → k < l.position-index → letter_at l.letters (get_or l.packages k 0) ≢ T;
}
