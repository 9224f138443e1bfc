use Rattle.std.proofs.Common.{◌≡◌, ◌<◌, ℕ, length}
use Rattle.graph.specs.Marks.{has_mark}
use Rattle.engine.specs.Letters.{IsLetter}
use Rattle.engine.specs.shared.Shown.{letter_at}
use Rattle.status_letters.proofs.lettering.letters_of.Given as goal

abbrev pub invariant-loop-position : goal.invariant-loop-position
invariant-loop-position l = record {
  each : length l.letters.items ≡ l.position;
  are : (q : ℕ) → q < l.position → IsLetter l.tree (has_mark l.held) q (letter_at l.letters.items q);
}
