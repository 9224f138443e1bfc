-- A row of bits, in words of 64.
use Rattle.std.specs.Prelude.{◌≡◌, ◌+◌, ◌/◌, ◌%◌, ℕ, Bool, true, false, List, length, slice_index_or}
use Rattle.std.specs.Int.{bit_at}
use Rattle.engine.specs.declared.Letter.{Letter}
use Rattle.engine.specs.declared.Letter.TheVariants.{T, Q, B, I, Ignored}
use Rattle.engine.specs.declared.row.Row.{Row}
use Rattle.graph.specs.Lists.{one_if}
use Rattle.engine.specs.shared.Shown.{letter_at}

-- the bit of a position: 1 if it is set, otherwise 0
abbrev pub bit_of : Row → ℕ → ℕ
bit_of row p = bit_at (slice_index_or row.words.items (p / 64) 0) (p % 64)

-- Whether the letter is Q.
abbrev pub is_queued : Letter → Bool
is_queued Q = true
is_queued T = false
is_queued B = false
is_queued I = false
is_queued Ignored = false

-- The set bits are exactly those of the positions with the letter Q.
pub record HasQueued (letters : List Letter) (row : Row) : Type 0 where
  pub room : length row.words.items ≡ length letters / 64 + 1
  pub bits : (p : ℕ) → bit_of row p ≡ one_if (is_queued (letter_at letters p))
