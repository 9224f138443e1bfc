-- Whether opening a file of at least two bytes would make a log of it.
use Rattle.std.specs.Prelude.{◌≡◌, ◌≢◌, ◌≤◌, ◌⊎◌, ℕ}
use Rattle.faults.specs.Bytes.{Text}

-- by the length, the gate, the bytes after it, the length of a log without notes, and the magic
abbrev pub IsBlankBehind : ℕ → ℕ → Text → ℕ → Text → Type 0
IsBlankBehind len gate behind new_len own_magic =
    ((gate ≡ 0) × (len ≤ new_len))
    ⊎ ((gate ≢ 1) × (len ≡ new_len) × (behind ≡ own_magic))
