-- Pairs of hexadecimal digits.
use Rattle.std.proofs.Common.{◌≡◌, ◌+◌, ◌*◌, ◌<◌, ◌≤◌, ℕ, Some, Ok, refl, arith}
use Rattle.hex.specs.Hex.{hex_digit_value, pair_value}

-- the byte of two digits
pub pair_read : (a b high low i : ℕ) → (high ≤ 15 → hex_digit_value a ≡ Some high) → (low ≤ 15 → hex_digit_value b ≡ Some low) → high < 16 → low < 16 → pair_value a b i ≡ Ok (high * 16 + low)
pair_read a b high low i first second h l = rw (first (omega arith), second (omega arith)) refl
