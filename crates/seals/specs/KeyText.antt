-- How a key is written.
use Rattle.std.specs.Prelude.{◌≡◌, ◌∷◌, ◌++◌, [], Ok}
use Rattle.faults.specs.Bytes.{Text, line_feed}
use Rattle.hex.specs.Hex.{decode_sized}

-- The text is a line with the hexadecimal digits of the key's 32 bytes, in upper or lower case.
pub record WritesKey (text key : Text) : Type 0 where
  pub digits : Text
  pub is_line : text ≡ digits ++ line_feed ∷ []
  pub are_digits : decode_sized digits 32 ≡ Ok key
