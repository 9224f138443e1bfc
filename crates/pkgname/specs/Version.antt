-- The contents of a version: its markers, and the components of its body.
use Rattle.std.specs.Prelude.{◌≡◌, ◌-◌, ℕ, Bool, true, false, ◌&&◌, not, List, [], ◌∷◌, length, take, drop, map, nat_eq, slice_get, Option, Some, None, if◌then◌else◌}
use Rattle.std.specs.Char.{is_ascii_digit}
use Rattle.std.specs.List.{ends_with, list_all, prefix_len, suffix_len, take_while}
use Rattle.std.specs.Option.{option_map_or}
use Rattle.std.specs.Str.Parse.{digits_value}
use Rattle.faults.specs.Bytes.{Text, dash, dot, has_byte, is_empty, letter_p, letter_v}
use Rattle.faults.specs.Pieces.{pieces_at}
use Rattle.pkgname.specs.PkgName.{is_name_byte}

-- whether the text is a version: it begins with a digit, and its bytes are allowed in a name and
-- not dashes
abbrev pub is_version : Text → Bool
is_version text =
    option_map_or is_ascii_digit (slice_get text 0) false
    && list_all is_name_byte text && not (has_byte dash text)

-- the text is that of a version
abbrev pub IsVersion : Text → Type 0
IsVersion text = is_version text ≡ true

-- the number that digits write in base ten; no digits are 0
abbrev pub number_of : Text → ℕ
number_of digits = digits_value 10 digits

-- ---- the markers at the end

-- the digits at the end of the text
abbrev pub digits_at_end : Text → Text
digits_at_end text = drop (length text - suffix_len is_ascii_digit text) text

-- the text before the digits at its end
abbrev pub before_digits_at_end : Text → Text
before_digits_at_end text = take (length text - suffix_len is_ascii_digit text) text

-- whether the text ends with the letter and at least one digit
abbrev pub has_marker : ℕ → Text → Bool
has_marker letter text =
    not (is_empty (digits_at_end text))
    && ends_with nat_eq (before_digits_at_end text) (letter ∷ [])

-- the number of the marker with this letter, if the text ends with one
abbrev pub marker : ℕ → Text → Option ℕ
marker letter text = if has_marker letter text then Some (number_of (digits_at_end text)) else None

-- the text without the marker with this letter, if it ends with one
abbrev pub without_marker : ℕ → Text → Text
without_marker letter text =
    if has_marker letter text then take (length (before_digits_at_end text) - 1) text else text

-- ---- the components of the body

-- a piece between dots in the body of a version
pub record Component : Type 0 where
  -- the number that its leading digits write
  pub number : ℕ
  -- the text after them
  pub rest : Text

-- the component of a piece of a body: the number of its leading digits, and the text after them
abbrev pub component_of : Text → Component
component_of piece = record {
  number = number_of (take_while is_ascii_digit piece);
  rest = drop (prefix_len is_ascii_digit piece) piece;
}

-- the components of a body: those of its pieces between dots, from the left
abbrev pub components_of : Text → List Component
components_of body = map component_of (pieces_at dot body)

-- the contents of a version: the number of its marker v, if it has one, its components, and the
-- number of its marker p, if it has one
pub record Parts : Type 0 where
  pub v : Option ℕ
  pub components : List Component
  pub p : Option ℕ

-- the contents of a version's text: the marker v is at its end, the marker p at the end of what
-- precedes that, and the rest is the body
abbrev pub parts_of : Text → Parts
parts_of text =
    let without_v = without_marker letter_v text in
    record {
      v = marker letter_v text;
      components = components_of (without_marker letter_p without_v);
      p = marker letter_p without_v;
    }
