-- The parts of a package name: `stem-version[-flavors]`.
use Rattle.std.specs.Prelude.{◌≡◌, ◌+◌, ◌-◌, ℕ, Bool, false, ◌&&◌, ◌||◌, ◌==◌, not, nat_lt, List, [], ◌∷◌, length, take, drop, find, codes, unwrap_or, slice_get, slice_index, is_some, option_map, Option, Result, Ok}
use Rattle.std.specs.Char.{is_ascii_digit}
use Rattle.std.specs.List.{list_all, list_any, range_with_len}
use Rattle.std.specs.Option.{option_map_or}
use Rattle.faults.specs.Answers.{first_that_applies, unless_fault}
use Rattle.faults.specs.Bytes.{Text, dash, is_empty, is_one_of, is_word_byte}
use Rattle.faults.specs.Pieces.{pieces_at}
use Rattle.pkgname.specs.declared.NameFault.{NameFault}
use Rattle.pkgname.specs.declared.NameFault.TheVariants.{TooLong, BadByte, NoVersion}

-- a byte that is allowed in a name: a word byte other than these nine
abbrev pub is_name_byte : ℕ → Bool
is_name_byte b = is_word_byte b && not (is_one_of (codes "/:|,!*<>=") b)

-- ---- where a version begins

-- whether there is a dash at the place, followed by a byte that can begin a version
abbrev pub is_dash_before : (ℕ → Bool) → Text → ℕ → Bool
is_dash_before begins text i =
    slice_index text i == dash && option_map_or begins (slice_get text (i + 1)) false

-- the first such place after the text's first byte, if there is one
abbrev pub version_dash : (ℕ → Bool) → Text → Option ℕ
version_dash begins text = find (is_dash_before begins text) (range_with_len 1 (length text - 1))

-- the parts of a text: a stem, a version, and flavors in their order
pub record Parts : Type 0 where
  pub stem : Text
  pub version : Text
  pub flavors : List Text

-- the parts of a text, given the place of the dash before its version: the stem before it, the
-- version after it up to the next dash or the end, and then the flavors, separated by dashes
abbrev pub parts_round : Text → ℕ → Parts
parts_round text place =
    let pieces = pieces_at dash (drop (place + 1) text) in
    record {
      stem = take place text;
      version = unwrap_or (slice_get pieces 0) [];
      flavors = drop 1 pieces;
    }

-- the parts of a text, given by the first such dash, if there is one
abbrev pub parts_by : (ℕ → Bool) → Text → Option Parts
parts_by begins text = option_map (parts_round text) (version_dash begins text)

-- ---- names

-- the parts of a name, whose version begins with a digit
abbrev pub parts_of : Text → Option Parts
parts_of text = parts_by is_ascii_digit text

-- whether the text has a version, and an empty flavor after it
abbrev pub has_empty_flavor : Text → Bool
has_empty_flavor text = option_map_or (λ p. list_any is_empty p.flavors) (parts_of text) false

-- the fault of a text that is not a name, the first that applies: it has more than 255 bytes; it
-- has a byte that isn't allowed, or an empty flavor; it has no version
abbrev pub fault_of : Text → Option NameFault
fault_of text = first_that_applies (
    (nat_lt 255 (length text), TooLong)
    ∷ (not (list_all is_name_byte text) || has_empty_flavor text, BadByte)
    ∷ (not (is_some (parts_of text)), NoVersion)
    ∷ [])

-- the text if it is a name, or else its fault
abbrev pub name_of : Text → Result Text NameFault
name_of text = unless_fault (fault_of text) text

-- the text is a package name
abbrev pub IsName : Text → Type 0
IsName text = name_of text ≡ Ok text

-- the stem of a name
abbrev pub stem_of : Text → Text
stem_of name = option_map_or (λ p. p.stem) (parts_of name) []

-- the version of a name
abbrev pub version_of : Text → Text
version_of name = option_map_or (λ p. p.version) (parts_of name) []

-- the flavors of a name, in their order
abbrev pub flavors_of : Text → List Text
flavors_of name = option_map_or (λ p. p.flavors) (parts_of name) []
