-- The values that clap matched for arguments.
use Rattle.std.specs.Prelude.{◌≡◌, ◌↔◌, ◌≤◌, ℕ, codes, List, Bool, Option, None, Some, false, true}
use Rattle.std.specs.Option.{option_map_or}
use Rattle.std.specs.Str.{bytes_eq}
use Rattle.std.specs.Str.Parse.{digits_value, without_leading_plus}
use Rattle.clap.specs.Words.{Row, Text, first_of, one_of}
use Rattle.dpbr_cli.specs.declared.call_table.Kind.{Kind}
use Rattle.dpbr_cli.specs.declared.call_table.Kind.TheVariants.{Flag, Number, Word}

-- the first word that was matched for an argument
abbrev pub IsWord : List Row → Text → Text → Type 0
IsWord rows id value = first_of id rows ≡ Some value

-- the first word that was matched for an argument, if any
abbrev pub IsWordIf : List Row → Text → Option Text → Type 0
IsWordIf rows id value = first_of id rows ≡ value

-- the number that was matched for an argument
abbrev pub IsNumber : List Row → Text → ℕ → Type 0
IsNumber rows id n =
    (t : Text) × (one_of id rows ≡ Some t) × (digits_value 10 (without_leading_plus t) ≡ n)

-- the number that was matched for an argument of this kind, and is in the kind's range
abbrev pub IsNumberOf : List Row → Text → Kind → ℕ → Type 0
IsNumberOf rows id (Number least most) n = IsNumber rows id n × (least ≤ n) × (n ≤ most)
IsNumberOf rows id Word n = ⊥
IsNumberOf rows id Flag n = ⊥

-- such a number, if any
abbrev pub IsNumberIf : List Row → Text → Kind → Option ℕ → Type 0
IsNumberIf rows id kind None = first_of id rows ≡ None
IsNumberIf rows id kind (Some n) = IsNumberOf rows id kind n

-- whether the flag was given
abbrev pub IsFlag : List Row → Text → Bool → Type 0
IsFlag rows id given = (given ≡ true) ↔ (first_of id rows ≡ Some (codes "true"))

-- the flag was given, as a test
abbrev pub is_set : List Row → Text → Bool
is_set rows id = option_map_or (λ text. bytes_eq text (codes "true")) (first_of id rows) false
