-- Matches that have a value for each argument of a call.
use Rattle.std.specs.Prelude.{◌≡◌, ◌⊎◌, ◌≤◌, ℕ, find, pos, List, [], ◌∷◌, Option, None, Some}
use Rattle.std.specs.Str.{bytes_eq}
use Rattle.clap.specs.Words.{IsSignedIn, Row, Text, first_of, one_of, without_minus}
use Rattle.dpbr_cli.specs.Table.{ArgumentRow, SubcommandRow}
use Rattle.dpbr_cli.specs.Values.{IsNumber, IsWord}
use Rattle.dpbr_cli.specs.declared.call_table.Kind.{Kind}
use Rattle.dpbr_cli.specs.declared.call_table.Kind.TheVariants.{Flag, Number, Word}
use Rattle.dpbr_cli.specs.declared.call_table.Place.{Place}
use Rattle.dpbr_cli.specs.declared.call_table.Place.TheVariants.{Needed, Optional, Positional}

-- ---- numbers

-- the number in this range that was matched for the argument
abbrev pub IsNumberIn : List Row → Text → ℕ → ℕ → ℕ → Type 0
IsNumberIn rows id least most n = IsNumber rows id n × (least ≤ n) × (n ≤ most)

-- a number in this range was matched for the argument
abbrev pub HasNumber : List Row → Text → ℕ → ℕ → Type 0
HasNumber rows id least most =
    (t : Text) × IsSignedIn (pos least) (pos most) t × (one_of id rows ≡ Some (without_minus t))

-- the kind is that of numbers, and one in its range was matched for the argument
abbrev pub HasNumberOf : List Row → Text → Kind → Type 0
HasNumberOf rows id (Number least most) = HasNumber rows id least most
HasNumberOf rows id Word = ⊥
HasNumberOf rows id Flag = ⊥

-- nothing was matched for the argument, or such a number
abbrev pub MayHaveNumber : List Row → Text → Kind → Type 0
MayHaveNumber rows id kind = (first_of id rows ≡ None) ⊎ HasNumberOf rows id kind

-- ---- arguments

-- a value of this kind was matched for the argument; a flag needs none
abbrev pub HasValue : List Row → Text → Kind → Type 0
HasValue rows id Word = (t : Text) × IsWord rows id t
HasValue rows id (Number least most) = HasNumber rows id least most
HasValue rows id Flag = Unit {0}

-- such a value was matched for the argument, or nothing if it may be left out
abbrev pub HasValueAt : Place → List Row → Text → Kind → Type 0
HasValueAt Positional rows id kind = HasValue rows id kind
HasValueAt Optional rows id kind = (first_of id rows ≡ None) ⊎ HasValue rows id kind
HasValueAt Needed rows id kind = HasValue rows id kind

module _ {A : Type 0} (text : A → Text) (found : List Row) where
  -- what the row of an argument requires was matched
  abbrev pub HasArgument : ArgumentRow A → Type 0
  HasArgument a = HasValueAt a.1 found (text a.0) a.2

  -- what the rows of arguments require was matched
  abbrev pub HasArguments : List (ArgumentRow A) → Type 0
  HasArguments [] = Unit {0}
  HasArguments (a ∷ more) = HasArgument a × HasArguments more

module _ {A B C : Type 0} (text : A → Text) (rows : B → List (ArgumentRow A))
    (lists : C → List B) where
  -- what the rows of lists of arguments require was matched
  abbrev pub HasLists : List Row → List B → Type 0
  HasLists found [] = Unit {0}
  HasLists found (list ∷ more) = HasArguments text found (rows list) × HasLists found more

  -- what the row of a subcommand requires was matched
  abbrev pub HasSubcommand : List Row → Option (SubcommandRow A C) → Type 0
  HasSubcommand found None = ⊥
  HasSubcommand found (Some s) = HasLists found (lists s.2)

  -- clap matched a subcommand of the table, and what its row requires
  abbrev pub HasCall : List (SubcommandRow A C) → Option (Text × List Row) → Type 0
  HasCall calls None = ⊥
  HasCall calls (Some (name, found)) =
      HasSubcommand found (find (λ s. bytes_eq (text s.0) name) calls)
