-- How the rows of a table represent what lines set.
use Rattle.std.specs.Prelude.{◌≡◌, ◌<◌, ◌≤◌, ◌++◌, ◌∷◌, ◌⊎◌, ℕ, List, [], All, length, find, option_and_then, option_map, Option, None, Some, IfSome, MatchResult, Ok, Result, is_some, if◌then◌else◌}
use Rattle.std.specs.List.{slice_index_or, IsDistinct}
use Rattle.std.specs.Str.{bytes_eq}
use Rattle.faults.specs.Answers.{option_or}
use Rattle.faults.specs.Bytes.{Text}
use Rattle.pkgpath.specs.PkgPath.{IsPath, path_of}
use Rattle.listing.specs.Lines.{Setting}
use Rattle.listing.specs.Listing.{paths_of, setting_fault, value_of}
use Rattle.listing.specs.inside.Parts.{IsReadAs, name_of_variable}
use Rattle.listing.specs.Rules.{names_and_specs}
use Rattle.listing.specs.Tree.{most_paths}
use Rattle.listing.specs.declared.ListingFault.{ListingFault}
use Rattle.listing.specs.declared.ListingFault.TheVariants.{Memory, NoName}
use Rattle.listing.specs.declared.line.Variable.{Variable}
use Rattle.listing.specs.declared.line.Variable.TheVariants.{FullName, BuildDepends, LibDepends, RunDepends, Ignore}
use Rattle.listing.specs.declared.table.Reading.{Reading}
use Rattle.listing.specs.declared.table.Reading.TheVariants.{Name, Numbers, Unread}
use Rattle.listing.specs.declared.table.Row.{Row}
use Rattle.listing.specs.declared.table.Table.{Table}
use Rattle.listing.specs.declared.table.Value.{Value}
use denote.Ref.{Bor}

-- the value of a variable in a row
abbrev pub value_in : Variable → Row → Option Value
value_in FullName row = row.name
value_in BuildDepends row = row.build
value_in LibDepends row = row.lib
value_in RunDepends row = row.run
value_in Ignore row = row.ignore

-- the row with one more value; a value that is already set stays
abbrev pub with_value : Row → Variable → Value → Row
with_value row FullName x = record row { name = option_or row.name (Some x) }
with_value row BuildDepends x = record row { build = option_or row.build (Some x) }
with_value row LibDepends x = record row { lib = option_or row.lib (Some x) }
with_value row RunDepends x = record row { run = option_or row.run (Some x) }
with_value row Ignore x = record row { ignore = option_or row.ignore (Some x) }

-- the text of a variable's value in a row
abbrev pub text_in : Variable → Row → Option Text
text_in v row = option_map (λ x. x.text.now) (value_in v row)

-- the setting of a variable of a path to a value, by a line
abbrev pub setting : ℕ → Text → Variable → Text → Setting
setting line path variable value = record {
  line = line;
  path = path;
  variable = name_of_variable variable;
  value = value;
}

-- the name, if the value was read as a name
abbrev pub name_read : Reading → Option Text
name_read (Name name) = Some name
name_read (Numbers numbers) = None
name_read Unread = None

-- the package's name in a row, if it is set
abbrev pub name_in : Row → Option Text
name_in row = option_and_then (λ x. name_read x.reading) row.name

-- the fault of a row without a name
abbrev pub row_fault : Row → Option ListingFault
row_fault row = if is_some (name_in row) then None else Some (NoName row.line)

-- The row has exactly what the settings set for the path.
pub record IsRowOf (settings : List Setting) (words : List Text) (path : Text)
    (row : Row) : Type 0 where
  pub line : option_map (λ s. s.line) (find (λ s. bytes_eq s.path path) settings) ≡ Some row.line
  pub values : (v : Variable) → value_of settings path (name_of_variable v) ≡ text_in v row
  pub reads : (v : Variable) → IfSome (value_in v row) (λ x. IsReadAs words v x.text.now x.reading)
  pub spelled : path_of row.spelled.now ≡ Ok path

-- a row in which nothing is set, with the first line of its path and the spelling there
abbrev pub new_row : ℕ → Bor Text → Row
new_row line spelled = record {
  line = line;
  spelled = spelled;
  name = None;
  build = None;
  lib = None;
  run = None;
  ignore = None;
}

-- read only if a position is out of range
abbrev pub no_row : Row
no_row = new_row 0 (record { ref_ptr = (0, 0); now = [] })

-- This text spells the path of the row at the index, in the first line of that path.
abbrev pub IsSpelled : List Row → ℕ → Text → Type 0
IsSpelled rows at spelled =
    (at < length rows) × ((slice_index_or rows at no_row).spelled.now ≡ spelled)

-- The paths and their rows represent exactly these settings.
pub record AreRowsOf (settings : List Setting) (words : List Text) (paths : List Text)
    (rows : List Row) : Type 0 where
  pub all : paths ≡ paths_of settings
  pub lengths : length rows ≡ length paths
  pub each : (k : ℕ) (d : Row) → k < length paths
      → IsRowOf settings words (slice_index_or paths k []) (slice_index_or rows k d)
  pub once : IsDistinct bytes_eq paths
  pub few : length paths ≤ most_paths
  pub spelled : All IsPath paths

-- The table represents exactly these settings.
abbrev pub Stands : Table → List Setting → Type 0
Stands table settings = AreRowsOf settings table.dependencies table.paths.keys table.rows.items

-- After the settings of earlier lines, the call adds one more setting to the table, or returns the
-- setting's fault, or runs out of memory.
abbrev pub IsTakenIn : Table → Setting → Result Unit ListingFault → Table → Type 0
IsTakenIn old s result new =
    (earlier : List Setting) → Stands old earlier → MatchResult result
    (λ _. (setting_fault names_and_specs earlier s ≡ None) × Stands new (earlier ++ s ∷ []))
    (λ e. (e ≡ Memory) ⊎ (setting_fault names_and_specs earlier s ≡ Some e))
