-- What contracts see of the bare packages of a tree.
use Rattle.std.specs.Prelude.{ℕ, ◌≡◌, ◌<◌, ◌&&◌, ◌||◌, ◌==◌, Bool, false, not, List, [], All, ◌++◌, length, map, filter_map, position, Option, None, Some, slice_index_or}
use Rattle.std.specs.List.{list_all, list_any, zip}
use Rattle.std.specs.List.Sorted.{IsStrictlyIncreasing}
use Rattle.std.specs.Option.{option_map_or}
use Rattle.std.specs.Str.{bytes_eq}
use Rattle.faults.specs.Bytes.{Text, is_empty}
use Rattle.pkgspec.specs.Matching.{matches}
use Rattle.pkgspec.specs.Spec.{Alternative}
use Rattle.listing.specs.Dependencies.{specs_of}
use Rattle.listing.specs.inside.Parts.{position_of_word}
use Rattle.listing.specs.Rules.{names_and_specs}
use Rattle.listing.specs.inside.Table.{name_in, no_row}
use Rattle.listing.specs.Tree.{Package, Tree}
use Rattle.listing.specs.declared.dependency.Dependency.{Dependency}
use Rattle.listing.specs.declared.dependency.Resolution.{Resolution}
use Rattle.listing.specs.declared.bare_package.BarePackage.{BarePackage}
use Rattle.listing.specs.declared.table.Reading.{Reading}
use Rattle.listing.specs.declared.table.Reading.TheVariants.{Name, Numbers, Unread}
use Rattle.listing.specs.declared.table.Row.{Row}
use Rattle.listing.specs.declared.table.Table.{Table}
use Rattle.listing.specs.declared.table.Value.{Value}

-- the package with the path and this bare package; the function gives the path's group
abbrev pub package_of_bare : (Text → Text) → Text → BarePackage → Package
package_of_bare group path n = record {
  path = path;
  group = group path;
  name = n.name;
  build = n.build.items;
  run = n.run.items;
  is_marked = n.is_marked;
}

-- the packages with these paths and bare packages
abbrev pub packages_of : (Text → Text) → List Text → List BarePackage → Tree
packages_of group paths bare_packages =
    map (λ e. package_of_bare group e.0 e.1) (zip paths bare_packages)

-- the value of a variable, or the empty text if it isn't set
abbrev pub text_of_value : Option Value → Text
text_of_value None = []
text_of_value (Some v) = v.text.now

-- the numbers of the dependencies, if the value was read as dependencies
abbrev pub numbers_read : Reading → List ℕ
numbers_read (Name name) = []
numbers_read (Numbers numbers) = numbers.items
numbers_read Unread = []

-- the numbers of the dependencies, or none if the variable isn't set
abbrev pub numbers_of_value : Option Value → List ℕ
numbers_of_value None = []
numbers_of_value (Some v) = numbers_read v.reading

-- Each dependency of the row has a number below n.
pub record HasNumbersBelow (n : ℕ) (row : Row) : Type 0 where
  pub build : All (λ k. k < n) (numbers_of_value row.build)
  pub lib : All (λ k. k < n) (numbers_of_value row.lib)
  pub run : All (λ k. k < n) (numbers_of_value row.run)

-- the resolution of a dependency that isn't listed
abbrev pub unlisted : Resolution
unlisted = record { position = None; is_met = false }

-- the resolution of a dependency whose path has this position: it is met if the name in the row
-- there is acceptable
abbrev pub resolution_at : List Row → (Text → Bool) → Option ℕ → Resolution
resolution_at rows will_do None = unlisted
resolution_at rows will_do (Some p) = record {
  position = Some p;
  is_met = option_map_or will_do (name_in (slice_index_or rows p no_row)) false;
}

-- Whether all these specs match the name.
abbrev pub all_match : List (List Alternative) → Text → Bool
all_match specs name = list_all (λ spec. matches spec name) specs

-- Whether all specs of the word match the name.
abbrev pub word_matches : Text → Text → Bool
word_matches word name = list_all (λ spec. names_and_specs.matches spec name) (specs_of word)

-- the resolution of a parsed dependency, given the listed paths and their rows
abbrev pub resolution_of : List Text → List Row → Dependency → Resolution
resolution_of listed rows d =
    resolution_at rows (all_match d.specs.items) (position (bytes_eq d.path) listed)

-- the resolution of a dependency as written, given the listed paths and their rows
abbrev pub resolution_of_word : List Text → List Row → Text → Resolution
resolution_of_word listed rows word =
    resolution_at rows (word_matches word) (position_of_word listed word)

-- the positions of those dependencies that are listed, in the same order
abbrev pub listed_positions : List Resolution → List ℕ → List ℕ
listed_positions resolutions numbers =
    filter_map (λ n. (slice_index_or resolutions n unlisted).position) numbers

-- Whether all dependencies with these numbers are met.
abbrev pub are_met : List Resolution → List ℕ → Bool
are_met resolutions numbers = list_all (λ n. (slice_index_or resolutions n unlisted).is_met) numbers

-- `ps` has the elements of `xs`, ascending and without duplicates.
pub record IsSetOf (ps xs : List ℕ) : Type 0 where
  pub rising : IsStrictlyIncreasing ps
  pub members : (p : ℕ) → list_any (λ q. q == p) ps ≡ list_any (λ q. q == p) xs

-- Whether IGNORE isn't empty in the row, or a dependency in it isn't met.
abbrev pub is_marked_by : List Resolution → Row → Bool
is_marked_by resolutions row = not (is_empty (text_of_value row.ignore))
    || not (are_met resolutions (numbers_of_value row.build)
    && are_met resolutions (numbers_of_value row.lib)
    && are_met resolutions (numbers_of_value row.run))

-- The bare package is the one of the row, given these resolutions of dependencies.
pub record IsBarePackageOf (resolutions : List Resolution) (row : Row)
    (n : BarePackage) : Type 0 where
  pub name : name_in row ≡ Some n.name
  pub build : IsSetOf n.build.items
      (listed_positions resolutions (numbers_of_value row.build)
      ++ listed_positions resolutions (numbers_of_value row.lib))
  pub run : IsSetOf n.run.items
      (listed_positions resolutions (numbers_of_value row.lib)
      ++ listed_positions resolutions (numbers_of_value row.run))
  pub marked : n.is_marked ≡ is_marked_by resolutions row

-- The bare packages are those of the rows, in the same order.
pub record AreBarePackagesOf (resolutions : List Resolution) (rows : List Row)
    (bare_packages : List BarePackage) : Type 0 where
  pub lengths : length bare_packages ≡ length rows
  pub each : (k : ℕ) (d : Row) (e : BarePackage) → k < length rows
      → IsBarePackageOf resolutions (slice_index_or rows k d) (slice_index_or bare_packages k e)

-- the resolution of each dependency of the table
abbrev pub resolutions_in : Table → List Resolution
resolutions_in table = map (resolution_of_word table.paths.keys table.rows.items) table.dependencies

-- The bare packages are those of the table's rows.
abbrev pub AreBarePackagesOfTable : Table → List BarePackage → Type 0
AreBarePackagesOfTable table bare_packages =
    AreBarePackagesOf (resolutions_in table) table.rows.items bare_packages
