-- How units are stored.
use Rattle.std.specs.Prelude.{◌≡◌, ◌<◌, ℕ, ◌&&◌, not, List, [], ◌∷◌, Option, None, Contains, filter, flat_map, length, map}
use Rattle.std.specs.List.{IsDistinct, slice_index_or}
use Rattle.std.specs.List.Sorted.{IsStrictlyIncreasing}
use Rattle.std.specs.Str.{bytes_eq}
use Rattle.faults.specs.Bytes.{Text}
use Rattle.listing.specs.Tree.{Tree, build_at, group_at}
use Rattle.engine.specs.Division.{Division, number_of, unit_at}
use Rattle.engine.specs.Units.{Unit, is_in, is_needed, name_of, positions}
use Rattle.engine.specs.declared.making.Made.{Made}

-- The positions ascend, there is at least one, and their packages are in one group.
pub record AreAlike (tree : Tree) (ps : List ℕ) : Type 0 where
  pub some : 0 < length ps
  pub listed : (p : ℕ) → Contains ps p → p < length tree
  pub rising : IsStrictlyIncreasing ps
  pub alike : (p q : ℕ) → Contains ps p → Contains ps q → group_at tree p ≡ group_at tree q

-- what these packages need to be built, except the packages themselves
abbrev pub needed_by : Tree → List ℕ → List ℕ
needed_by tree ps = filter (λ d. is_needed tree ps d && not (is_in ps d)) (positions tree)

-- the build dependencies of these packages, one package after another, except the unit's own
-- packages
abbrev pub needs_in_turn : Tree → List ℕ → List ℕ → List ℕ
needs_in_turn tree own ps = flat_map (λ p. filter (λ d. not (is_in own d)) (build_at tree p)) ps

-- the build dependencies of a unit: a single package's are in the tree, those of several are stored
-- with the unit
abbrev pub build_kept : Tree → List ℕ → List ℕ → List ℕ
build_kept tree [] build = build
build_kept tree (p ∷ []) build = build_at tree p
build_kept tree (p ∷ q ∷ ps) build = build

-- the unit that is stored like this
abbrev pub unit_made : Tree → Made → Unit
unit_made tree m = record {
  name = name_of tree m.packages.items;
  packages = m.packages.items;
  build = build_kept tree m.packages.items m.build.items;
}

-- a tree with the units that are stored like this
abbrev pub division_made : Tree → List Made → Division
division_made tree ms = record { tree = tree; units = map (unit_made tree) ms }

-- The list has, for each position, the number of its package's unit.
abbrev pub AreNumbers : Division → List (Option ℕ) → Type 0
AreNumbers d numbers = (length numbers ≡ length d.tree)
    × ((p : ℕ) → p < length d.tree → slice_index_or numbers p None ≡ number_of d p)

-- These are the groups of the units, which all differ.
pub record AreGroups (d : Division) (groups : List Text) : Type 0 where
  pub each : length groups ≡ length d.units
  pub once : IsDistinct bytes_eq groups
  pub group : (k p : ℕ) → k < length d.units → Contains (unit_at d k).packages p
      → group_at d.tree p ≡ slice_index_or groups k []
