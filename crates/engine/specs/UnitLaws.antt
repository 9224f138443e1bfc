-- Laws of units.
use Rattle.std.specs.Prelude.{◌≡◌, ◌<◌, ◌⊎◌, ◌↔◌, ℕ, Bool, not, List, [], ◌∷◌, Any, Contains, Some, filter, length, map}
use Rattle.faults.specs.Pieces.{set_of}
use Rattle.listing.specs.Tree.{AreSingle, ArePositions, IsTree, Tree, build_at, path_at, run_at}
use Rattle.listing.specs.PkgPath.{IsPath, without_subpackage}
use Rattle.engine.specs.Division.{Division, IsDivision, number_found, number_named, number_of, unit_at}
use Rattle.engine.specs.Ignored.{IsIgnored}
use Rattle.engine.specs.Units.{AreUnits, IsUnitOf, Unit, positions, units_with}

-- A package that depends on an ignored one is ignored.
abbrev pub IgnoredSpreads : Type 0
IgnoredSpreads =
    (tree : Tree) (p d : ℕ) → p < length tree
    → Contains (build_at tree p) d ⊎ Contains (run_at tree p) d → IsIgnored tree d
    → IsIgnored tree p

-- A tree has only one list of units.
abbrev pub OnlyOneDivision : Type 0
OnlyOneDivision = (tree : Tree) (us vs : List Unit) → AreUnits tree us → AreUnits tree vs → us ≡ vs

-- A package is in at most one unit.
abbrev pub OnlyOneUnit : Type 0
OnlyOneUnit = (tree : Tree) (p : ℕ) (u v : Unit) → IsUnitOf tree p u → IsUnitOf tree p v → u ≡ v

-- A package has a unit if and only if it is not ignored.
abbrev pub UnitUnlessIgnored : Type 0
UnitUnlessIgnored = (d : Division) (p : ℕ) → IsDivision d → p < length d.tree
    → (¬ IsIgnored d.tree p)
    ↔ ((k : ℕ) × (number_of d p ≡ Some k) × IsUnitOf d.tree p (unit_at d k))

-- Each package of a unit is listed, and is in no other unit.
abbrev pub PackagesOfOneUnit : Type 0
PackagesOfOneUnit = (d : Division) (k p : ℕ) → IsDivision d → k < length d.units
    → Contains (unit_at d k).packages p
    → (number_of d p ≡ Some k) × IsUnitOf d.tree p (unit_at d k)

-- the properties of a unit's name and packages, whatever the tree
pub record IsNamedWell (tree : Tree) (u : Unit) : Type 0 where
  -- its name is a path
  pub name : IsPath u.name
  -- it has at least one package, and its packages are in order of path, without duplicates
  pub some : (p : ℕ) × Contains u.packages p
  pub in_order : map (path_at tree) u.packages ≡ set_of (map (path_at tree) u.packages)
  -- if it has several packages, they are equal without their subpackages, and that is the unit's
  -- name
  pub alike : (p q : ℕ) → Contains u.packages p → Contains u.packages q → (p ≡ q → ⊥)
      → u.name ≡ without_subpackage (path_at tree p)
  pub alone : (p : ℕ) → u.packages ≡ p ∷ [] → u.name ≡ path_at tree p

-- the properties of each unit, whatever the tree
pub record IsWellMade (tree : Tree) (u : Unit) : Type 0 where
  pub named : IsNamedWell tree u
  -- Its build needs what any of its packages needs. If it has several packages, the build needs
  -- none of them; a single package may need itself.
  pub needed : (q : ℕ)
      → Contains u.build q
      ↔ (Any (λ p. Contains (build_at tree p) q) u.packages
      × ((length u.packages ≡ 1) ⊎ ¬ Contains u.packages q))
  -- what its build needs is listed and not ignored
  pub needs : ArePositions tree u.build
  pub none_ignored : (q : ℕ) → Contains u.build q → ¬ IsIgnored tree q

-- The unit of a package is well made.
abbrev pub UnitsAreWellMade : Type 0
UnitsAreWellMade =
    (tree : Tree) (p : ℕ) (u : Unit) → IsTree tree → IsUnitOf tree p u → IsWellMade tree u

-- Units with equal names are equal.
abbrev pub NamesTellUnits : Type 0
NamesTellUnits = (d : Division) (j k : ℕ) → IsDivision d → j < length d.units → k < length d.units
    → (unit_at d j).name ≡ (unit_at d k).name → j ≡ k

-- A unit is found by its name, which messages and notes use.
abbrev pub NamesAreFound : Type 0
NamesAreFound = (d : Division) (k : ℕ) → IsDivision d → k < length d.units
    → number_named d (unit_at d k).name ≡ Some k

-- A unit is found by the path of each of its packages.
abbrev pub PathsAreFound : Type 0
PathsAreFound = (d : Division) (k p : ℕ) → IsDivision d → k < length d.units
    → Contains (unit_at d k).packages p
    → number_found d (path_at d.tree p) ≡ Some k

-- the unit of only this package
abbrev pub unit_alone : Tree → ℕ → Unit
unit_alone tree p = record { name = path_at tree p; packages = p ∷ []; build = build_at tree p }

-- If each package is a group of its own, the units are the packages that are not ignored, one unit
-- for each.
abbrev pub SinglesStandAlone : Type 0
SinglesStandAlone = (tree : Tree) (ignored : ℕ → Bool) → IsTree tree → AreSingle tree
    → units_with tree ignored
    ≡ map (unit_alone tree) (filter (λ p. not (ignored p)) (positions tree))
