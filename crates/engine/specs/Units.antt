-- Which packages one build makes. A set of positions is given by its characteristic function.
use Rattle.std.specs.Prelude.{◌≡◌, ◌<◌, ℕ, Bool, false, ◌&&◌, ◌==◌, not, nat_le, List, [], ◌∷◌, filter, filter_map, length, map}
use Rattle.std.specs.List.{list_all, list_any, range_with_len}
use Rattle.std.specs.Str.{bytes_eq}
use Rattle.faults.specs.Bytes.{Text}
use Rattle.faults.specs.Pieces.{set_of}
use Rattle.listing.specs.Tree.{Tree, build_at, group_at, path_at, position_of}
use Rattle.engine.specs.Ignored.{AreTheIgnored}

-- the packages that one build makes
pub record Unit : Type 0 where
  -- the path of its only package, or the path that names the group of its packages
  pub name : Text
  -- the positions of its packages, in order of path
  pub packages : List ℕ
  -- the positions of what its build needs: ascending, without duplicates
  pub build : List ℕ

-- Whether the position is in the list.
abbrev pub is_in : List ℕ → ℕ → Bool
is_in ps p = list_any (λ q. q == p) ps

-- the positions of all packages
abbrev pub positions : Tree → List ℕ
positions tree = range_with_len 0 (length tree)

-- ---- one unit, made of packages at ascending positions

-- the positions in order of path
abbrev pub in_order_of_path : Tree → List ℕ → List ℕ
in_order_of_path tree ps = filter_map (position_of tree) (set_of (map (path_at tree) ps))

-- the path of a single package, otherwise the path that names the group
abbrev pub name_of : Tree → List ℕ → Text
name_of tree [] = []
name_of tree (p ∷ []) = path_at tree p
name_of tree (p ∷ q ∷ ps) = group_at tree p

-- Whether one of the packages needs the one at d to be built.
abbrev pub is_needed : Tree → List ℕ → ℕ → Bool
is_needed tree ps d = list_any (λ p. is_in (build_at tree p) d) ps

-- the build dependencies of a single package; for several packages, those of any of them except the
-- packages themselves
abbrev pub build_of : Tree → List ℕ → List ℕ
build_of tree [] = []
build_of tree (p ∷ []) = build_at tree p
build_of tree (p ∷ q ∷ ps) =
    filter (λ d. is_needed tree (p ∷ q ∷ ps) d && not (is_in (p ∷ q ∷ ps) d)) (positions tree)

-- the unit of these packages
abbrev pub unit_from : Tree → List ℕ → Unit
unit_from tree ps = record {
  name = name_of tree ps;
  packages = in_order_of_path tree ps;
  build = build_of tree ps;
}

-- ---- the units of a tree, given the ignored packages

-- the packages made together with the one at p: all of its group that are not ignored
abbrev pub made_with : Tree → (ℕ → Bool) → ℕ → List ℕ
made_with tree ignored p =
    filter (λ q. bytes_eq (group_at tree q) (group_at tree p) && not (ignored q)) (positions tree)

-- the unit of the package at p
abbrev pub unit_with : Tree → (ℕ → Bool) → ℕ → Unit
unit_with tree ignored p = unit_from tree (made_with tree ignored p)

-- Whether the package is not ignored and has the lowest position of its unit.
abbrev pub is_least : Tree → (ℕ → Bool) → ℕ → Bool
is_least tree ignored p = not (ignored p) && list_all (nat_le p) (made_with tree ignored p)

-- the units, in the order of their lowest positions
abbrev pub units_with : Tree → (ℕ → Bool) → List Unit
units_with tree ignored =
    map (unit_with tree ignored) (filter (is_least tree ignored) (positions tree))

-- ---- the units of a tree

-- The unit is that of the package at p, which is listed and not ignored.
pub record IsUnitOf (tree : Tree) (p : ℕ) (u : Unit) : Type 0 where
  pub ignored : ℕ → Bool
  pub are_ignored : AreTheIgnored tree ignored
  pub listed : p < length tree
  pub not_ignored : ignored p ≡ false
  pub is : u ≡ unit_with tree ignored p

-- These are the units of the tree.
pub record AreUnits (tree : Tree) (units : List Unit) : Type 0 where
  pub ignored : ℕ → Bool
  pub are_ignored : AreTheIgnored tree ignored
  pub are : units ≡ units_with tree ignored
