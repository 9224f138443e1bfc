-- Marks of ignored packages, by position.
use Rattle.std.specs.Prelude.{◌≡◌, ◌++◌, ◌↔◌, ℕ, Bool, true, List, Contains, filter, length}
use Rattle.graph.specs.Marks.{has_mark}
use Rattle.listing.specs.Tree.{Tree, build_at, is_marked_at, run_at}
use Rattle.engine.specs.Ignored.{HoldsTheMarked, IsIgnored}
use Rattle.engine.specs.Units.{positions}

-- the dependencies of the package at a position
abbrev pub deps_at : Tree → ℕ → List ℕ
deps_at tree p = build_at tree p ++ run_at tree p

-- the packages that are marked in the tree
abbrev pub marked_of : Tree → List ℕ
marked_of tree = filter (is_marked_at tree) (positions tree)

-- There are `len` marks, and those at these positions are set.
pub record AreMarksOf (len : ℕ) (ps : List ℕ) (marks : List Bool) : Type 0 where
  pub each : length marks ≡ len
  pub are : (p : ℕ) → (has_mark marks p ≡ true) ↔ Contains ps p

-- the marks of the ignored packages
pub record AreIgnored (tree : Tree) (marks : List Bool) : Type 0 where
  pub each : length marks ≡ length tree
  pub spread : HoldsTheMarked tree (has_mark marks)
  pub ignored : (p : ℕ) → has_mark marks p ≡ true → IsIgnored tree p
