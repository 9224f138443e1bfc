-- Lists stored one after another in one block, each as a range.
use Rattle.std.specs.Prelude.{◌≤◌, ℕ, List, All, length, map, slice_range}
use Rattle.graph.specs.declared.reversed.Range.{Range}

-- the list in a range
abbrev pub part : List ℕ → Range → List ℕ
part names range = slice_range names range.from range.to

-- the lists in the ranges
abbrev pub parts : List ℕ → List Range → List (List ℕ)
parts names ranges = map (part names) ranges

-- The range is valid, and inside the block.
pub record IsWithin (names : List ℕ) (range : Range) : Type 0 where
  pub from : range.from ≤ range.to
  pub to : range.to ≤ length names

-- Each range is valid, and inside the block.
abbrev pub AreWithin : List ℕ → List Range → Type 0
AreWithin names ranges = All (IsWithin names) ranges
