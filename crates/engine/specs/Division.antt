-- A tree with its units, and how a unit is found.
use Rattle.std.specs.Prelude.{ℕ, List, Option, [], option_and_then, position}
use Rattle.std.specs.List.{slice_index_or}
use Rattle.std.specs.Str.{bytes_eq}
use Rattle.faults.specs.Answers.{option_or}
use Rattle.faults.specs.Bytes.{Text}
use Rattle.listing.specs.Tree.{IsTree, Tree, position_of}
use Rattle.engine.specs.Units.{AreUnits, Unit, is_in}

-- a tree, and its units in the order of their lowest positions
pub record Division : Type 0 where
  pub tree : Tree
  pub units : List Unit

-- The units are those of the tree.
pub record IsDivision (d : Division) : Type 0 where
  pub tree : IsTree d.tree
  pub units : AreUnits d.tree d.units

-- read only if a unit's number is out of range
abbrev pub no_unit : Unit
no_unit = record { name = []; packages = []; build = [] }

-- the unit with this number
abbrev pub unit_at : Division → ℕ → Unit
unit_at d k = slice_index_or d.units k no_unit

-- the number of the unit of the package at a position; an ignored package has none
abbrev pub number_of : Division → ℕ → Option ℕ
number_of d p = position (λ u. is_in u.packages p) d.units

-- the number of the unit with this name
abbrev pub number_named : Division → Text → Option ℕ
number_named d name = position (λ u. bytes_eq u.name name) d.units

-- the number of the unit that a path names: by the unit's name, or else by the path of one of its
-- packages
abbrev pub number_found : Division → Text → Option ℕ
number_found d path =
    option_or (number_named d path) (option_and_then (number_of d) (position_of d.tree path))
