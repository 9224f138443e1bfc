-- How the groups of a tree are stored, and their lines in the digest.
use Rattle.std.specs.Prelude.{◌≡◌, ◌++◌, ℕ, List, [], codes, count_by, map, nat_le, unwrap_or, if◌then◌else◌}
use Rattle.std.specs.List.{flat_map, slice_index_or}
use Rattle.std.specs.Map.{keys_of, lookup}
use Rattle.std.specs.Str.{bytes_eq}
use Rattle.faults.specs.Bytes.{Text}
use Rattle.faults.specs.Pieces.{in_order_of_appearance}
use Rattle.listing.specs.Digest.{line}
use Rattle.listing.specs.inside.Parts.{AreNumbersOf}

-- the text at an index
abbrev pub text_at : List Text → ℕ → Text
text_at texts place = slice_index_or texts place []

-- the group of each package, from the indexes of the groups
abbrev pub names_in : List (Text × ℕ) → List ℕ → List Text
names_in sizes places = map (λ place. text_at (keys_of sizes) place) places

-- how many times a group is named
abbrev pub size_in : List Text → Text → ℕ
size_in names group = count_by (λ name. bytes_eq name group) names

-- The sizes list each named group once, in the order of first naming, with the number of times it
-- is named.
pub record AreSizes (names : List Text) (sizes : List (Text × ℕ)) : Type 0 where
  pub groups : keys_of sizes ≡ in_order_of_appearance names
  pub counts : (group : Text) → unwrap_or (lookup (bytes_eq group) sizes) 0 ≡ size_in names group

-- The sizes are those of the groups, and the places are the index of each package's group.
pub record AreGroups (names : List Text) (sizes : List (Text × ℕ)) (places : List ℕ) : Type 0 where
  pub counted : AreSizes names sizes
  pub placed : AreNumbersOf (keys_of sizes) places names

-- a line for a group that is named two or more times
abbrev pub line_of_group : List Text → Text → Text
line_of_group names group =
    if nat_le 2 (size_in names group) then line (codes "G " ++ group) else []

-- the lines of groups, in the order in which they are first named
abbrev pub lines_of_groups : List Text → Text
lines_of_groups names = flat_map (line_of_group names) (in_order_of_appearance names)
