-- The text whose SHA-256 is a tree's digest.
use Rattle.std.specs.Prelude.{ℕ, List, [], ◌∷◌, ◌++◌, codes, count_by, map, nat_le, if◌then◌else◌}
use Rattle.std.specs.List.{flat_map}
use Rattle.std.specs.Str.{bytes_eq}
use Rattle.faults.specs.Bytes.{Text, line_feed}
use Rattle.faults.specs.Pieces.{in_order_of_appearance}
use Rattle.listing.specs.Tree.{Package, Tree, path_at}

-- the text, ended by LF
abbrev pub line : Text → Text
line text = text ++ line_feed ∷ []

-- a line for each position: the word, then the path at the position
abbrev pub path_lines : Tree → Text → List ℕ → Text
path_lines tree word positions = flat_map (λ p. line (word ++ path_at tree p)) positions

-- the path, the name, a line if the package is marked, then the build dependencies and the run
-- dependencies
abbrev pub package_lines : Tree → Package → Text
package_lines tree x =
    line (codes "P " ++ x.path)
    ++ line (codes "N " ++ x.name)
    ++ (if x.is_marked then line (codes "X") else [])
    ++ path_lines tree (codes "B ") x.build
    ++ path_lines tree (codes "R ") x.run

-- the groups, in the order of their lowest positions
abbrev pub groups_of : Tree → List Text
groups_of tree = in_order_of_appearance (map (λ x. x.group) tree)

-- the number of packages in the group
abbrev pub size_of_group : Tree → Text → ℕ
size_of_group tree group = count_by (λ x. bytes_eq x.group group) tree

-- a line with the group's path, if the group has two or more packages
abbrev pub group_line : Tree → Text → Text
group_line tree group =
    if nat_le 2 (size_of_group tree group) then line (codes "G " ++ group) else []

-- the lines of each package, in order of position
abbrev pub packages_text : Tree → Text
packages_text tree = flat_map (package_lines tree) tree

-- the lines of each package in order of position, then a line for each group of two or more, in the
-- order of lowest positions
unfoldable pub digest_text : Tree → Text
digest_text tree = packages_text tree ++ flat_map (group_line tree) (groups_of tree)
