-- The status line of a node.
use Rattle.std.specs.Prelude.{◌≡◌, ◌++◌, ℕ, [], ◌∷◌, Option, None, Some, codes}
use Rattle.std.specs.Fmt.{decimal}
use Rattle.engine.specs.State.{AreCounts, State}
use Rattle.engine.specs.declared.Counts.{Counts}
use Rattle.faults.specs.Bytes.{Text, line_feed}

-- the line with the number of packages of each letter
abbrev pub counts_line : Counts → Text
counts_line c =
    codes "I=" ++ decimal c.i ++ codes " B=" ++ decimal c.b ++ codes " Q=" ++ decimal c.q
    ++ codes " T=" ++ decimal c.t ++ codes " !=" ++ decimal c.ignored ++ line_feed ∷ []

-- the beginning of a node's line
abbrev pub node_front : ℕ → Text
node_front k = codes "node " ++ decimal k ++ codes ": "

-- the line of the node with this number: the number of packages of each letter, or that it is down
abbrev pub node_line : ℕ → Option Counts → Text
node_line k None = node_front k ++ codes "down" ++ line_feed ∷ []
node_line k (Some c) = node_front k ++ counts_line c

-- The line of a node: that it is down, or the number of packages that have each letter there.
abbrev pub IsLineOf : ℕ → Option State → Text → Type 0
IsLineOf k None line = line ≡ node_line k None
IsLineOf k (Some s) line = (c : Counts) × AreCounts s c × (line ≡ node_line k (Some c))
