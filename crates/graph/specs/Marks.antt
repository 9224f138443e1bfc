-- Marks by position: a set of positions, as the list of its characteristic function's values.
use Rattle.std.specs.Prelude.{ℕ, Bool, false, List, slice_index_or}

-- the mark at a position; not set if the position is out of range
abbrev pub has_mark : List Bool → ℕ → Bool
has_mark marks p = slice_index_or marks p false
