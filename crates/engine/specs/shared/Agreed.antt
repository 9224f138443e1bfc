-- The positions that are agreed, according to the stored letters.
use Rattle.std.specs.Prelude.{ℕ, Bool, cond, List, length, map, zero, suc}
use Rattle.std.specs.FinSet as set
use Rattle.std.specs.Ordering.{nat_cmp}
use Rattle.engine.specs.declared.Letter.{Letter}
use Rattle.engine.specs.shared.Shown.{is_held}
use Rattle.graph.specs.Marks.{has_mark}

-- the positions below n that pass the test
unfoldable pub set_below : (ℕ → Bool) → ℕ → set.FinSet nat_cmp
set_below test zero = set.empty
set_below test (suc n) = cond (test n) (set.insert (set_below test n) n) (set_below test n)

-- the marked positions
abbrev pub marked_set : List Bool → set.FinSet nat_cmp
marked_set marks = set_below (has_mark marks) (length marks)

-- marks of the held packages
abbrev pub held_marks : List Letter → List Bool
held_marks letters = map is_held letters
