-- The letters of all packages by position, as stored.
use Rattle.std.specs.Prelude.{◌==◌, ℕ, Bool, true, false, List, slice_index_or}
use Rattle.engine.specs.State.{index_of}
use Rattle.graph.specs.Lists.{one_if}
use Rattle.engine.specs.declared.Counts.{Counts}
use Rattle.engine.specs.declared.Letter.{Letter}
use Rattle.engine.specs.declared.Letter.TheVariants.{T, Q, B, I, Ignored}

-- the letter at a position
abbrev pub letter_at : List Letter → ℕ → Letter
letter_at letters p = slice_index_or letters p Ignored

-- Whether a package with the letter is held.
abbrev pub is_held : Letter → Bool
is_held T = false
is_held Q = false
is_held B = true
is_held I = true
is_held Ignored = false

-- the count of a letter
abbrev pub tally : Counts → Letter → ℕ
tally c T = c.t
tally c Q = c.q
tally c B = c.b
tally c I = c.i
tally c Ignored = c.ignored

-- one if the letters are equal, otherwise zero
abbrev pub same_letter : Letter → Letter → ℕ
same_letter k l = one_if (index_of k == index_of l)

-- Whether the letter is I.
abbrev pub is_installed : Letter → Bool
is_installed T = false
is_installed Q = false
is_installed B = false
is_installed I = true
is_installed Ignored = false
