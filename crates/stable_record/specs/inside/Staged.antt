-- What an append writes.
use Rattle.std.specs.Prelude.{List, ℕ, [], ◌∷◌, ◌++◌, length}
use Rattle.std.specs.Int.{w32, to_be_bytes}
use Rattle.stable_record.specs.Log.{Note, closed_gate}

-- what is written after the closed gate: the note's length, the note and a closed gate
abbrev pub staged : Note → List ℕ
staged note = to_be_bytes w32 (length note) ++ note ++ closed_gate ∷ []
