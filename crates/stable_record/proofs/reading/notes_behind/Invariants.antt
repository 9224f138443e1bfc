use Rattle.std.proofs.Common.{◌≡◌, ◌≤◌, ◌<◌, ◌++◌, ◌^◌, All, length, map, drop}
use Rattle.stable_record.specs.Log.{entries, note_of}
use Rattle.stable_record.proofs.reading.notes_behind.Given as goal

-- the notes read so far come before the rest
abbrev pub invariant-loop-notes : goal.invariant-loop-notes
invariant-loop-notes l = record {
  within : length l.rest ≤ length l.file;
  parts : drop l.first l.file ≡ entries (map note_of l.notes.items) ++ l.rest;
  lengths : All (λ note. length note < 2 ^ 32) (map note_of l.notes.items);
}

abbrev pub decreases-loop-notes : goal.decreases-loop-notes
decreases-loop-notes l = length l.rest
