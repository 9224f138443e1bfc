-- What is found when a file is read.
use Rattle.std.specs.Prelude.{◌≡◌, ◌≢◌, ℕ, ◌<◌, ◌^◌, List, ◌∷◌, ◌++◌, length, Ok, map}
use Rattle.stable_record.specs.declared.identity.Identity.{Identity}
use Rattle.stable_record.specs.declared.reading.Opening.{Opening}
use Rattle.stable_record.specs.declared.reading.Opening.TheVariants.{Blank, Notes}
use Rattle.stable_record.specs.declared.reading.AtGate.{AtGate}
use Rattle.stable_record.specs.declared.reading.AtGate.TheVariants as at
use Rattle.stable_record.specs.Crash.{AllAlong}
use Rattle.stable_record.specs.History.{History}
use Rattle.stable_record.specs.Log.{Note, entry, HasNotes, note_of, gate_place, open_gate}
use Rattle.stable_record.specs.Opening.{IsBlank, IsCutShort, Opens}

-- What is found at a gate: the gate is closed, or the file is truncated there, or a whole note
-- comes after it.
abbrev pub StandsAt : List ℕ → AtGate → Type 0
StandsAt file at.Closed =
    (gate : ℕ) × (behind : List ℕ) × (file ≡ gate ∷ behind) × (gate ≢ open_gate)
StandsAt file at.CutShort = IsCutShort file
StandsAt file (at.Note note rest) = (file ≡ entry note.now ++ rest.now) × (length note.now < 2 ^ 32)

-- what reading a file found
abbrev pub OpensTo : Identity → List ℕ → Opening → Type 0
OpensTo i file Blank = IsBlank i file
OpensTo i file (Notes notes end) =
    HasNotes i (map note_of notes.items) file × (end ≡ gate_place i (map note_of notes.items))

-- The history grew from old to new, and at every point a crash leaves a file that opens with these
-- notes.
abbrev pub StaysAs : Identity → List Note → History → History → Type 0
StaysAs i notes = AllAlong (λ file. Opens i file (Ok notes))
