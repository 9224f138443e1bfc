-- The state in which a log's file is found, before it is opened.
use Rattle.std.specs.Prelude.{◌≡◌, ◌≢◌, ℕ, List, [], length}
use Rattle.run_file.specs.declared.judging.LogFound.{LogFound}
use Rattle.run_file.specs.declared.judging.LogFound.TheVariants.{Absent, Blank, Fresh, Noted}
use Rattle.stable_record.specs.Log.{HasNotes, Note}
use Rattle.stable_record.specs.Opening.{IsBlank, shortest}
use Rattle.stable_record.specs.declared.identity.Identity.{Identity}

-- A file that exists is found `Blank` if opening it would make a log of it. Otherwise it is `Fresh`
-- if it is as long as a log without notes, and `Noted` if it has another length.
abbrev pub IsFound : Identity → List ℕ → LogFound → Type 0
IsFound i file Absent = ⊥
IsFound i file Blank = IsBlank i file
IsFound i file Fresh = (¬ (IsBlank i file)) × (length file ≡ shortest i)
IsFound i file Noted = (¬ (IsBlank i file)) × (length file ≢ shortest i)

-- A file that is found `Fresh` has no notes.
abbrev pub FreshHasNoNotes : Type 0
FreshHasNoNotes =
    (i : Identity) (file : List ℕ) (notes : List Note) → IsFound i file Fresh
    → HasNotes i notes file → notes ≡ []
