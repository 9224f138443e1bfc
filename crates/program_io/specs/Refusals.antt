-- The refusals that the system causes.
use Rattle.std.specs.Prelude.{◌≡◌, ◌⊎◌, ◌++◌, ℕ, Option, None, Some, codes}
use Rattle.std.specs.Fmt.{decimal}
use Rattle.faults.specs.Bytes.{Text}
use Rattle.program_io.specs.declared.refusal.Refusal.{Refusal}

-- out of memory
abbrev pub memory_refusal : Refusal
memory_refusal = record { number = 1; place = None }

-- a file can't be read, or the answer can't be written
abbrev pub device_refusal : Refusal
device_refusal = record { number = 2; place = None }

-- the system refused to read or write, or memory ran out
abbrev pub IsSystemRefusal : Refusal → Type 0
IsSystemRefusal r = (r ≡ memory_refusal) ⊎ (r ≡ device_refusal)

-- the place of a refusal, if it has one
abbrev pub place_text : Option ℕ → Text
place_text None = codes ""
place_text (Some place) = codes " at " ++ decimal place

-- the text of a refusal: its number, and its place
abbrev pub refusal_text : Refusal → Text
refusal_text r = codes "fault " ++ decimal r.number ++ place_text r.place
