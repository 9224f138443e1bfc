-- What a crash leaves while a note is appended to the log in a file.
use Rattle.std.specs.Prelude.{◌⊎◌, ℕ, List, Ok}
use Rattle.stable_record.specs.declared.identity.Identity.{Identity}
use Rattle.stable_record.specs.History.{History, seen}
use Rattle.stable_record.specs.Log.{Note, HasBeforeOrAfter}
use Rattle.stable_record.specs.Opening.{Opens, OpensAsLeft}

-- The file opens as one that a crash at the start could have left, or it has the notes that are
-- read at the start, with this one or without it.
abbrev pub IsAsBeforeOrAfter : Identity → History → Note → List ℕ → Type 0
IsAsBeforeOrAfter i start note file =
    OpensAsLeft i start file
    ⊎ ((notes : List Note) × Opens i (seen start) (Ok notes) × HasBeforeOrAfter i notes note file)
