-- The notes that texts encode.
use Rattle.std.specs.Prelude.{List, filter_map, Option, None, Some, Result, Ok, Err}
use Rattle.faults.specs.Bytes.{Text}
use Rattle.ballots.specs.declared.message.Note.{Note}
use Rattle.protocol.specs.State.{Value}
use Rattle.wire.specs.Reading.{note_of}
use Rattle.wire.specs.declared.WireFault.{WireFault}

-- the note, if there is one
abbrev pub note_in : Result (Note Value) WireFault → Option (Note Value)
note_in (Ok n) = Some n
note_in (Err f) = None

-- the notes that the texts encode, in their order
abbrev pub notes_in : List Text → List (Note Value)
notes_in texts = filter_map (λ text. note_in (note_of text)) texts
