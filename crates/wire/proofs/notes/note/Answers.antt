use Rattle.std.proofs.Common.{sym, ◌∙◌, refl}
use Rattle.wire.specs.Reading.{note_of}
use Rattle.wire.proofs.Readers.{some_bytes}
use Rattle.wire.proofs.notes.note.Goals as goal

pub returns-then-not-is_empty : goal.returns-then-not-is_empty
unfolding note_of
returns-then-not-is_empty c = rw (c.in_ok-note.ensures, some_bytes _ (sym c.is_empty.ensures ∙ c.if-not-is_empty.true)) refl
