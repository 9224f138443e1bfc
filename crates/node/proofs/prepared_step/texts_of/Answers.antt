use Rattle.std.proofs.Common.{subst, sym}
use Rattle.std.specs.Option.{ForSome}
use Rattle.wire.specs.Messages.{IsNote}
use Rattle.node.proofs.prepared_step.texts_of.Goals as goal

pub note_text-requires : goal.note_text-requires
note_text-requires c = subst (λ note. ForSome note IsNote) (sym c.note.ensures) c.requires.note
