use Rattle.std.proofs.Common.{ap}
use Rattle.std.specs.Option.{option_copied}
use Rattle.node.proofs.written.note_text.Goals as goal

pub encode_note-requires : goal.encode_note-requires
encode_note-requires c = c.requires c.in-Some.note.now (ap option_copied c.in-Some.is)
