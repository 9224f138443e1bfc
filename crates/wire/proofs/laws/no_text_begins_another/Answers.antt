use Rattle.package_record.proofs.BuildsRead.{build_is_read}
use Rattle.wire.proofs.DatagramTexts.{no_datagram_begins}
use Rattle.wire.proofs.NoteTexts.{no_note_begins}
use Rattle.wire.proofs.laws.no_text_begins_another.Goals as goal

pub returns-clause-datagrams : goal.returns-clause-datagrams
returns-clause-datagrams c = no_datagram_begins

pub returns-clause-notes : goal.returns-clause-notes
returns-clause-notes c = no_note_begins build_is_read
