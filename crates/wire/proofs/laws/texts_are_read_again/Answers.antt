use Rattle.package_record.proofs.BuildsRead.{build_is_read}
use Rattle.package_record.proofs.BuildsTaken.{whole_build_taken}
use Rattle.wire.proofs.DatagramTexts.{datagram_again, datagram_is_spelled}
use Rattle.wire.proofs.NoteTexts.{note_again, note_is_spelled}
use Rattle.wire.proofs.laws.texts_are_read_again.Goals as goal

pub returns-clause-datagrams : goal.returns-clause-datagrams
returns-clause-datagrams c = datagram_again

pub returns-clause-notes : goal.returns-clause-notes
returns-clause-notes c = note_again build_is_read

pub returns-clause-datagrams_spelled : goal.returns-clause-datagrams_spelled
returns-clause-datagrams_spelled c = datagram_is_spelled

pub returns-clause-notes_spelled : goal.returns-clause-notes_spelled
returns-clause-notes_spelled c = note_is_spelled whole_build_taken
