use Rattle.protocol.proofs.HeldRecords.{record_stays}
use Rattle.protocol.proofs.Restored.{notes_restore}
use Rattle.protocol.proofs.laws.notes_restore_members.Goals as goal

pub returns-clause-held : goal.returns-clause-held
returns-clause-held c = λ s input a path r is answers held. record_stays s a path r held

pub returns-clause-restored : goal.returns-clause-restored
returns-clause-restored c = notes_restore
