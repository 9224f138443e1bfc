use Rattle.stable_record.specs.Events.{syncs}
use Rattle.stable_record.proofs.Bytes.{noted}
use Rattle.stable_record.proofs.file_disk.FileDiskDisk.sync.Goals as goal

pub invariant_of-self : goal.invariant_of-self
invariant_of-self c =
    let old = c.args.self.now in
    let new = c.note.new.self in
    record { were_bytes = noted old.noted.past new.past c.note.ensures.0 old.noted.events new.events old.were_bytes syncs c.note.ensures.1 (old.were_bytes 0) }
