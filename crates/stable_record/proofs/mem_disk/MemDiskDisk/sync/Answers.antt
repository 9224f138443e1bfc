use Rattle.std.proofs.Common.{refl}
use Rattle.stable_record.specs.Events.{syncs}
use Rattle.stable_record.specs.Pasts.{no_past}
use Rattle.stable_record.proofs.Bytes.{noted}
use Rattle.stable_record.proofs.mem_disk.MemDiskDisk.sync.Goals as goal

pub invariant_of-self-clause-were_bytes : goal.invariant_of-self-clause-were_bytes
invariant_of-self-clause-were_bytes c =
    let self = c.args.self.now in noted no_past no_past refl self.noted.events c.note.new.self.events self.were_bytes syncs c.note.ensures.1 (self.were_bytes 0)
