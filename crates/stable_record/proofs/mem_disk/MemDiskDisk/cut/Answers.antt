use Rattle.std.proofs.Common.{refl}
use Rattle.stable_record.specs.Pasts.{no_past}
use Rattle.stable_record.proofs.Bytes.{noted_cut}
use Rattle.stable_record.proofs.mem_disk.MemDiskDisk.cut.Goals as goal

pub invariant_of-self-clause-were_bytes : goal.invariant_of-self-clause-were_bytes
invariant_of-self-clause-were_bytes c =
    let self = c.keep_from.new.self in noted_cut no_past no_past refl self.noted.events c.note.new.self.events self.were_bytes c.args.len c.note.ensures.1
