use Rattle.stable_record.specs.Pasts.{no_past}
use Rattle.stable_record.proofs.mem_disk.MemDisk.new.Given as goal

abbrev pub ghost-new : goal.ghost-new
ghost-new a = no_past
