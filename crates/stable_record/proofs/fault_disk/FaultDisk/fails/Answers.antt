use Rattle.std.proofs.Common.{rules}
use Rattle.stable_record.proofs.fault_disk.FaultDisk.fails.Goals as goal

pub returns-else-fails-clause-due : goal.returns-else-fails-clause-due
returns-else-fails-clause-due c = search rules
