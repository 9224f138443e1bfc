use Rattle.std.proofs.Common.{rules}
use Rattle.stable_record.proofs.reading.is_log.Goals as goal

pub returns-else-file-eq-OPEN : goal.returns-else-file-eq-OPEN
returns-else-file-eq-OPEN c = search rules
