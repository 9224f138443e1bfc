use Rattle.std.proofs.Common.{rules}
use Rattle.traces.proofs.reading.table.Goals as goal

pub returns-in-Ok : goal.returns-in-Ok
returns-in-Ok c = search rules
