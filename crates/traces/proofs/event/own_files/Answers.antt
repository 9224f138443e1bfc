use Rattle.std.proofs.Common.{rules}
use Rattle.traces.proofs.event.own_files.Goals as goal

pub returns-in-len1 : goal.returns-in-len1
returns-in-len1 c = search rules
