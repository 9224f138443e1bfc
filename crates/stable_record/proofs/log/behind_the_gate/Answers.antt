use Rattle.std.proofs.Common.{rules}
use Rattle.stable_record.proofs.log.behind_the_gate.Goals as goal

pub returns : goal.returns
returns c = search rules
