use Rattle.std.proofs.Common.{rules}
use Rattle.simulator.proofs.run_fault.RunFault.cause.Goals as goal

pub returns : goal.returns
returns c = search rules
