use Rattle.std.proofs.Common.{rules}
use Rattle.simulator.proofs.votes.voted_last.Goals as goal

pub returns-in-Some : goal.returns-in-Some
returns-in-Some c = search rules
