use Rattle.std.proofs.Common.{rules}
use Rattle.simulator.proofs.running_world.World.into_agreed.Goals as goal

pub returns : goal.returns
returns c = search rules
