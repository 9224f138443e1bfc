use Rattle.std.proofs.Common.{subst}
use Rattle.simulator.specs.History.{IsHistory}
use Rattle.simulator.proofs.running_world.World.events.Goals as goal

pub returns-clause-history : goal.returns-clause-history
returns-clause-history c = subst IsHistory c.self.view_is c.self.invariant.history
