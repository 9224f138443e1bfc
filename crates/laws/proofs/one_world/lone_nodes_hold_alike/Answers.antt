use Rattle.laws.proofs.Holding.{held_is_listed, installable_is_held, nodes_hold_alike}
use Rattle.laws.proofs.one_world.lone_nodes_hold_alike.Goals as goal

pub returns-clause-alike : goal.returns-clause-alike
returns-clause-alike c = nodes_hold_alike

pub returns-clause-installable : goal.returns-clause-installable
returns-clause-installable c = installable_is_held

pub returns-clause-listed : goal.returns-clause-listed
returns-clause-listed c = held_is_listed
