use Rattle.laws.proofs.Holding.{nothing_is_foreign}
use Rattle.laws.proofs.Mirrored.{each_run_is_one}
use Rattle.laws.proofs.Running.{a_world, later_events_lead_on}
use Rattle.laws.proofs.one_world.lone_nodes_make_a_world.Goals as goal

pub returns-clause-world : goal.returns-clause-world
returns-clause-world c = a_world

pub returns-clause-later : goal.returns-clause-later
returns-clause-later c = later_events_lead_on

pub returns-clause-foreign : goal.returns-clause-foreign
returns-clause-foreign c = nothing_is_foreign

pub returns-clause-each : goal.returns-clause-each
returns-clause-each c = each_run_is_one
