use Rattle.simulator.proofs.Following.{has_one_list, hold_alike, is_safe}
use Rattle.simulator.proofs.whole_run.run.Goals as goal

pub returns-clause-grows : goal.returns-clause-grows
returns-clause-grows c = (has_one_list c.in_ok-world.world c.in_ok-world.ensures.history).grows

pub returns-clause-one_a_path : goal.returns-clause-one_a_path
returns-clause-one_a_path c = (has_one_list c.in_ok-world.world c.in_ok-world.ensures.history).one_a_path

pub returns-clause-built : goal.returns-clause-built
returns-clause-built c = (has_one_list c.in_ok-world.world c.in_ok-world.ensures.history).built

pub returns-clause-records : goal.returns-clause-records
returns-clause-records c = (has_one_list c.in_ok-world.world c.in_ok-world.ensures.history).records

pub returns-clause-fits : goal.returns-clause-fits
returns-clause-fits c = (has_one_list c.in_ok-world.world c.in_ok-world.ensures.history).fits

pub returns-clause-held : goal.returns-clause-held
returns-clause-held c = (has_one_list c.in_ok-world.world c.in_ok-world.ensures.history).held

pub returns-clause-installable : goal.returns-clause-installable
returns-clause-installable c = (has_one_list c.in_ok-world.world c.in_ok-world.ensures.history).installable

pub returns-clause-allowed : goal.returns-clause-allowed
returns-clause-allowed c = (has_one_list c.in_ok-world.world c.in_ok-world.ensures.history).allowed

pub returns-clause-alike : goal.returns-clause-alike
returns-clause-alike c = hold_alike c.in_ok-world.world c.in_ok-world.ensures.history

pub returns-clause-one_proposal : goal.returns-clause-one_proposal
returns-clause-one_proposal c = (is_safe c.in_ok-world.world c.in_ok-world.ensures.history).one_proposal

pub returns-clause-promises_bound : goal.returns-clause-promises_bound
returns-clause-promises_bound c = (is_safe c.in_ok-world.world c.in_ok-world.ensures.history).promises_bound

pub returns-clause-votes_noted : goal.returns-clause-votes_noted
returns-clause-votes_noted c = (is_safe c.in_ok-world.world c.in_ok-world.ensures.history).votes_noted

pub returns-clause-later_repeats : goal.returns-clause-later_repeats
returns-clause-later_repeats c = (is_safe c.in_ok-world.world c.in_ok-world.ensures.history).later_repeats

pub returns-clause-jobs_stood : goal.returns-clause-jobs_stood
returns-clause-jobs_stood c = (is_safe c.in_ok-world.world c.in_ok-world.ensures.history).jobs_stood

pub returns-clause-equal_headers : goal.returns-clause-equal_headers
returns-clause-equal_headers c = (is_safe c.in_ok-world.world c.in_ok-world.ensures.history).equal_headers
