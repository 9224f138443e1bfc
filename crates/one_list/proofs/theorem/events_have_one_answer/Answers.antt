use Rattle.one_list.proofs.clauses.OneListOfRuns.{each_happens_or_not, each_has_list, each_run_is_acts, one_answer, one_world, one_world_at_end}
use Rattle.one_list.proofs.clauses.RunInvariants.{none_is_foreign}
use Rattle.one_list.proofs.theorem.events_have_one_answer.Goals as goal
use Rattle.package_record.proofs.BuildsRead.{build_is_read}

pub returns-clause-world : goal.returns-clause-world
returns-clause-world c = one_world each_run_is_acts build_is_read

pub returns-clause-run : goal.returns-clause-run
returns-clause-run c = one_world_at_end (one_world each_run_is_acts build_is_read)

pub returns-clause-list : goal.returns-clause-list
returns-clause-list c = each_has_list each_run_is_acts build_is_read

pub returns-clause-either : goal.returns-clause-either
returns-clause-either c = each_happens_or_not each_run_is_acts build_is_read

pub returns-clause-answer : goal.returns-clause-answer
returns-clause-answer c = one_answer

pub returns-clause-foreign : goal.returns-clause-foreign
returns-clause-foreign c = none_is_foreign build_is_read each_run_is_acts
