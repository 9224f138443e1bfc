use Rattle.one_list.proofs.answers.LostLogs.{anything_left}
use Rattle.one_list.proofs.clauses.OneListOfRuns.{each_has_one_list, each_run_is_acts}
use Rattle.one_list.proofs.theorem.anything_may_be_left.Goals as goal
use Rattle.package_record.proofs.BuildsRead.{build_is_read}

pub returns : goal.returns
returns c = anything_left (each_has_one_list each_run_is_acts build_is_read)
