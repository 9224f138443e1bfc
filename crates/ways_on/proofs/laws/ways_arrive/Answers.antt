use Rattle.one_list.proofs.clauses.OneListOfRuns.{each_run_is_acts, one_answer, one_world}
use Rattle.package_record.proofs.BuildsRead.{build_is_read}
use Rattle.ways_on.proofs.Arriving.{ways_arrive}
use Rattle.ways_on.proofs.laws.ways_arrive.Goals as goal

pub returns : goal.returns
returns c = ways_arrive (one_world each_run_is_acts build_is_read) one_answer
