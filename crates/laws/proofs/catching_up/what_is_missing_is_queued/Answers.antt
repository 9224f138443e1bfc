use Rattle.package_record.proofs.BuildsRead.{build_is_read}
use Rattle.one_list.proofs.clauses.OneListOfRuns.{each_run_is_acts}
use Rattle.laws.proofs.Missing.{always_behind, always_claimed, always_first, always_some}
use Rattle.laws.proofs.catching_up.what_is_missing_is_queued.Goals as goal

pub returns-clause-claimed : goal.returns-clause-claimed
returns-clause-claimed c = always_claimed each_run_is_acts build_is_read

pub returns-clause-behind : goal.returns-clause-behind
returns-clause-behind c = always_behind each_run_is_acts build_is_read

pub returns-clause-first : goal.returns-clause-first
returns-clause-first c = always_first each_run_is_acts build_is_read

pub returns-clause-some : goal.returns-clause-some
returns-clause-some c = always_some each_run_is_acts build_is_read
