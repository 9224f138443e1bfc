use Rattle.one_list.proofs.clauses.OneListOfRuns.{alike_always, allowed_always, always_grows, bound_always, built_always, each_has_one_list, each_run_is_acts, fits_always, held_always, installable_always, jobs_always, one_always, noted_always, one_proposal_always, records_always, repeated_always, told_apart_always}
use Rattle.one_list.proofs.theorem.worlds_have_one_list.Goals as goal
use Rattle.package_record.proofs.BuildsRead.{build_is_read}

pub returns-clause-grows : goal.returns-clause-grows
returns-clause-grows c = always_grows each_run_is_acts build_is_read

pub returns-clause-one_a_path : goal.returns-clause-one_a_path
returns-clause-one_a_path c = one_always each_run_is_acts build_is_read

pub returns-clause-built : goal.returns-clause-built
returns-clause-built c = built_always each_run_is_acts build_is_read

pub returns-clause-records : goal.returns-clause-records
returns-clause-records c = records_always each_run_is_acts build_is_read

pub returns-clause-fits : goal.returns-clause-fits
returns-clause-fits c = fits_always each_run_is_acts build_is_read

pub returns-clause-held : goal.returns-clause-held
returns-clause-held c = held_always each_run_is_acts build_is_read

pub returns-clause-alike : goal.returns-clause-alike
returns-clause-alike c = alike_always each_run_is_acts build_is_read

pub returns-clause-installable : goal.returns-clause-installable
returns-clause-installable c = installable_always each_run_is_acts build_is_read

pub returns-clause-allowed : goal.returns-clause-allowed
returns-clause-allowed c = allowed_always each_run_is_acts build_is_read

pub returns-clause-one_proposal : goal.returns-clause-one_proposal
returns-clause-one_proposal c = one_proposal_always each_run_is_acts build_is_read

pub returns-clause-promises_bound : goal.returns-clause-promises_bound
returns-clause-promises_bound c = bound_always each_run_is_acts build_is_read

pub returns-clause-votes_noted : goal.returns-clause-votes_noted
returns-clause-votes_noted c = noted_always each_run_is_acts build_is_read

pub returns-clause-later_repeats : goal.returns-clause-later_repeats
returns-clause-later_repeats c = repeated_always each_run_is_acts build_is_read

pub returns-clause-jobs_stood : goal.returns-clause-jobs_stood
returns-clause-jobs_stood c = jobs_always each_run_is_acts build_is_read

pub returns-clause-equal_headers : goal.returns-clause-equal_headers
returns-clause-equal_headers c = told_apart_always each_run_is_acts build_is_read

pub returns-clause-together : goal.returns-clause-together
returns-clause-together c = each_has_one_list each_run_is_acts build_is_read
