use Rattle.one_list.proofs.acts.EventActs.{event_is_act}
use Rattle.one_list.proofs.clauses.OneListOfRuns.{each_run_is_acts}
use Rattle.one_list.proofs.acts.LocalFacts.{event_keeps}
use Rattle.one_list.proofs.theorem.events_are_acts.Goals as goal
use Rattle.package_record.proofs.BuildsRead.{build_is_read}

pub returns-clause-acts : goal.returns-clause-acts
returns-clause-acts c = λ division weights acts w v e made of local m h. event_is_act division
    weights acts w made of local m build_is_read e v h

pub returns-clause-local : goal.returns-clause-local
returns-clause-local c = λ w v e made local each h. event_keeps w made local each e v h

pub returns-clause-runs : goal.returns-clause-runs
returns-clause-runs c = each_run_is_acts
