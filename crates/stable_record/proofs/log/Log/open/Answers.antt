use Rattle.stable_record.proofs.Answered.{opens_some}
use Rattle.stable_record.proofs.Opens.{opens_once}
use Rattle.stable_record.proofs.log.Log.open.Goals as goal

pub returns-in-Ok-clause-one_answer : goal.returns-in-Ok-clause-one_answer
returns-in-Ok-clause-one_answer g c = record { some_answer = opens_some c.args.identity.now; no_second = opens_once c.args.identity.now c.copy-owner.ensures.tree }

pub returns-in-Err-clause-one_answer : goal.returns-in-Err-clause-one_answer
returns-in-Err-clause-one_answer g c = record { some_answer = opens_some c.args.identity.now; no_second = opens_once c.args.identity.now c.copy-owner.ensures.tree }
