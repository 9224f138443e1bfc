use Rattle.scheduler.proofs.Returned.{returned_alone}
use Rattle.scheduler.proofs.desk.Desk.give_back_unposted.Goals as goal

pub returns-in-Some-clause-rest : goal.returns-in-Some-clause-rest
returns-in-Some-clause-rest c =
    returned_alone c.args.self.now c.note_returned.new.self c.note_returned.ensures.rest
