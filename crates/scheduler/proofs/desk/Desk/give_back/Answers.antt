use Rattle.scheduler.proofs.Returned.{returned_again}
use Rattle.scheduler.proofs.desk.Desk.give_back.Goals as goal

pub returns-in_err-give_back_at-in-Some-clause-rest : goal.returns-in_err-give_back_at-in-Some-clause-rest
returns-in_err-give_back_at-in-Some-clause-rest c =
    returned_again c.args.self.now c.loop.self c.give_back_at.new.self c.loop.invariant
    c.give_back_at.ensures.rest

pub loop-preserved : goal.loop-preserved
loop-preserved c =
    returned_again c.args.self.now c.loop.self c.give_back_at.new.self c.loop.invariant
    c.give_back_at.ensures.rest
