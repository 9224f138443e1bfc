use Rattle.scheduler.specs.Keeping.{IsSameButReturned}
use Rattle.scheduler.proofs.desk.Desk.give_back.Given as goal

abbrev pub invariant-loop : goal.invariant-loop
invariant-loop l = IsSameButReturned l.fn.self l.self
