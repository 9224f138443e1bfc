use Rattle.scheduler.specs.Keeping.{IsSameButFailed}
use Rattle.scheduler.specs.Taking.{AreLeft}
use Rattle.scheduler.proofs.desk.Desk.retry.Given as goal

abbrev pub invariant-loop-unit : goal.invariant-loop-unit
invariant-loop-unit l = IsSameButFailed l.initial.self l.self × AreLeft l.initial.self l.self
