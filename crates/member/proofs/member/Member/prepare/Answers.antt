use Rattle.std.proofs.Common.{rules}
use Rattle.member.proofs.member.Member.prepare.Goals as goal

pub returns-clause-same : goal.returns-clause-same
returns-clause-same c = search rules

pub returns-clause-step : goal.returns-clause-step
returns-clause-step c = search rules

pub returns-clause-taken : goal.returns-clause-taken
returns-clause-taken c = search rules
