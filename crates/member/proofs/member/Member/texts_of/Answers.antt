use Rattle.std.proofs.Common.{rules}
use Rattle.member.proofs.member.Member.texts_of.Goals as goal

pub returns-clause-note : goal.returns-clause-note
returns-clause-note c = search rules

pub returns-clause-sends : goal.returns-clause-sends
returns-clause-sends c = search rules
