use Rattle.std.proofs.Common.{rules}
use Rattle.member.proofs.member.Member.open_claim.Goals as goal

pub returns-clause-claim : goal.returns-clause-claim
returns-clause-claim c = search rules

pub returns-clause-member : goal.returns-clause-member
returns-clause-member c = search rules
