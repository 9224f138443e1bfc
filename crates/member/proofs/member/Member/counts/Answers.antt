use Rattle.std.proofs.Common.{rules}
use Rattle.member.proofs.member.Member.counts.Goals as goal

pub returns-clause-counts : goal.returns-clause-counts
returns-clause-counts c = search rules
