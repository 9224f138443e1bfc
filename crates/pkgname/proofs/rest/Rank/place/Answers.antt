use Rattle.std.proofs.Common.{rules}
use Rattle.pkgname.proofs.rest.Rank.place.Goals as goal

pub returns-in-Beta : goal.returns-in-Beta
returns-in-Beta c = search rules

pub returns-in-Candidate : goal.returns-in-Candidate
returns-in-Candidate c = search rules
