use Rattle.claims.proofs.Majorities.{named_more}
use Rattle.claims.proofs.quorum.members_join.Goals as goal

pub returns : goal.returns
returns c = named_more
