use Rattle.std.proofs.Common.{rules}
use Rattle.member.proofs.known.Known.shared.Goals as goal

pub returns-in-Some : goal.returns-in-Some
returns-in-Some c = search rules
