use Rattle.std.proofs.Common.{rules}
use Rattle.pkgname.proofs.NameFaultFault.number.Goals as goal

pub returns-in-NoVersion : goal.returns-in-NoVersion
returns-in-NoVersion c = search rules
