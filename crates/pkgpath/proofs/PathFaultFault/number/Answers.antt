use Rattle.std.proofs.Common.{rules}
use Rattle.pkgpath.proofs.PathFaultFault.number.Goals as goal

pub returns-in-TwoSubpackages : goal.returns-in-TwoSubpackages
returns-in-TwoSubpackages c = search rules

pub returns-in-TwoEmptyParts : goal.returns-in-TwoEmptyParts
returns-in-TwoEmptyParts c = search rules
