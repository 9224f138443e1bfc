use Rattle.std.proofs.Common.{rules}
use Rattle.pkgname.proofs.name.PkgName.write_to.Goals as goal

pub returns-clause-ok : goal.returns-clause-ok
returns-clause-ok c = search rules
