use Rattle.std.proofs.Common.{rules}
use Rattle.pkgpath.proofs.path.PkgPath.write_to.Goals as goal

pub returns-clause-ok : goal.returns-clause-ok
returns-clause-ok c = search rules
