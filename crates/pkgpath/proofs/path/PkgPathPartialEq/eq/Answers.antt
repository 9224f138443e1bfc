use Rattle.std.proofs.Common.{rules}
use Rattle.pkgpath.proofs.path.PkgPathPartialEq.eq.Goals as goal

pub returns : goal.returns
returns c = search rules
