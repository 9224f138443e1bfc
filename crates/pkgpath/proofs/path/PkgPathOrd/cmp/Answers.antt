use Rattle.std.proofs.Common.{rules}
use Rattle.pkgpath.proofs.path.PkgPathOrd.cmp.Goals as goal

pub returns : goal.returns
returns c = search rules
