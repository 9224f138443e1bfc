use Rattle.std.proofs.Common.{rules}
use Rattle.pkgpath.proofs.path.PkgPathHash.hash.Goals as goal

pub returns : goal.returns
returns g c = search rules
