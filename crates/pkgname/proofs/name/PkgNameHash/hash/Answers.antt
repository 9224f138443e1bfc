use Rattle.std.proofs.Common.{rules}
use Rattle.pkgname.proofs.name.PkgNameHash.hash.Goals as goal

pub returns : goal.returns
returns g c = search rules
