use Rattle.std.proofs.Common.{rules}
use Rattle.pkgname.proofs.name.PkgName.stem.Goals as goal

pub returns : goal.returns
returns c = search rules
