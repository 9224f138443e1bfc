use Rattle.std.proofs.Common.{rules}
use Rattle.pkgname.proofs.name.PkgNameOrd.cmp.Goals as goal

pub returns : goal.returns
returns c = search rules
