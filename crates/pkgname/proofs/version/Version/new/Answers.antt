use Rattle.std.proofs.Common.{rules}
use Rattle.pkgname.proofs.version.Version.new.Goals as goal

pub returns : goal.returns
returns c = search rules
