use Rattle.std.proofs.Common.{rules}
use Rattle.pkgname.proofs.parts.compare_markers.Goals as goal

pub returns-in-None-Some : goal.returns-in-None-Some
returns-in-None-Some c = search rules
