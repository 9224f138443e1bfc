use Rattle.std.proofs.Common.{arith}
use Rattle.std.proofs.lemmas.Grind.{common_steps}
use Rattle.pkgname.proofs.parts.split_marker.Goals as goal

pub returns-in-len1-up-clause-front : goal.returns-in-len1-up-clause-front
returns-in-len1-up-clause-front c = grind (arith, common_steps)

pub returns-in-len1-up-clause-number : goal.returns-in-len1-up-clause-number
returns-in-len1-up-clause-number c = grind (arith, common_steps)

pub returns-in_default-clause-front : goal.returns-in_default-clause-front
returns-in_default-clause-front c = grind (arith, common_steps)

pub returns-in_default-clause-number : goal.returns-in_default-clause-number
returns-in_default-clause-number c = grind (arith, common_steps)
