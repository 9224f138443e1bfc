use Rattle.std.proofs.Common.{arith}
use Rattle.std.proofs.lemmas.Grind.{common_steps}
use Rattle.pkgname.proofs.parts.before_digits_at_end.Goals as goal

pub digits-preserved : goal.digits-preserved
digits-preserved c = grind (arith, common_steps)

pub returns-in_default-clause-front : goal.returns-in_default-clause-front
returns-in_default-clause-front c = grind (arith, common_steps)

pub returns-then-not-is_ascii_digit-clause-front : goal.returns-then-not-is_ascii_digit-clause-front
returns-then-not-is_ascii_digit-clause-front c = grind (arith, common_steps)
