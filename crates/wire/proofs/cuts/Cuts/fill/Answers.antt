use Rattle.std.proofs.Common.{arith}
use Rattle.std.proofs.lemmas.Grind.{common_steps}
use Rattle.wire.proofs.cuts.Cuts.fill.Goals as goal

pub returns-clause-cut : goal.returns-clause-cut
returns-clause-cut c = grind (arith, common_steps)

pub returns-clause-text : goal.returns-clause-text
returns-clause-text c = grind (arith, common_steps)
