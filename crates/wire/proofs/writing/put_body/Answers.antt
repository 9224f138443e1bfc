use Rattle.std.proofs.Common.{arith}
use Rattle.std.proofs.lemmas.Grind.{common_steps}
use Rattle.wire.proofs.writing.put_body.Goals as goal

pub returns-in_ok-push-in-Promise : goal.returns-in_ok-push-in-Promise
returns-in_ok-push-in-Promise c = grind (arith, common_steps)
