use Rattle.std.proofs.Common.{◌≡◌, true}
use Rattle.claims.proofs.Order.{by_claims}
use Rattle.claims.proofs.claim.claims_in_order.Goals as goal

pub returns-clause-induction : goal.returns-clause-induction
returns-clause-induction c = λ holds step. by_claims (λ d. holds d ≡ true) step
