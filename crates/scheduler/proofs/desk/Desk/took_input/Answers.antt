use Rattle.std.proofs.Common.{subst, sym}
use Rattle.scheduler.specs.Taking.{KeepsQuestion}
use Rattle.scheduler.proofs.desk.Desk.took_input.Goals as goal

pub returns-in-Claim-clause-question : goal.returns-in-Claim-clause-question
returns-in-Claim-clause-question c =
    subst
    (λ i. KeepsQuestion c.args.member.now i c.args.now c.args.self.now c.claimed.new.self)
    (sym c.in-Claim.is) c.claimed.ensures.question
