use Rattle.std.proofs.Common.{Option, option_map, subst}
use Rattle.member.specs.OpenClaims.{open_of}
use Rattle.member.specs.Prepared.{IsChangeWeighedBy}
use Rattle.member.specs.declared.open_claim.OpenClaim.{OpenClaim}
use Rattle.member.specs.declared.step.ClaimChange.{ClaimChange}
use Rattle.member.specs.declared.step.ClaimChange.TheVariants.{Counts}
use Rattle.member.proofs.change.changed.Goals as goal

pub returns-in_ok-claim-in-Counts-clause-weighed :
    goal.returns-in_ok-claim-in-Counts-clause-weighed
returns-in_ok-claim-in-Counts-clause-weighed c = λ weights was is.
    let open_is = c.in_ok-claim-in-Counts.was in
    let by_change =
    subst (λ (x : ClaimChange). IsChangeWeighedBy weights x (option_map open_of c.args.claim))
    c.in-Counts.is is in
    let by_claim =
    subst (λ (x : Option OpenClaim).
    IsChangeWeighedBy weights (Counts c.in-Counts.change) (option_map open_of x)) open_is
    by_change in
    c.counted.ensures.weighed weights (was c.in_ok-claim-in-Counts.field-0 open_is) by_claim
