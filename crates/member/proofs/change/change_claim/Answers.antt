use Rattle.std.proofs.Common.{List, ℕ, Option, option_map, subst, sym}
use Rattle.std.specs.Option.{ForSome}
use Rattle.member.specs.OpenClaims.{IsWeighedBy, open_of}
use Rattle.member.specs.Prepared.{IsChangeWeighedBy}
use Rattle.member.specs.declared.open_claim.OpenClaim.{OpenClaim}
use Rattle.member.proofs.change.change_claim.Goals as goal

pub returns-clause-weighed : goal.returns-clause-weighed
returns-clause-weighed c =
    let next = subst (λ (old : Option OpenClaim). (weights : List ℕ)
    → ForSome old (λ o. IsWeighedBy weights o.claimer)
    → IsChangeWeighedBy weights c.args.change (option_map open_of old)
    → ForSome c.changed-next.result (λ o. IsWeighedBy weights o.claimer)) c.take.ensures.value
    c.changed-next.ensures.weighed in
    λ weights was is.
    subst (λ (new : Option OpenClaim). ForSome new (λ o. IsWeighedBy weights o.claimer))
    (sym c.replace.ensures.after) (next weights was is)
