use Rattle.std.proofs.Common.{◌≡◌, ◌∙◌, Some, ap, option_map, subst, sym}
use Rattle.protocol.specs.State.{State}
use Rattle.member.specs.OpenClaims.{IsWeighedBy, open_of}
use Rattle.member.proofs.member.Member.claim_for.Goals as goal

pub returns-then-open-unit-clause-claim : goal.returns-then-open-unit-clause-claim
returns-then-open-unit-clause-claim c =
    let o = c.in_ok-open.open.now in
    let is : c.self.inside.claim ≡ Some c.in_ok-open.open.now = sym c.in_ok-open.ensures.value in (
      sym (ap (λ (s : State). s.claim) c.self.view_is) ∙ ap (option_map open_of) is,
      c.if-open-unit.true,
      subst (λ (s : State). IsWeighedBy s.weights o.claimer) c.self.view_is
          (c.self.invariant.weighed o is),
    )
