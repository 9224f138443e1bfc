use Rattle.std.proofs.Common.{◌∙◌, Some, ap, subst, sym}
use Rattle.ballots.specs.declared.claimer.Claimer.{Claimer}
use Rattle.protocol.specs.State.{Value}
use Rattle.member.specs.OpenClaims.{IsWeighedBy, open_of}
use Rattle.member.specs.declared.open_claim.OpenClaim.{OpenClaim}
use Rattle.member.proofs.Changing.{changed_then, of_some, weighed_then}
use Rattle.member.proofs.change.counted.Goals as goal

pub returns-in_default : goal.returns-in_default
returns-in_default c =
    let old = c.args.claim in
    let with : Claimer Value → OpenClaim = λ x. record old { claimer = x } in
    record {
      claim = ap (λ x. Some (open_of (with x))) c.apply.ensures
          ∙ sym (changed_then old c.args.change c.in_default.not-Ends);
      weighed = λ weights was is.
          of_some (λ (o : OpenClaim). IsWeighedBy weights o.claimer) (with c.apply.new.self)
          (subst (IsWeighedBy weights) (sym c.apply.ensures)
          (weighed_then weights old.claimer c.args.change was is));
    }
