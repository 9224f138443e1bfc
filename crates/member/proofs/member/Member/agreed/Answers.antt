use Rattle.std.proofs.Common.{◌≡◌, ◌∙◌, Some, ap, refl, subst, sym}
use Rattle.protocol.specs.Answers.{dropped}
use Rattle.member.specs.OpenClaims.{open_of}
use Rattle.member.specs.Prepared.{IsChangeWeighedBy, changed}
use Rattle.member.proofs.Heard.{agreed_again, agreed_makes, claim_ends, claim_stays, none_held}
use Rattle.member.proofs.Heard.{some_held}
use Rattle.member.proofs.KnownUnits.{facts_known, seen_member, unit_within}
use Rattle.member.proofs.member.Member.agreed.Goals as goal
use Rattle.member.proofs.member.Member.agreed.Goals.{in-Some, in-None}

pub returns-then-is_some : goal.returns-then-is_some
returns-then-is_some c =
    let s = c.args.self.now in
    let m = c.self.inside in
    let k = c.index.result.now in
    let within = unit_within m s c.args.unit c.self.view_is c.self.invariant.member c.requires in
    let known = facts_known m s c.args.unit k c.self.view_is within c.index.ensures in
    let held = some_held k.held (sym c.is_some.ensures ∙ c.if-is_some.true) in
    agreed_again s c.args.unit c.args.build held.0 c.nothing.result
    (seen_member m s c.self.view_is c.self.invariant.member) (ap (λ f. f.held) known ∙ held.1)
    (record {
      note = c.nothing.ensures.note;
      job = c.nothing.ensures.job;
      change = c.nothing.ensures.change;
    })
    c.nothing.ensures.sends

pub returns : goal.returns
returns c =
    let s = c.args.self.now in
    let m = c.self.inside in
    let k = c.index.result.now in
    let u = c.args.unit in
    let change = c.match-claim_for.change in
    let within = unit_within m s u c.self.view_is c.self.invariant.member c.requires in
    let known = facts_known m s u k c.self.view_is within c.index.ensures in
    let held = none_held k.held (sym c.is_some.ensures ∙ c.if-is_some.false) in
    let claim : changed change s.claim ≡ dropped s.claim u = elim c.match-claim_for.branch [
      | in-Some w ↦
          let is = w.in-Some.ensures.claim in
          claim_ends s.claim (open_of w.in-Some.field-0.now) u change is.0 is.1 w.change-is
      | in-None w ↦ claim_stays s.claim u change w.in-None.ensures.claim w.change-is
    ] in
    let weighed : IsChangeWeighedBy s.weights change s.claim = elim c.match-claim_for.branch [
      | in-Some w ↦ subst (λ d. IsChangeWeighedBy s.weights d s.claim) (sym w.change-is) tt
      | in-None w ↦ subst (λ d. IsChangeWeighedBy s.weights d s.claim) (sym w.change-is) tt
    ] in
    agreed_makes s u c.args.build _ (ap (λ f. f.held) known ∙ held)
    (ap (λ n. Some n) c.in_ok-note.ensures.note) c.nothing-2.ensures refl claim weighed
