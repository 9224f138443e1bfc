use Rattle.std.proofs.Common.{IfOk, subst, sym}
use Rattle.std.proofs.lemmas.Result.{IfOk-weaker}
use Rattle.ballots.specs.declared.message.Body.{Body}
use Rattle.protocol.specs.State.{Value}
use Rattle.protocol.specs.Step.{hears}
use Rattle.member.specs.inside.Steps.{Makes}
use Rattle.member.proofs.Heard.{offer_makes, proposal_makes, refusal_passes}
use Rattle.member.proofs.KnownUnits.{facts_known, seen_member, unit_within, voter_known}
use Rattle.member.proofs.member.Member.answered.Goals as goal

pub returns-in_ok-step-in-Offer : goal.returns-in_ok-step-in-Offer
returns-in_ok-step-in-Offer c =
    let s = c.args.self.now in
    let m = c.self.inside in
    let u = c.args.unit in
    let k = c.index.result.now in
    let within = unit_within m s u c.self.view_is c.self.invariant.member c.requires.unit in
    let known = facts_known m s u k c.self.view_is within c.index.ensures in
    subst (λ (b : Body Value). IfOk c.voting.result (Makes s (hears s u c.args.sender b)))
    (sym c.in-Offer.is)
    (IfOk-weaker c.voting.result _ _
    (λ made is. offer_makes s u c.args.sender k.voter c.in-Offer.claim c.in_ok-step-in-Offer.step
    made (seen_member m s c.self.view_is c.self.invariant.member) (voter_known s u k known)
    c.in_ok-step-in-Offer.ensures is) c.voting.ensures)

pub returns-in_ok-step-in-Propose : goal.returns-in_ok-step-in-Propose
returns-in_ok-step-in-Propose c =
    let s = c.args.self.now in
    let m = c.self.inside in
    let u = c.args.unit in
    let k = c.index.result.now in
    let within = unit_within m s u c.self.view_is c.self.invariant.member c.requires.unit in
    let known = facts_known m s u k c.self.view_is within c.index.ensures in
    subst (λ (b : Body Value). IfOk c.voting-in-Propose.result
    (Makes s (hears s u c.args.sender b))) (sym c.in-Propose.is)
    (IfOk-weaker c.voting-in-Propose.result _ _
    (λ made is. proposal_makes s u c.args.sender k.voter c.in-Propose.claim c.in-Propose.build
    c.in_ok-step-in-Propose.step made (seen_member m s c.self.view_is c.self.invariant.member)
    (voter_known s u k known) c.in_ok-step-in-Propose.ensures is) c.voting-in-Propose.ensures)

pub returns-in-Nay : goal.returns-in-Nay
returns-in-Nay c =
    let s = c.args.self.now in
    subst (λ (b : Body Value). Makes s (hears s c.args.unit c.args.sender b) c.nothing.result)
    (sym c.in-Nay.is)
    (refusal_passes s c.args.unit c.args.sender c.in-Nay.field-0 c.in-Nay.field-1 c.nothing.result
    (seen_member c.self.inside s c.self.view_is c.self.invariant.member)
    (record {
      note = c.nothing.ensures.note;
      job = c.nothing.ensures.job;
      change = c.nothing.ensures.change;
    })
    c.nothing.ensures.sends)
