use Rattle.std.proofs.Common.{◌≡◌, Ok, Some, ap, false, sym, ◌∙◌}
use Rattle.std.specs.Prelude.{is_some}
use Rattle.ballots.specs.declared.message.Body.TheVariants.{Ask}
use Rattle.protocol.specs.Answers.{message_of, others}
use Rattle.protocol.specs.Sends.{sent_to}
use Rattle.protocol.specs.State.{is_held}
use Rattle.protocol.specs.Step.{asks}
use Rattle.protocol.proofs.Asked.{unit_is_one}
use Rattle.member.proofs.KnownUnits.{facts_known, seen_member, unit_within}
use Rattle.member.proofs.NewClaims.{open_question, question, unit_question}
use Rattle.member.proofs.Preparing.{made_so, says_so}
use Rattle.member.proofs.member.Member.asked.Goals as goal

pub returns : goal.returns
returns c =
    let s = c.args.self.now in
    let m = c.self.inside in
    let u = c.in_ok-unit.unit in
    let path = c.args.path.now in
    let is = seen_member m s c.self.view_is c.self.invariant.member in
    let lt = unit_is_one s path u c.in_ok-unit.ensures.ok in
    let within = unit_within m s u c.self.view_is c.self.invariant.member lt in
    let known = facts_known m s u c.index.result.now c.self.view_is within c.index.ensures in
    let held : is_held s u ≡ false =
    ap (λ f. is_some f.held) known ∙ (sym c.is_some.ensures ∙ c.if-is_some.false) in
    let to = c.others.ensures ∙ ap others c.self.view_is in
    let sends = c.saying.ensures.sends
    ∙ (c.in_ok-sends.ensures ∙ ap (sent_to (Some (message_of s u Ask))) to) in
    unit_question s path u (Ok c.saying.result) c.in_ok-unit.ensures.ok
    (made_so s (asks s u) (question s u) c.saying.result (open_question s u is held)
    (says_so s c.saying.result (sent_to (Some (message_of s u Ask)) (others s))
    c.saying.ensures.note sends c.saying.ensures.job c.saying.ensures.change))
