use Rattle.std.proofs.Common.{◌≡◌, ◌∙◌, Some, ap, sym}
use Rattle.ballots.specs.declared.message.Body.TheVariants.{Agreed}
use Rattle.protocol.specs.Answers.{message_of}
use Rattle.protocol.specs.Sends.{sent_to}
use Rattle.member.proofs.Heard.{question_makes, question_passes}
use Rattle.member.proofs.KnownUnits.{facts_known, seen_member, unit_within}
use Rattle.member.proofs.member.Member.asked_by.Goals as goal

pub returns-in_ok-sends-in-Some : goal.returns-in_ok-sends-in-Some
returns-in_ok-sends-in-Some c =
    let s = c.args.self.now in
    let m = c.self.inside in
    let k = c.index.result.now in
    let within = unit_within m s c.args.unit c.self.view_is c.self.invariant.member c.requires in
    let known = facts_known m s c.args.unit k c.self.view_is within c.index.ensures in
    let b = c.in_ok-build-in-Some.build in
    let build : c.in-Some.held ≡ b = sym c.build.ensures ∙ sym c.in_ok-build-in-Some.ensures in
    let is : k.held ≡ Some b = c.in-Some.is ∙ ap (λ v. Some v) build in
    let sends = c.in_ok-sends-in-Some.ensures
    ∙ ap (sent_to (Some (message_of s c.args.unit (Agreed b)))) c.one.ensures in
    question_makes s c.args.unit c.args.sender b c.saying.result
    (seen_member m s c.self.view_is c.self.invariant.member) (ap (λ f. f.held) known ∙ is)
    (record {
      note = c.saying.ensures.note;
      job = c.saying.ensures.job;
      change = c.saying.ensures.change;
    })
    (c.saying.ensures.sends ∙ sends)

pub returns-in-None : goal.returns-in-None
returns-in-None c =
    let s = c.args.self.now in
    let m = c.self.inside in
    let k = c.index.result.now in
    let within = unit_within m s c.args.unit c.self.view_is c.self.invariant.member c.requires in
    let known = facts_known m s c.args.unit k c.self.view_is within c.index.ensures in
    question_passes s c.args.unit c.args.sender c.nothing.result
    (seen_member m s c.self.view_is c.self.invariant.member) (ap (λ f. f.held) known ∙ c.in-None.is)
    (record {
      note = c.nothing.ensures.note;
      job = c.nothing.ensures.job;
      change = c.nothing.ensures.change;
    })
    c.nothing.ensures.sends
