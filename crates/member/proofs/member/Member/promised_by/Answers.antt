use Rattle.std.proofs.Common.{subst}
use Rattle.std.proofs.lemmas.Result.{IfOk-weaker}
use Rattle.ballots.specs.InTheAgreement.{IsStepOnPromise}
use Rattle.member.proofs.Counted.{number_within, promise_makes}
use Rattle.member.proofs.member.Member.promised_by.Goals as goal

pub promise-requires : goal.promise-requires
promise-requires c =
    let s = c.args.self.now in
    let is = c.claim_for.ensures.member in
    number_within s.weights c.args.sender is.weights c.requires.sender

pub returns : goal.returns
returns c =
    let s = c.args.self.now in
    let o = c.in-Some.open.now in
    let own = c.in-Some.ensures.claim in
    let step = c.in_ok-step.step in
    let of = c.in_ok-step.ensures in
    IfOk-weaker c.counting.result _ _
    (λ made is. promise_makes s o c.args.unit c.args.sender c.args.claim c.args.report step made
    c.claim_for.ensures.member own.0 own.1 own.2 c.requires.unit c.requires.sender
    (subst (λ r. IsStepOnPromise o.claimer c.args.sender c.args.claim r step)
    c.as_ref.ensures.value of) is)
    c.counting.ensures
