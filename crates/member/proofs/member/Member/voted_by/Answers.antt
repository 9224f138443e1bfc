use Rattle.std.proofs.lemmas.Result.{IfOk-weaker}
use Rattle.member.proofs.Counted.{number_within, vote_makes}
use Rattle.member.proofs.member.Member.voted_by.Goals as goal

pub vote-requires : goal.vote-requires
vote-requires c =
    let s = c.args.self.now in
    let is = c.claim_for.ensures.member in
    number_within s.weights c.args.sender is.weights c.requires.sender

pub returns : goal.returns
returns c =
    let s = c.args.self.now in
    let o = c.in-Some.open.now in
    let own = c.in-Some.ensures.claim in
    IfOk-weaker c.counting.result _ _
    (λ made is. vote_makes s o c.args.unit c.args.sender c.args.claim c.in_ok-step.step made
    c.claim_for.ensures.member own.0 own.1 own.2 c.requires.unit c.requires.sender
    c.in_ok-step.ensures is)
    c.counting.ensures
