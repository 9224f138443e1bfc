use Rattle.std.proofs.lemmas.Result.{err_from_is_err_and}
use Rattle.member.specs.OpenClaims.{open_of}
use Rattle.turn_rules.proofs.DoingOwn.{claim_within, goes_on_voting}
use Rattle.turn_rules.proofs.scheduled.going_on.Goals as goal

pub renewed-requires : goal.renewed-requires
renewed-requires c =
    claim_within c.args.member.now c.in-Some.ensures.member (open_of c.in-Some.open.now)
    c.in-Some.ensures.claim

pub returns-in_err-renewed-in-Voting-clause-due :
    goal.returns-in_err-renewed-in-Voting-clause-due
returns-in_err-renewed-in-Voting-clause-due c =
    let p = err_from_is_err_and c.from_residual.result c.from_residual.ensures.1 in
    rw p.1 (goes_on_voting c.args.member.now c.in-Some.open.now c.in-Some.ensures.claim
    c.in-Voting.claim c.in-Voting.value c.in-Voting.voted c.in-Voting.is c.args.above)
