use Rattle.std.specs.List.{list_any}
use Rattle.std.proofs.Common.{◌==◌, ◌||◌}
use Rattle.std.proofs.lemmas.Result.{err_from_is_err_and}
use Rattle.turn_rules.specs.Pending.{has_failed}
use Rattle.member.specs.OpenClaims.{open_of}
use Rattle.turn_rules.proofs.DoingOwn.{claim_within, claims_least, claims_some, renews_some}
use Rattle.turn_rules.proofs.owning.input_of.Goals as goal

pub renewed-requires : goal.renewed-requires
renewed-requires c =
    claim_within c.args.member.now c.in-Some.ensures.member (open_of c.in-Some.open.now)
    c.in-Some.ensures.claim

pub returns-in_ok-claim_of-in-Some-least_free-clause-own :
    goal.returns-in_ok-claim_of-in-Some-least_free-clause-own
returns-in_ok-claim_of-in-Some-least_free-clause-own c =
    claims_least c.args.member.now c.in_default.ensures.claim c.args.above
    (λ u. has_failed c.args.pending.now u || list_any (λ v. v == u) c.args.elsewhere.now)
    c.in-Some-least_free.position c.in-Some-least_free.ensures
    c.in_ok-claim_of-in-Some-least_free.field-0 c.in_ok-claim_of-in-Some-least_free.ensures

pub returns-in_err-renewed-clause-due : goal.returns-in_err-renewed-clause-due
returns-in_err-renewed-clause-due c =
    let p = err_from_is_err_and c.from_residual.result
    c.from_residual.ensures.1 in
    rw p.1 (renews_some c.args.member.now (open_of c.in-Some.open.now) c.in-Some.ensures.claim
    c.args.above
    (λ u. has_failed c.args.pending.now u || list_any (λ v. v == u) c.args.elsewhere.now))

pub returns-in_err-claim_of-in-Some-least_free-clause-due :
    goal.returns-in_err-claim_of-in-Some-least_free-clause-due
returns-in_err-claim_of-in-Some-least_free-clause-due c =
    let p = err_from_is_err_and c.from_residual-in_err-claim_of-in-Some-least_free.result
    c.from_residual-in_err-claim_of-in-Some-least_free.ensures.1 in
    rw p.1 (claims_some c.args.member.now c.in_default.ensures.claim c.args.above
    (λ u. has_failed c.args.pending.now u || list_any (λ v. v == u) c.args.elsewhere.now)
    c.in-Some-least_free.position c.in-Some-least_free.ensures)
