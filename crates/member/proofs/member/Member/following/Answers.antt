use Rattle.std.proofs.Common.{◌≡◌, ◌∙◌, [], IfOk, Some, ap, rules, subst, sym}
use Rattle.ballots.specs.declared.claimer.Next.{Next}
use Rattle.claims.specs.Job.{Task}
use Rattle.protocol.specs.Jobs.{job_of}
use Rattle.protocol.specs.State.{Value}
use Rattle.member.specs.OpenClaims.{open_of}
use Rattle.member.specs.inside.Counting.{counter_prepared, counting, quiet_prepared}
use Rattle.member.proofs.KnownUnits.{seen_member}
use Rattle.member.proofs.SameStep.{claim_is_own}
use Rattle.member.proofs.member.Member.following.Goals as goal

pub job_for-requires : goal.job_for-requires
job_for-requires c =
    let is = seen_member c.self.inside c.args.self.now c.self.view_is c.self.invariant.member in
    (is.claim _ c.requires).unit

pub sent-requires : goal.sent-requires
sent-requires c =
    let is = seen_member c.self.inside c.args.self.now c.self.view_is c.self.invariant.member in
    (is.claim _ c.requires).unit

pub holding-requires : goal.holding-requires
holding-requires c =
    let is = seen_member c.self.inside c.args.self.now c.self.view_is c.self.invariant.member in
    (is.claim _ c.requires).unit

pub returns-in_ok-job-in-Build : goal.returns-in_ok-job-in-Build
returns-in_ok-job-in-Build c = λ change.
    let s = c.args.self.now in
    let own = c.args.own.now in
    let job = c.in_ok-job-in-Build.ensures
    ∙ ap (job_of s own.unit own.host) (c.claim.ensures ∙ sym (claim_is_own own.claimer)) in
    subst (λ (n : Next Value). IfOk c.giving.result
    (λ made. counting made change ≡ counter_prepared s (open_of own) n change))
    (sym c.in-Build.is)
    (subst (λ (task : Task). IfOk c.giving.result
    (λ made. counting made change ≡ quiet_prepared [] (Some task) change)) job
    (c.giving.ensures change))

pub returns-in-Hold : goal.returns-in-Hold
returns-in-Hold c = λ change.
    let s = c.args.self.now in
    let own = c.args.own.now in
    subst (λ (n : Next Value). IfOk c.holding.result
    (λ made. counting made change ≡ counter_prepared s (open_of own) n change))
    (sym c.in-Hold.is) (c.holding.ensures change)

pub returns-in_ok-sends-in-Propose : goal.returns-in_ok-sends-in-Propose
returns-in_ok-sends-in-Propose c = search rules
