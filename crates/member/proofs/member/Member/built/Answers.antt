use Rattle.std.proofs.lemmas.Grind.{common_steps}
use Rattle.std.proofs.Common.{Ok, Some, ap, sym, ◌∙◌, arith}
use Rattle.std.proofs.lemmas.Result.{err_from_is_err_and}
use Rattle.claims.specs.Job.{Task}
use Rattle.ballots.specs.Support.{of_nobody}
use Rattle.ballots.specs.declared.message.Body.TheVariants.{Propose}
use Rattle.protocol.specs.Answers.{everyone, message_of}
use Rattle.protocol.specs.Sends.{sent_to}
use Rattle.protocol.specs.State.{State}
use Rattle.member.proofs.BuiltAnswers.{built_refused, built_said}
use Rattle.member.proofs.MadeBuild.{waiting_is_claimed}
use Rattle.member.proofs.member.Member.built.Goals as goal

pub returns-in_err-made : goal.returns-in_err-made
returns-in_err-made c =
    let p = err_from_is_err_and c.from_residual-in_err-made.result
    c.from_residual-in_err-made.ensures.1 in
    rw (p.1, p.2) (built_refused c.args.self.now c.args.path.now c.args.packages
    c.in_ok-unit.unit c.in_ok-unit.job.now c.in_ok-unit.ensures.job _ c.in_err-made.ensures)

pub returns : goal.returns
returns c =
    let s = c.args.self.now in
    let u = c.in_ok-unit.unit in
    let claim = c.job.inside.claim in
    let all = c.everyone.ensures ∙ ap everyone c.self.view_is in
    let sends =
    c.saying.ensures.sends
    ∙ (c.in_ok-sends.ensures
    ∙ ap (sent_to (Some (message_of s u (Propose claim c.in_ok-build.build)))) all) in
    built_said s c.args.path.now c.args.packages u c.in_ok-unit.job.now c.in_ok-unit.ensures.job
    c.in_ok-build.build c.saying.result c.job.inside.host claim c.new.result
    (c.in_ok-made.ensures ∙ ap (λ b. Ok b) (sym c.in_ok-build.ensures))
    (ap (λ (j : Task). j.host) c.job.view_is) (ap (λ (j : Task). j.claim) c.job.view_is)
    (c.new.ensures ∙ ap (λ (s : State). of_nobody s.weights) c.self.view_is)
    c.saying.ensures.note sends c.saying.ensures.job c.saying.ensures.change

pub proposed-requires : goal.proposed-requires
proposed-requires c = grind (arith, common_steps)

pub build_of-requires-clause-claim : goal.build_of-requires-clause-claim
build_of-requires-clause-claim c =
    waiting_is_claimed c.args.self.now c.args.path.now c.in_ok-unit.unit c.in_ok-unit.job.now c.building.ensures.member c.in_ok-unit.ensures.job
