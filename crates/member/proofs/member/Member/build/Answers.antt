use Rattle.std.proofs.Common.{◌≡◌, ◌∙◌, Some, ap, subst, sym}
use Rattle.claims.specs.Job.{Task}
use Rattle.faults.specs.Answers.{IsRightUnless}
use Rattle.protocol.specs.Jobs.{job_of}
use Rattle.protocol.specs.State.{State}
use Rattle.protocol.specs.Step.{made_by, unit_in}
use Rattle.protocol.specs.declared.refusal.Refusal.TheVariants.{Memory}
use Rattle.member.proofs.member.Member.build.Goals as goal

pub returns : goal.returns
returns c = λ unit named.
    let s = c.args.self.now in
    let host = c.args.host in
    let claim = c.args.claim in
    let given = c.args.packages in
    let u = c.unwrap-unit.result in
    let found : unit_in s c.args.path.now ≡ Some u =
    ap (λ (t : State). unit_in t c.args.path.now) (sym c.self.view_is) ∙ sym c.find.ensures ∙ c.unwrap-unit.ensures in
    let two : Some u ≡ Some unit = sym found ∙ named in
    let same : u ≡ unit = cc in
    subst (λ v. IsRightUnless Memory c.build_of.result (made_by s v (job_of s v host claim) given)) same
    (subst (λ (j : Task). IsRightUnless Memory c.build_of.result (made_by s u j given)) c.in_ok-job.ensures c.build_of.ensures)
