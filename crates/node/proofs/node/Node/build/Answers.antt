use Rattle.std.proofs.Common.{◌≡◌, ℕ, Some, subst}
use Rattle.faults.specs.Answers.{IsRightUnless}
use Rattle.protocol.specs.Jobs.{job_of}
use Rattle.protocol.specs.State.{State}
use Rattle.protocol.specs.Step.{made_by, unit_in}
use Rattle.protocol.specs.declared.refusal.Refusal.TheVariants.{Memory}
use Rattle.node.specs.State.{LoggedNode}
use Rattle.node.proofs.node.Node.build.Goals as goal

pub returns : goal.returns
returns g c =
    let right : State → Type 0 = λ s. (unit : ℕ) → unit_in s c.args.path.now ≡ Some unit
    → IsRightUnless Memory c.build.result (made_by s unit (job_of s unit c.args.host c.args.claim) c.args.packages) in
    subst (λ (n : LoggedNode g.row.D.Denot). right n.node.member) c.self.view_is c.build.ensures
