use Rattle.std.proofs.Common.{ap, subst, ◌∙◌}
use Rattle.faults.specs.Answers.{IsRightUnless}
use Rattle.node.specs.State.{NodeState}
use Rattle.protocol.specs.Step.{unit_in}
use Rattle.protocol.specs.declared.refusal.Refusal.TheVariants as refusals
use Rattle.ways_on.specs.inside.Planned.{made_under}
use Rattle.ways_on.proofs.files.build_of.Goals as goal

pub returns : goal.returns
returns c = λ x u stands named.
    let is = c.node.ensures x stands in
    subst (λ (n : NodeState). IsRightUnless refusals.Memory c.build.result
    (made_under n.member u c.args.host c.args.claim c.args.packages)) is
    (c.build.ensures u (ap (λ (n : NodeState). unit_in n.member c.args.path.now) is ∙ named))
