use Rattle.std.proofs.Common.{◌<◌, ◌∙◌, arith, length, refl}
use Rattle.std.proofs.lemmas.Result.{err_from_is_err_and}
use Rattle.cluster_turns.proofs.Jobs.{job_answered, job_wants, none_answered}
use Rattle.cluster_turns.proofs.chosen.answered.Goals as goal

pub returns-in_err-readied-clause-refused : goal.returns-in_err-readied-clause-refused
returns-in_err-readied-clause-refused g c =
    let p = err_from_is_err_and c.from_residual.result c.from_residual.ensures.1 in
    let nodes = c.args.nodes.now.items in
    let below : c.loop-node.node < length nodes = omega (arith, c.args.nodes.now.ok.0) in
    let wants = job_wants nodes c.args.builds.now c.loop-node.nodes.items c.loop-node.invariant.0
    (length nodes) c.loop-node.node below c.loop-node.invariant.1 c.in_err-readied.field-0.0
    c.in_err-readied.ensures.refused in
    rw p.1 (p.2 ∙ wants.0, wants.1)

pub returns-in-Some-clause-chosen : goal.returns-in-Some-clause-chosen
returns-in-Some-clause-chosen g c =
    let nodes = c.args.nodes.now.items in
    let below : c.loop-node.node < length nodes = omega (arith, c.args.nodes.now.ok.0) in
    job_answered nodes c.args.builds.now c.loop-node.nodes.items c.loop-node.invariant.0
    (length nodes) c.loop-node.node below c.loop-node.invariant.1 c.in_ok-readied.field-0
    (record { node = c.loop-node.node; readied = c.in-Some.readied }) c.in-Some.is refl
    c.in_ok-readied.ensures.part

pub loop-node-preserved : goal.loop-node-preserved
loop-node-preserved g c = (
  c.answer_at.ensures.same ∙ c.loop-node.invariant.0,
  none_answered c.args.nodes.now.items c.args.builds.now c.loop-node.nodes.items
      c.loop-node.invariant.0 c.loop-node.node c.loop-node.invariant.1 c.in_ok-readied.field-0
      c.in_default.is c.in_ok-readied.ensures.part,
)
