use Rattle.std.proofs.Common.{◌∙◌, ap, sym}
use Rattle.cluster_turns.proofs.Jobs.{job_lent, part_lent}
use Rattle.cluster_turns.specs.Choosing.{told}
use Rattle.cluster_turns.proofs.chosen.answer_at.Goals as goal

pub returns-in-Ok-clause-part : goal.returns-in-Ok-clause-part
returns-in-Ok-clause-part g c =
    part_lent c.args.nodes.now.items c.args.builds.now c.args.at c.index_mut-node.result.now
    c.answer.new.node c.requires c.index_mut-node.ensures.value
    (sym c.is_stopped.ensures ∙ c.if-is_stopped.false) c.answer.ensures.same c.in-Ok.readied
    c.in-Ok.ensures.part

pub returns-in-Err-clause-refused : goal.returns-in-Err-clause-refused
returns-in-Err-clause-refused g c = (
  c.told.ensures ∙ ap told c.in-Err.ensures.refused.0,
  job_lent c.args.nodes.now.items c.args.builds.now c.args.at c.index_mut-node.result.now
      c.answer.new.node c.requires c.index_mut-node.ensures.value
      (sym c.is_stopped.ensures ∙ c.if-is_stopped.false) c.in-Err.ensures.refused.1,
)
