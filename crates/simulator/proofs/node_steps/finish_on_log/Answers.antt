use Rattle.std.proofs.Common.{◌∙◌, ap}
use Rattle.node.specs.Parcels.{datagrams_to}
use Rattle.one_list.proofs.nodes.NodeSteps.{sends_answered}
use Rattle.simulator.proofs.node_steps.finish_on_log.Goals as goal

pub returns-clause-sends : goal.returns-clause-sends
returns-clause-sends c =
    c.in_ok-effects.ensures.taken.tells.sends
    ∙ ap datagrams_to (sends_answered c.args.node.now.node.member c.args.ready.step)
