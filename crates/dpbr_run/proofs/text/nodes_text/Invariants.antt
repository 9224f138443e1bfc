use Rattle.dpbr_run.specs.shared.NodeLines.{HasNodeLines}
use Rattle.dpbr_run.proofs.text.nodes_text.Given as goal

abbrev pub invariant-loop-node : goal.invariant-loop-node
invariant-loop-node l = HasNodeLines l.world.world l.node l.text.items
