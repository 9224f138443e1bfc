use Rattle.dpbr_run.specs.shared.NodeLines.{HasNodeLines}
use Rattle.cluster_turns.specs.State.{IsWorldOf}
use Rattle.world.specs.World.{World}
use Rattle.dpbn_cluster.proofs.turning.lines_of.Given as goal

abbrev pub invariant-loop-node : goal.invariant-loop-node
invariant-loop-node g l =
    (w : World) → IsWorldOf l.cluster w → HasNodeLines w l.node l.text.items
