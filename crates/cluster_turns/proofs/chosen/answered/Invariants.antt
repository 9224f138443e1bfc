use Rattle.std.proofs.Common.{◌≡◌}
use Rattle.cluster_turns.proofs.Jobs.{NoneHasJob}
use Rattle.cluster_turns.proofs.chosen.answered.Given as goal

abbrev pub invariant-loop-node : goal.invariant-loop-node
invariant-loop-node g l =
    (l.nodes.items ≡ l.initial.nodes.items)
    × NoneHasJob l.initial.nodes.items l.builds l.node
