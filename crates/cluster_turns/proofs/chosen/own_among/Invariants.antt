use Rattle.std.proofs.Common.{◌≡◌, ◌≤◌, ◌-◌, ◌⊎◌, None, length}
use Rattle.std.specs.List.{range_with_len}
use Rattle.cluster_turns.specs.Choice.{IsFirstOwn}
use Rattle.cluster_turns.specs.Here.{here_in}
use Rattle.cluster_turns.specs.Unfailed.{EachFailedBelow}
use Rattle.cluster_turns.proofs.chosen.own_among.Given as goal

abbrev pub invariant-loop-node : goal.invariant-loop-node
invariant-loop-node g l =
    (l.nodes.items ≡ l.initial.nodes.items)
    × (l.from ≤ l.node)
    × ((l.node ≡ l.from) ⊎ (l.node ≤ l.below))
    × IsFirstOwn (here_in l.initial.nodes.items) (length l.initial.nodes.items) l.pending
    (range_with_len l.from (l.node - l.from)) None
    × EachFailedBelow l.initial.nodes.items l.pending l.unfailed
