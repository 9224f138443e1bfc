use Rattle.std.proofs.Common.{◌≤◌, length}
use Rattle.cluster_turns.proofs.Elsewhere.{AreElsewhere}
use Rattle.cluster_turns.specs.Here.{here_in}
use Rattle.cluster_turns.proofs.chosen.open_elsewhere.Given as goal

abbrev pub invariant-loop-other : goal.invariant-loop-other
invariant-loop-other g l =
    AreElsewhere (here_in l.nodes) l.at l.units.items l.other
    × (length l.units.items ≤ l.other)
