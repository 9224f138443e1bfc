use Rattle.dpbn_node.specs.Node.{HaveTaken}
use Rattle.lone_node.specs.Handed.{AllBuilds}
use Rattle.dpbn_node.proofs.turning.take_turns.Given as goal

abbrev pub invariant-loop : goal.invariant-loop
invariant-loop g l =
    HaveTaken g.D.Disk g.P.Port (AllBuilds l.builds) l.taken l.initial.solo l.solo
