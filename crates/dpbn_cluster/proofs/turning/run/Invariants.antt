use Rattle.dpbn_cluster.specs.Running.{HasRun}
use Rattle.dpbn_cluster.proofs.turning.run.Given as goal

abbrev pub invariant-loop : goal.invariant-loop
invariant-loop g l =
    HasRun g.P.Port l.builds l.initial.cluster l.cluster l.counter
