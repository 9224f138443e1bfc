use Rattle.dpbn_build.proofs.Turns.{HaveLed}
use Rattle.dpbn_build.proofs.turning.take_turns.Given as goal

abbrev pub invariant-loop : goal.invariant-loop
invariant-loop g l =
    HaveLed g.D.Disk g.P.Port g.P.BuildPort.noticed g.P.BuildPort.hurried l.initial.solo l.solo
