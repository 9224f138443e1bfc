use Rattle.check_turns.specs.Going.{GoesOn, WasAskedAtMost}
use Rattle.check_turns.proofs.run.take_turns.Given as goal

abbrev pub invariant-loop-turn : goal.invariant-loop-turn
invariant-loop-turn g l = record {
  goes_on : GoesOn l.initial.cluster l.cluster;
  asked : WasAskedAtMost l.turn g.P.Port l.initial.cluster.port l.cluster.port;
}
