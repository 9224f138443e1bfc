use Rattle.engine.proofs.Waiting.{IsInstallingAll}
use Rattle.engine.proofs.queueing.install_all.Given as goal

abbrev pub invariant-loop-position : goal.invariant-loop-position
invariant-loop-position l = IsInstallingAll l.units l.initial.letters l.letters l.waits l.lacks l.found l.position-index
