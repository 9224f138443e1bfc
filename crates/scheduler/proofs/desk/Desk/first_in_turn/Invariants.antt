use Rattle.std.proofs.Common.{◌≡◌, length}
use Rattle.scheduler.specs.Wishing.{NoneBefore}
use Rattle.scheduler.proofs.desk.Desk.first_in_turn.Given as goal

abbrev pub invariant-loop-turn : goal.invariant-loop-turn
invariant-loop-turn l = NoneBefore l.member l.self l.now l.turn
