use Rattle.std.proofs.Common.{take}
use Rattle.auditing.specs.Allowed.{StoodEarlier}
use Rattle.auditing.proofs.standing.Standing.stood_earlier.Given as goal

abbrev pub invariant-loop-place : goal.invariant-loop-place
invariant-loop-place l = StoodEarlier l.earlier (take l.place l.built)
