use Rattle.laws.proofs.recorded.Recorded.is_among_first.Given as goal

abbrev pub invariant-loop-place : goal.invariant-loop-place
invariant-loop-place g l = Unit {0}
