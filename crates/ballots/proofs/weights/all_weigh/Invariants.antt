use Rattle.std.proofs.Common.{◌≡◌, true, take}
use Rattle.std.specs.List.{list_all}
use Rattle.ballots.specs.Weights.{is_weight}
use Rattle.ballots.proofs.weights.all_weigh.Given as goal

abbrev pub invariant-loop-weight : goal.invariant-loop-weight
invariant-loop-weight l = list_all is_weight (take l.weight-index l.weights) ≡ true
