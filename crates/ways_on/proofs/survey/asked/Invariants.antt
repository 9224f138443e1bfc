use Rattle.std.proofs.Common.{◌≡◌, false, filter}
use Rattle.std.specs.List.{range_with_len}
use Rattle.claims.specs.Quorums.{is_majority, named_in}
use Rattle.ways_on.proofs.survey.asked.Given as goal
use Rattle.world.specs.Happening.{is_up}

abbrev pub invariant-loop-node : goal.invariant-loop-node
invariant-loop-node l = record {
  kept : l.asked.items ≡ filter (is_up l.world.world) (range_with_len 0 l.node);
  none : is_majority l.world.world.weights (named_in l.asked.items) ≡ false;
}
