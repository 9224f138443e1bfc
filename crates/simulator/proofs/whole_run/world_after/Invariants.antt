use Rattle.std.proofs.Common.{◌≡◌, ◌++◌, length, map}
use Rattle.protocol.specs.Events.{event_view}
use Rattle.simulator.proofs.whole_run.world_after.Given as goal
use Rattle.simulator.specs.History.{IsHistory, taken}

abbrev pub invariant-events : goal.invariant-events
invariant-events l = record {
  history : IsHistory l.world;
  tree : l.world.world.division.tree ≡ l.initial.world.world.division.tree;
  weights : l.world.world.weights ≡ l.initial.world.world.weights;
  kept : taken l.world ++ map event_view l.left ≡ map event_view l.initial.left;
}

abbrev pub decreases-events : goal.decreases-events
decreases-events l = length l.left
