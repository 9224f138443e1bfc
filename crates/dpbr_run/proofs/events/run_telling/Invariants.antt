use Rattle.std.proofs.Common.{◌≡◌, map, take}
use Rattle.protocol.specs.Events.{event_view}
use Rattle.dpbr_run.specs.Events.{HasEventLines}
use Rattle.dpbr_run.proofs.events.run_telling.Given as goal
use Rattle.simulator.specs.History.{IsHistory, taken}
use Rattle.world.specs.World.{start}

abbrev pub invariant-events : goal.invariant-events
invariant-events l = record {
  history : IsHistory l.world;
  tree : l.world.world.division.tree ≡ l.initial.world.world.division.tree;
  weights : l.world.world.weights ≡ l.initial.world.world.weights;
  kept : taken l.world ≡ map event_view (take l.event-index l.events);
  lines : HasEventLines (start l.world.world.division l.world.world.weights) 1 (taken l.world)
      l.world.world l.text.items;
}
