use Rattle.std.proofs.Common.{◌≡◌, ◌+◌, ◌++◌, map, take}
use Rattle.protocol.specs.Events.{event_view}
use Rattle.ways_on.specs.inside.Listed.{votes_from}
use Rattle.ways_on.proofs.route.propose.Given as goal

abbrev pub invariant-loop-other : goal.invariant-loop-other
invariant-loop-other l = record {
  events : map event_view l.events.items ≡ map event_view l.initial.events.items
      ++ votes_from l.proposal l.pieces (l.proposal + l.pieces) l.node (take l.other-index l.asked);
  vote : l.vote ≡ l.proposal + l.pieces + l.other-index;
}
