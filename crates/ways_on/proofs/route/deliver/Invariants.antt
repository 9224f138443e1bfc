use Rattle.std.proofs.Common.{◌≡◌, ◌++◌, map}
use Rattle.protocol.specs.Events.{event_view}
use Rattle.ways_on.specs.inside.Listed.{deliveries}
use Rattle.ways_on.proofs.route.deliver.Given as goal

abbrev pub invariant-loop-ahead : goal.invariant-loop-ahead
invariant-loop-ahead l = map event_view l.events.items
    ≡ map event_view l.initial.events.items ++ deliveries l.first l.ahead l.node
