use Rattle.std.proofs.Common.{map, take}
use Rattle.protocol.specs.Events.{event_view}
use Rattle.check_worlds.specs.Stops.{HasTaken}
use Rattle.check_worlds.proofs.going.go.Given as goal

abbrev pub invariant-loop-event : goal.invariant-loop-event
invariant-loop-event l = HasTaken l.initial.world (map event_view (take l.event-index l.events)) l.world
