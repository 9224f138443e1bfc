use Rattle.std.proofs.Common.{map, take}
use Rattle.std.specs.Prelude.{All}
use Rattle.dpbr_wayon.specs.inside.Sound.{IsSound}
use Rattle.protocol.specs.Events.{event_view}
use Rattle.traces.specs.Again.{IsTextEvent}
use Rattle.dpbr_wayon.proofs.writable.can_be_written.Given as goal

abbrev pub invariant-loop-event : goal.invariant-loop-event
invariant-loop-event l = All IsSound (map event_view l.events)
    → All IsTextEvent (map event_view (take l.event-index l.events))
