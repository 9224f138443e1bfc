use Rattle.std.proofs.Common.{◌≡◌, map, take}
use Rattle.protocol.specs.Events.{event_view}
use Rattle.serde_json.specs.View.{view}
use Rattle.traces.specs.Written.{event_data}
use Rattle.traces.proofs.writing.events.Given as goal

abbrev pub invariant-loop-one : goal.invariant-loop-one
invariant-loop-one l = map view l.items.items ≡ map event_data (map event_view (take l.one-index l.all))
