-- The items of an array as events, some of them parsed already and some still to come.
use Rattle.std.specs.Prelude.{List, length, map, Result, Ok, Err}
use Rattle.faults.specs.Answers.{map_ok}
use Rattle.std.specs.Prelude.{◌++◌}
use Rattle.protocol.specs.Events.{Event, event_view}
use Rattle.serde_json.specs.Data.{Items}
use Rattle.traces.specs.Trace.{Place, events_from}
use Rattle.traces.specs.declared.listed.Listed.{Listed}
use Rattle.traces.specs.declared.listed.Listed.TheVariants.{Events, BadAt}

-- the result so far
abbrev pub answer : Listed → Result (List Event) Place
answer (Events events) = Ok (map event_view events.items)
answer (BadAt place) = Err place

-- these events, followed by the rest
abbrev pub events_behind : List Event → Result (List Event) Place → Result (List Event) Place
events_behind done rest = map_ok (λ es. done ++ es) rest

-- the result after the items that are still to come
abbrev pub answer_behind : Listed → Items → Result (List Event) Place
answer_behind (Events events) rest =
    events_behind (map event_view events.items) (events_from (length events.items) rest)
answer_behind (BadAt place) rest = Err place
