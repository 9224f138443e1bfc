-- Parsing a text as a trace.
use Rattle.std.specs.Prelude.{◌==◌, ◌&&◌, ◌+◌, ℕ, not, nat_le, List, [], ◌∷◌, Option, None, Some, Result, Ok, Err, is_some, length, replicate, if◌then◌else◌, codes}
use Rattle.std.specs.Str.{is_utf8}
use Rattle.faults.specs.Answers.{map_ok}
use Rattle.faults.specs.Bytes.{Text}
use Rattle.ballots.specs.Weights.{are_weights}
use Rattle.protocol.specs.Events.{Event}
use Rattle.serde_json.specs.Data.{Data, Items, no_items, item}
use Rattle.serde_json.specs.Find.{get}
use Rattle.serde_json.specs.Read.{read}
use Rattle.stable_record.specs.Magic.{are_ones}
use Rattle.traces.specs.Events.{event_in}
use Rattle.traces.specs.Fields.{◌>>=◌, array_at, count_in, items_at, number_at, number_of}

-- the weight of each member, and the events, in order
pub record Trace : Type 0 where
  pub weights : List ℕ
  pub events : List Event

-- the place of a fault in a trace: the number of an event, counted from 1, or 0 outside the events
abbrev pub Place : Type 0
Place = ℕ

-- the JSON value of a UTF-8 text
abbrev pub value_of : Text → Option Data
value_of text = if is_utf8 text then read text else None

-- the event followed by the rest, or the place of the first fault
abbrev pub with_event : Place → Option Event → Result (List Event) Place → Result (List Event) Place
with_event place None rest = Err place
with_event place (Some e) rest = map_ok (λ es. e ∷ es) rest

-- the events, or the number of the first item that isn't one, after this number of earlier items
abbrev pub events_from : ℕ → Items → Result (List Event) Place
events_from before no_items = Ok []
events_from before (item d ds) =
    with_event (before + 1) (event_in d) (events_from (before + 1) ds)

-- the weights of this number of members that each weigh 1, if there is a member
abbrev pub ones_of : ℕ → Option (List ℕ)
ones_of members = if nat_le 1 members then Some (replicate members 1) else None

-- the weights and the events' items, if all members weigh 1: `events` and `members`
unfoldable pub equals_in : Data → Option (List ℕ × Items)
equals_in d = do
  items ← items_at (codes "events") d
  weights ← number_at (codes "members") 9 d >>= ones_of
  if count_in d == 2 then Some (weights, items) else None

-- the weights, if they are valid, of this number of members, and not all 1
abbrev pub table_of : ℕ → List ℕ → Option (List ℕ)
table_of members weights =
    if are_weights weights && not (are_ones weights) && (length weights == members)
    then Some weights else None

-- the weights and the events' items, if not all members weigh 1: `weights` besides
unfoldable pub weighted_in : Data → Option (List ℕ × Items)
weighted_in d = do
  items ← items_at (codes "events") d
  members ← number_at (codes "members") 9 d
  weights ← array_at (codes "weights") (number_of 255) d >>= table_of members
  if count_in d == 3 then Some (weights, items) else None

-- the weights and the events' items
abbrev pub outer_in : Data → Option (List ℕ × Items)
outer_in d = if is_some (get (codes "weights") d) then weighted_in d else equals_in d

-- the trace with these weights and events
abbrev pub trace_with : List ℕ → List Event → Trace
trace_with weights events = record { weights = weights; events = events }

-- the trace of this outer value; a fault outside the events comes first, then that of the first bad
-- event
abbrev pub trace_from : Option (List ℕ × Items) → Result Trace Place
trace_from None = Err 0
trace_from (Some outer) = map_ok (trace_with outer.0) (events_from 0 outer.1)

-- the trace that the text encodes, or the place of its first fault
abbrev pub trace_of : Text → Result Trace Place
trace_of text = trace_from (value_of text >>= outer_in)
