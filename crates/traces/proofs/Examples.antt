-- Traces, parsed and written, by computation.
use Rattle.std.specs.Prelude.{◌≡◌, [], ◌∷◌, None, Ok, Err, codes, refl}
use Rattle.protocol.specs.Events.{Deliver, Nudge, Restart, StopIn}
use Rattle.protocol.specs.declared.event.Left.TheVariants as left
use Rattle.traces.specs.Events.{clean_stop_in, deliver_in, event_in, node_alone_in}
use Rattle.traces.specs.Fields.{number_of}
use Rattle.traces.specs.Trace.{Trace, equals_in, outer_in, trace_from, weighted_in}
use Rattle.traces.specs.Written.{event_data, fields, list_data, natural, trace_data}

-- a trace of three members that restarts a node
abbrev restarts : Trace
restarts = record { weights = 1 ∷ 1 ∷ 1 ∷ []; events = Restart 0 ∷ [] }

-- what is written is parsed again
restarts_again : trace_from (outer_in (trace_data restarts)) ≡ Ok restarts
unfolding equals_in number_of node_alone_in
restarts_again = refl

-- a trace of members whose weights are not all 1
abbrev weighted : Trace
weighted =
    record { weights = 1 ∷ 1 ∷ 3 ∷ []; events = Nudge 2 ∷ StopIn (Deliver 0 1) left.Whole ∷ [] }

weighted_again : trace_from (outer_in (trace_data weighted)) ≡ Ok weighted
unfolding weighted_in number_of node_alone_in deliver_in clean_stop_in
weighted_again = refl

-- ten members are invalid, and so is an extra member of the outer object
ten_members : trace_from (outer_in (fields ((codes "events", list_data [])
    ∷ (codes "members", natural 10) ∷ []))) ≡ Err 0
unfolding equals_in number_of
ten_members = refl

one_more_member : trace_from (outer_in (fields ((codes "events", list_data [])
    ∷ (codes "extra", natural 1) ∷ (codes "members", natural 3) ∷ []))) ≡ Err 0
unfolding equals_in number_of
one_more_member = refl

-- the number of a node above 8 bits, in the second event
late_node : trace_from (outer_in (fields ((
  codes "events",
  list_data (event_data (Restart 0)
      ∷ event_data (Nudge 256) ∷ []),
) ∷ (codes "members", natural 3) ∷ []))) ≡ Err 2
unfolding equals_in number_of node_alone_in
late_node = refl

-- weights that are all 1 must not be written
ones_written : trace_from (outer_in (fields ((codes "events", list_data [])
    ∷ (codes "members", natural 2) ∷ (codes "weights", list_data (natural 1 ∷ natural 1 ∷ []))
    ∷ []))) ≡ Err 0
unfolding weighted_in number_of
ones_written = refl

-- a stop inside a restart is invalid
stop_in_restart : event_in (event_data (StopIn (Restart 0) left.None)) ≡ None
unfolding clean_stop_in node_alone_in number_of
stop_in_restart = refl
