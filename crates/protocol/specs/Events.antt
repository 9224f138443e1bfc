-- What may happen to the nodes of a world. These are the values of events, in which a boxed event
-- is just an event.
use Rattle.std.specs.Prelude.{ℕ, Bool, true, false}
use Rattle.faults.specs.Bytes.{Text}
use Rattle.protocol.specs.Given.{Given}
use Rattle.protocol.specs.declared.event.Event as declared
use Rattle.protocol.specs.declared.event.Left.{Left}

-- A path names a unit: it is the unit's name, or the path of any of its packages.
pub data Event : Type 0 where
  -- the node, the path, the host, and the round that the claim's round must exceed
  Claim : ℕ → Text → ℕ → ℕ → Event
  -- the node, the path, and the files of the unit's packages
  Built : ℕ → Text → Given → Event
  Failed : ℕ → Text → Event
  Nudge : ℕ → Event
  Ask : ℕ → Text → Event
  -- the number of the datagram, and the node that receives it
  Deliver : ℕ → ℕ → Event
  Stop : ℕ → Event
  -- A node stops inside the step of an event; `Left` says how much of the step's note remains.
  StopIn : Event → Left → Event
  Restart : ℕ → Event

-- the value of a declared event
abbrev pub event_view : declared.Event → Event
event_view (declared.Claim n path host above) = Claim n path host above
event_view (declared.Built n path packages) = Built n path packages
event_view (declared.Failed n path) = Failed n path
event_view (declared.Nudge n) = Nudge n
event_view (declared.Ask n path) = Ask n path
event_view (declared.Deliver d n) = Deliver d n
event_view (declared.Stop n) = Stop n
event_view (declared.StopIn' p input left) = StopIn (event_view input) left
event_view (declared.Restart n) = Restart n

-- Whether it is a step of a node: one of the six that a stop may cut short.
abbrev pub is_step : Event → Bool
is_step (Claim n path host above) = true
is_step (Built n path files) = true
is_step (Failed n path) = true
is_step (Nudge n) = true
is_step (Ask n path) = true
is_step (Deliver d n) = true
is_step (Stop n) = false
is_step (StopIn e left) = false
is_step (Restart n) = false

-- the number of the event's node
abbrev pub node_of : Event → ℕ
node_of (Claim n path host above) = n
node_of (Built n path files) = n
node_of (Failed n path) = n
node_of (Nudge n) = n
node_of (Ask n path) = n
node_of (Deliver d n) = n
node_of (Stop n) = n
node_of (StopIn e left) = node_of e
node_of (Restart n) = n
