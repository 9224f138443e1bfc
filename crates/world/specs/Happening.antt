-- What an event asks of its node, the world that it leaves, and why it is refused.
use Rattle.std.specs.Prelude.{◌≡◌, ◌⊎◌, ◌&&◌, ℕ, Bool, true, false, not, nat_le, List, [], ◌∷◌, Option, None, Some, Ok, Err, length, slice_get}
use Rattle.faults.specs.Answers.{first_that_applies}
use Rattle.faults.specs.Bytes.{Text}
use Rattle.ballots.specs.declared.message.Note.{Note}
use Rattle.package_record.specs.Content.{Content}
use Rattle.protocol.specs.State.{Value}
use Rattle.protocol.specs.declared.input.Input.TheVariants as inputs
use Rattle.node.specs.OnLog.{IsFull}
use Rattle.node.specs.State.{with_note}
use Rattle.node.specs.Step.{Asked, Comes, Does, IsAsked, Taken, Takes, after}
use Rattle.protocol.specs.Events.{Event, Claim, Built, Failed, Nudge, Ask, Deliver, Stop, StopIn, Restart, is_step, node_of}
use Rattle.protocol.specs.declared.event.Left.{Left}
use Rattle.protocol.specs.declared.event.Left.TheVariants as left
use Rattle.node.specs.declared.fault.NodeFault.{NodeFault}
use Rattle.node.specs.declared.fault.NodeFault.TheVariants as node_fault
use Rattle.stable_record.specs.declared.log_fault.LogFault.TheVariants.{Full}
use Rattle.world.specs.Lists.{IsListAfter}
use Rattle.world.specs.Sent.{with_sends}
use Rattle.world.specs.World.{World, WorldNode, down_node, node_at, restarted_node, up_node, with_node}
use Rattle.world.specs.declared.fault.WorldFault.{WorldFault}
use Rattle.world.specs.declared.fault.WorldFault.TheVariants as fault

-- ---- what it asks

-- The event asks this of its node. For a delivery, it is the bytes of the datagram that was sent.
abbrev pub Asks : World → Event → Asked → Type 0
Asks w (Claim n path host above) asked = asked ≡ Does (inputs.Claim path host above)
Asks w (Built n path packages) asked = asked ≡ Does (inputs.Built path packages)
Asks w (Failed n path) asked = asked ≡ Does (inputs.Failed path)
Asks w (Nudge n) asked = asked ≡ Does inputs.Nudge
Asks w (Ask n path) asked = asked ≡ Does (inputs.Ask path)
Asks w (Deliver d n) asked = (text : Text) × (slice_get w.sent d ≡ Some text) × (asked ≡ Comes text)
Asks w (Stop n) asked = ⊥
Asks w (StopIn e left) asked = Asks w e asked
Asks w (Restart n) asked = ⊥

-- `x` is the event's node, and it is up.
pub record IsUp (w : World) (e : Event) (x : WorldNode) : Type 0 where
  pub stands : slice_get w.nodes (node_of e) ≡ Some x
  pub up : x.up ≡ true

-- The event's node is up, and `t` is its step on what the event asks. A host number has at most 16
-- bits.
pub record Acts (w : World) (e : Event) (x : WorldNode) (t : Taken) : Type 0 where
  pub is_up : IsUp w e x
  pub asked : Asked
  pub asks : Asks w e asked
  pub can_be : IsAsked asked
  pub takes : Takes (node_at w (node_of e) x) asked (Ok t)

-- ---- what it leaves

-- the world after node k took this step; `list` is the agreed list after it
abbrev pub stepped : World → ℕ → WorldNode → Taken → List Content → World
stepped w k x t list = record (with_node w k (up_node (after (node_at w k x) t))) {
  sent = with_sends w.sent t.answer.sends;
  agreed = list;
}

-- A complete step: its note is appended to the log and its datagrams are sent. `list` says how the
-- agreed list grows, and `leaves` that the step determines everything else in the later world.
pub record Steps (w : World) (e : Event) (w' : World) : Type 0 where
  pub node : WorldNode
  pub taken : Taken
  pub acts : Acts w e node taken
  pub room : ¬ IsFull (node_at w (node_of e) node) taken.answer.note
  pub list : IsListAfter w (with_sends w.sent taken.answer.sends) w'.agreed
  pub leaves : w' ≡ stepped w (node_of e) node taken w'.agreed

-- the node after a stop inside a step with this note; the `Left` says how much of the note remains
abbrev pub left_node : Left → List (Note Value) → Option (Note Value) → WorldNode
left_node left.None notes noted = down_node notes []
left_node (left.Torn bytes) notes noted = down_node notes bytes
left_node left.Whole notes noted = down_node (with_note notes noted) []

-- A whole note can remain only if the log has room for it.
abbrev pub HasRoomFor : World → ℕ → WorldNode → Left → Option (Note Value) → Type 0
HasRoomFor w k x left.None noted = Prim.Unit {0}
HasRoomFor w k x (left.Torn bytes) noted = Prim.Unit {0}
HasRoomFor w k x left.Whole noted = ¬ IsFull (node_at w k x) noted

-- A stop inside a step: the node is down with the notes that remain, and nothing was sent.
pub record StopsIn (w : World) (e : Event) (l : Left) (w' : World) : Type 0 where
  pub node : WorldNode
  pub taken : Taken
  pub step : is_step e ≡ true
  pub acts : Acts w e node taken
  pub room : HasRoomFor w (node_of e) node l taken.answer.note
  pub leaves : w' ≡ with_node w (node_of e) (left_node l node.notes taken.answer.note)

-- A stop between two steps.
pub record Stops (w : World) (n : ℕ) (w' : World) : Type 0 where
  pub node : WorldNode
  pub is_up : IsUp w (Stop n) node
  pub leaves : w' ≡ with_node w n (down_node node.notes [])

-- A restart: the node has what its notes restore, no open claim and no pieces.
pub record Restarts (w : World) (n : ℕ) (w' : World) : Type 0 where
  pub node : WorldNode
  pub stands : slice_get w.nodes n ≡ Some node
  pub down : node.up ≡ false
  pub leaves : w' ≡ with_node w n (restarted_node node.notes)

-- The event can happen in world `w`, and it leaves world `w'`.
abbrev pub Happens : World → Event → World → Type 0
Happens w (Claim n path host above) w' = Steps w (Claim n path host above) w'
Happens w (Built n path packages) w' = Steps w (Built n path packages) w'
Happens w (Failed n path) w' = Steps w (Failed n path) w'
Happens w (Nudge n) w' = Steps w (Nudge n) w'
Happens w (Ask n path) w' = Steps w (Ask n path) w'
Happens w (Deliver d n) w' = Steps w (Deliver d n) w'
Happens w (Stop n) w' = Stops w n w'
Happens w (StopIn e l) w' = StopsIn w e l w'
Happens w (Restart n) w' = Restarts w n w'

-- The events, one after another, lead from the first world to the last.
abbrev pub Leads : World → List Event → World → Type 0
Leads w [] w' = w' ≡ w
Leads w (e ∷ es) w' = (v : World) × Happens w e v × Leads v es w'

-- ---- why it is refused

-- Whether there is a node and it is up.
abbrev pub up_of : Option WorldNode → Bool
up_of None = false
up_of (Some x) = x.up

-- Whether node k is up.
abbrev pub is_up : World → ℕ → Bool
is_up w k = up_of (slice_get w.nodes k)

-- Whether the event is a restart.
abbrev pub is_restart : Event → Bool
is_restart (Claim n path host above) = false
is_restart (Built n path packages) = false
is_restart (Failed n path) = false
is_restart (Nudge n) = false
is_restart (Ask n path) = false
is_restart (Deliver d n) = false
is_restart (Stop n) = false
is_restart (StopIn e l) = false
is_restart (Restart n) = true

-- Whether the event is a stop inside an event that isn't a step.
abbrev pub is_bad_stop : Event → Bool
is_bad_stop (Claim n path host above) = false
is_bad_stop (Built n path packages) = false
is_bad_stop (Failed n path) = false
is_bad_stop (Nudge n) = false
is_bad_stop (Ask n path) = false
is_bad_stop (Deliver d n) = false
is_bad_stop (Stop n) = false
is_bad_stop (StopIn e l) = not (is_step e)
is_bad_stop (Restart n) = false

-- Whether the event delivers a datagram that was not sent.
abbrev pub lacks_datagram : World → Event → Bool
lacks_datagram w (Claim n path host above) = false
lacks_datagram w (Built n path packages) = false
lacks_datagram w (Failed n path) = false
lacks_datagram w (Nudge n) = false
lacks_datagram w (Ask n path) = false
lacks_datagram w (Deliver d n) = nat_le (length w.sent) d
lacks_datagram w (Stop n) = false
lacks_datagram w (StopIn e l) = lacks_datagram w e
lacks_datagram w (Restart n) = false

-- the fault found before the node is asked: the first of these tests that applies
abbrev pub fault_before : World → Event → Option WorldFault
fault_before w e = first_that_applies (
    (is_bad_stop e, fault.BadTrace 0)
    ∷ (nat_le (length w.nodes) (node_of e), fault.NoSuchNode)
    ∷ (not (is_restart e) && not (is_up w (node_of e)), fault.NodeDown)
    ∷ (is_restart e && is_up w (node_of e), fault.NodeUp)
    ∷ (lacks_datagram w e, fault.NoSuchDatagram)
    ∷ [])

-- The node refuses what the event asks, with fault `f`.
pub record NodeRefuses (w : World) (e : Event) (f : NodeFault) : Type 0 where
  pub node : WorldNode
  pub is_up : IsUp w e node
  pub asked : Asked
  pub asks : Asks w e asked
  pub refuses : Takes (node_at w (node_of e) node) asked (Err f)

-- Whether the event leaves the whole note of its step in the log.
abbrev pub leaves_note : Event → Bool
leaves_note (Claim n path host above) = true
leaves_note (Built n path packages) = true
leaves_note (Failed n path) = true
leaves_note (Nudge n) = true
leaves_note (Ask n path) = true
leaves_note (Deliver d n) = true
leaves_note (Stop n) = false
leaves_note (StopIn e left.None) = false
leaves_note (StopIn e (left.Torn bytes)) = false
leaves_note (StopIn e left.Whole) = true
leaves_note (Restart n) = false

-- The node's log has no room for the note of the step.
pub record LogIsFull (w : World) (e : Event) : Type 0 where
  pub node : WorldNode
  pub taken : Taken
  pub acts : Acts w e node taken
  pub noted : leaves_note e ≡ true
  pub full : IsFull (node_at w (node_of e) node) taken.answer.note

-- The node refuses the event with this fault.
abbrev pub IsRefusedByNode : World → Event → WorldFault → Type 0
IsRefusedByNode w e f =
    ((r : NodeFault) × NodeRefuses w e r × (f ≡ fault.Node r))
    ⊎ (LogIsFull w e × (f ≡ fault.Node (node_fault.Log Full)))

-- The event is refused with this fault.
abbrev pub IsRefused : World → Event → WorldFault → Type 0
IsRefused w e f = (fault_before w e ≡ Some f) ⊎ ((fault_before w e ≡ None) × IsRefusedByNode w e f)
