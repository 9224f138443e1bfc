-- What a turn changes of a cluster, and how.
use Rattle.std.specs.Prelude.{◌≡◌, ◌++◌, ◌⊎◌, ℕ, false, true, List, [], ◌∷◌, Option, None, Some, Result, Ok, Err, map, slice_get, slice_set}
use Rattle.turn_rules.specs.Acts.{asked_by}
use Rattle.turn_rules.specs.Pending.{Pending, kept_after}
use Rattle.turn_rules.specs.declared.fault.TurnFault.{TurnFault}
use Rattle.turn_rules.specs.declared.fault.TurnFault.TheVariants as refused
use Rattle.cluster_turns.specs.Choosing.{HasChosen, IsChoosingFault, IsReadiedAt, told}
use Rattle.cluster_turns.specs.Events.{event_of}
use Rattle.cluster_turns.specs.declared.chosen.Chosen.{Chosen as PreparedStep}
use Rattle.protocol.specs.Events.{Event, StopIn, event_view}
use Rattle.protocol.specs.declared.event.Event as declared
use Rattle.protocol.specs.declared.event.Left.TheVariants as left
use Rattle.faults.specs.Bytes.{Text}
use Rattle.node.specs.OnLog.{HasRoomForNote, IsLogged, IsOnLog, LacksRoom, LeavesOneMoreAtMost}
use Rattle.node.specs.Parcels.{datagrams_to}
use Rattle.node.specs.State.{LoggedNode}
use Rattle.node.specs.Step.{IsAsked, ReadyStep, after, note_in, sends_in, taken_by}
use Rattle.node.specs.declared.fault.NodeFault.{NodeFault}
use Rattle.node.specs.declared.fault.NodeFault.TheVariants as fault
use Rattle.turn_rules.specs.Calls.{TurnCalls, calls_of, no_calls}
use Rattle.turn_rules.specs.Offered.{Answered, parcels_from, sends_of}
use Rattle.datagram_ports.specs.Calls.{WentThrough}
use Rattle.datagram_ports.specs.Kept.{Arrived, GoesOnBy}
use Rattle.datagram_ports.specs.declared.fault.PortFault.{PortFault}
use Rattle.protocol.specs.Given.{Given}
use Rattle.stable_record.specs.Faults.{HasRisen}
use Rattle.stable_record.specs.declared.log_fault.LogFault.TheVariants as log
use Rattle.cluster_turns.specs.State.{ClusterState}
use Rattle.world.specs.Sent.{with_sends}
use Rattle.stable_record.specs.declared.disk.Disk.{Ghosts as Disk}
use Rattle.datagram_ports.specs.declared.port.Port.{Ghosts as Port}
use Rattle.cluster_turns.specs.Calls.{calls_as_port}

-- what a turn changes of a cluster
pub record Turning (D P : Type 0) : Type 0 where
  pub nodes : List (LoggedNode D)
  pub sent : List Text
  pub events : List declared.Event
  pub pending : Pending
  pub port : P

-- a record of these parts
abbrev pub as_turning : {D P : Type 0} → List (LoggedNode D) → List Text → List declared.Event
    → Pending → P → Turning D P
as_turning nodes sent events pending port = record {
  nodes = nodes;
  sent = sent;
  events = events;
  pending = pending;
  port = port;
}

-- these parts of the cluster
abbrev pub turning_of : {D P : Type 0} → ClusterState D P → Turning D P
turning_of c = record {
  nodes = c.nodes;
  sent = c.sent;
  events = c.events;
  pending = c.pending;
  port = c.port;
}

-- ---- one node

-- The node took the prepared step. Its log had room for the note, which is on it; and at each
-- moment a crash left its notes, with this one or without it.
pub record HasTaken {D : Type 0} (disk : Disk D) (old new : LoggedNode D) (ready : ReadyStep)
    : Type 0 where
  pub state : new.node ≡ after old.node (taken_by old.node ready)
  pub room : ¬ LacksRoom old.log (note_in ready.step)
  pub kept : disk.is_kept new.log.disk → disk.is_kept old.log.disk
  pub on_log : disk.is_kept new.log.disk → IsOnLog disk.history old → IsOnLog disk.history new
  pub any_moment : disk.is_kept new.log.disk → IsOnLog disk.history old
      → LeavesOneMoreAtMost old.node (note_in ready.step) (disk.history old.log.disk)
      (disk.history new.log.disk)

-- The node is unchanged, and nothing was done to its disk.
pub record HasStayed {D : Type 0} (disk : Disk D) (old new : LoggedNode D) : Type 0 where
  pub state : new.node ≡ old.node
  pub kept : disk.is_kept new.log.disk → disk.is_kept old.log.disk
  pub on_log : disk.is_kept new.log.disk → IsOnLog disk.history old
      → IsOnLog disk.history new × (disk.history new.log.disk ≡ disk.history old.log.disk)

-- The device failed at the note of the step, for which the log had room. The node stopped, and a
-- crash leaves its notes, with this one or without it.
pub record HasFailed {D : Type 0} (disk : Disk D) (old new : LoggedNode D) (ready : ReadyStep)
    : Type 0 where
  pub state : new.node ≡ record old.node { stopped = true }
  pub room : HasRoomForNote old.log (note_in ready.step)
  pub risen : HasRisen (disk.failures_of old.log.disk) (disk.failures_of new.log.disk)
  pub any_moment : disk.is_kept new.log.disk → IsOnLog disk.history old
      → LeavesOneMoreAtMost old.node (note_in ready.step) (disk.history old.log.disk)
      (disk.history new.log.disk)
  pub kept : disk.is_kept new.log.disk → disk.is_kept old.log.disk

-- Why the node did not take the step, and what state that left.
abbrev pub HasNotTaken : {D : Type 0} → Disk D → LoggedNode D → LoggedNode D → ReadyStep → NodeFault
    → Type 0
HasNotTaken disk old new ready fault.Memory = HasStayed disk old new
HasNotTaken disk old new ready (fault.Refused r) = ⊥
HasNotTaken disk old new ready (fault.Log log.Full) =
    LacksRoom old.log (note_in ready.step) × HasStayed disk old new
HasNotTaken disk old new ready (fault.Log log.Device) = HasFailed disk old new ready
HasNotTaken disk old new ready (fault.Log log.Memory) = ⊥
HasNotTaken disk old new ready (fault.Log log.MustReopen) = ⊥
HasNotTaken disk old new ready (fault.Log log.NotALog) = ⊥
HasNotTaken disk old new ready (fault.Log log.OtherCluster) = ⊥
HasNotTaken disk old new ready fault.Stopped = ⊥
HasNotTaken disk old new ready (fault.Foreign f) = ⊥

-- The device failed. If the step has a note, the stop during it is one more event, and the turn
-- reports that the node is down.
abbrev pub KeepsStop : ℕ → Option declared.Event → List declared.Event → List declared.Event
    → TurnFault → Type 0
KeepsStop k None old new f = (f ≡ refused.Node (fault.Log log.Device)) × (new ≡ old)
KeepsStop k (Some stop) old new f = (f ≡ refused.Down k) × (new ≡ old ++ stop ∷ [])

-- How the turn reports why the step was not taken.
abbrev pub StopsAs : ℕ → Option declared.Event → List declared.Event → List declared.Event
    → NodeFault → TurnFault → Type 0
StopsAs k stop old new (fault.Log log.Device) f = KeepsStop k stop old new f
StopsAs k stop old new why f = (f ≡ told why) × (new ≡ old)

-- ---- all nodes

-- One node, which is up, is unchanged, over a disk that may have more room.
pub record OneStays {D : Type 0} (disk : Disk D) (old new : List (LoggedNode D)) : Type 0 where
  pub number : ℕ
  pub before : LoggedNode D
  pub stood : slice_get old number ≡ Some before
  pub up : before.node.stopped ≡ false
  pub after : LoggedNode D
  pub nodes : new ≡ slice_set old number after
  pub stays : HasStayed disk before after

-- All nodes are unchanged, except that one that is up may have more room on its disk.
abbrev pub AllStay : {D : Type 0} → Disk D → List (LoggedNode D) → List (LoggedNode D) → Type 0
AllStay disk old new = (new ≡ old) ⊎ OneStays disk old new

-- ---- the turn

-- The event is the prepared step of the node on what was chosen.
pub record IsDue {D : Type 0} (nodes : List (LoggedNode D)) (sent : List Text) (r : PreparedStep)
    (e : Event) : Type 0 where
  pub at : IsReadiedAt nodes r.node (asked_by r.readied.act) r.readied
  pub can : IsAsked (asked_by r.readied.act)
  pub logged : IsLogged at.node
  pub event : event_of sent (r.node, asked_by r.readied.act) ≡ Some e

-- The event was taken: the node took its step, the cluster was updated, and exactly what the step
-- sends was offered.
pub record TakesStep {D P : Type 0} (disk : Disk D) (port : Port P) (old new : Turning D P)
    (r : PreparedStep) (e : Event) : Type 0 where
  pub due : IsDue old.nodes old.sent r e
  pub after : LoggedNode D
  pub nodes : new.nodes ≡ slice_set old.nodes r.node after
  pub took : HasTaken disk due.at.node after r.readied.ready
  pub sent : new.sent ≡ with_sends old.sent (sends_in r.readied.ready.step)
  pub pending : new.pending
      ≡ kept_after old.pending r.node due.at.node.node.member (asked_by r.readied.act)
  pub events : map event_view new.events ≡ map event_view old.events ++ e ∷ []
  pub offers : GoesOnBy
      (parcels_from r.node (datagrams_to (sends_in r.readied.ready.step)))
      (port.offered old.port) (port.offered new.port)

-- Nothing changed, except for room on a disk, and nothing was offered.
pub record StandsStill {D P : Type 0} (disk : Disk D) (port : Port P) (old new : Turning D P)
    : Type 0 where
  pub nodes : AllStay disk old.nodes new.nodes
  pub sent : new.sent ≡ old.sent
  pub events : new.events ≡ old.events
  pub pending : new.pending ≡ old.pending
  pub offers : GoesOnBy [] (port.offered old.port) (port.offered new.port)

-- The node went down during the step of the event, and nothing else changed.
pub record GoesDown {D P : Type 0} (disk : Disk D) (port : Port P) (old new : Turning D P)
    (r : PreparedStep) (e : Event) : Type 0 where
  pub due : IsDue old.nodes old.sent r e
  pub after : LoggedNode D
  pub nodes : new.nodes ≡ slice_set old.nodes r.node after
  pub failed : HasFailed disk due.at.node after r.readied.ready
  pub sent : new.sent ≡ old.sent
  pub pending : new.pending ≡ old.pending
  pub events : map event_view new.events ≡ map event_view old.events ++ StopIn e left.None ∷ []
  pub offers : GoesOnBy [] (port.offered old.port) (port.offered new.port)

-- The event's node has no room for its note.
pub record HasNoRoom {D : Type 0} (nodes : List (LoggedNode D)) (sent : List Text)
    (r : PreparedStep) : Type 0 where
  pub event : Event
  pub due : IsDue nodes sent r event
  pub lacks : LacksRoom due.at.node.log (note_in r.readied.ready.step)

-- The result of what was chosen.
abbrev pub IsTakenAs : {D P : Type 0} → Disk D → Port P → Turning D P → Turning D P → PreparedStep
    → Result declared.Event TurnFault → Type 0
IsTakenAs disk port old new r (Ok e) = TakesStep disk port old new r (event_view e)
IsTakenAs disk port old new r (Err refused.Memory) = StandsStill disk port old new
IsTakenAs disk port old new r (Err (refused.Node f)) =
    (f ≡ fault.Log log.Full) × HasNoRoom old.nodes old.sent r × StandsStill disk port old new
IsTakenAs disk port old new r (Err (refused.Down k)) =
    (k ≡ r.node) × ((e : Event) × GoesDown disk port old new r e)
IsTakenAs disk port old new r (Err refused.NotSent) = ⊥
IsTakenAs disk port old new r (Err refused.NotFresh) = ⊥

-- This was prepared, as the turn's choice.
abbrev pub IsMadeReady : {D P : Type 0} → Port P → Turning D P → Turning D P → Given
    → Option PreparedStep → Type 0
IsMadeReady port old new builds r =
    HasChosen old.nodes old.sent old.pending builds (port.given old.port) (port.given new.port) r

-- Nothing was prepared, for this reason.
abbrev pub IsNotMadeReady : {D P : Type 0} → Port P → Turning D P → Turning D P → Given → TurnFault
    → Type 0
IsNotMadeReady port old new builds f =
    IsChoosingFault old.nodes old.sent old.pending builds (port.given old.port)
    (port.given new.port) f

-- What a turn is. Either nothing was prepared and nothing changed; or there was nothing to do; or
-- what was chosen was taken, or was not.
abbrev pub IsTurn : {D P : Type 0} → Disk D → Port P → Turning D P → Turning D P → Given
    → Result (Option declared.Event) TurnFault → Type 0
IsTurn disk port old new builds (Ok None) =
    IsMadeReady port old new builds None × StandsStill disk port old new
IsTurn disk port old new builds (Ok (Some e)) =
    (r : PreparedStep) × IsMadeReady port old new builds (Some r)
    × IsTakenAs disk port old new r (Ok e)
IsTurn disk port old new builds (Err f) =
    (IsNotMadeReady port old new builds f × StandsStill disk port old new)
    ⊎ ((r : PreparedStep) × IsMadeReady port old new builds (Some r)
    × IsTakenAs disk port old new r (Err f))

-- ---- by the port's calls

-- these parts, with the calls in place of the port
abbrev pub by_calls : {D P : Type 0} → Turning D P → TurnCalls → Turning D TurnCalls
by_calls t calls = record {
  nodes = t.nodes;
  sent = t.sent;
  events = t.events;
  pending = t.pending;
  port = calls;
}

-- The port answered these sends, and no other calls. Seen by them, whatever was received before,
-- this is the result of what was chosen.
pub record IsTakenByCalls {D P : Type 0} (disk : Disk D) (port : Port P) (old new : Turning D P)
    (r : PreparedStep) (result : Result declared.Event TurnFault) : Type 0 where
  pub offered : List Answered
  pub went : WentThrough port.does old.port (sends_of offered) new.port
  pub so : (received : List (Result Arrived PortFault))
      → IsTakenAs disk calls_as_port (by_calls old (record { received = received; offered = [] }))
      (by_calls new (record { received = received; offered = offered })) r result

-- The port answered these calls, and no others. Seen by them, it is the turn.
pub record IsTurnByCalls {D P : Type 0} (disk : Disk D) (port : Port P) (old new : Turning D P)
    (builds : Given) (result : Result (Option declared.Event) TurnFault) : Type 0 where
  pub calls : TurnCalls
  pub went : WentThrough port.does old.port (calls_of calls) new.port
  pub so : IsTurn disk calls_as_port (by_calls old no_calls) (by_calls new calls) builds result
