-- A turn of a cluster.
use Rattle.std.specs.Prelude.{◌≡◌, ◌++◌, ℕ, true, [], ◌∷◌, Option, None, Some, Result, Ok, Err, length, map, slice_get, slice_set}
use Rattle.turn_rules.specs.Choice.{Chosen}
use Rattle.turn_rules.specs.Pending.{kept_after}
use Rattle.turn_rules.specs.declared.fault.TurnFault.{TurnFault}
use Rattle.cluster_turns.specs.Choosing.{looked_for}
use Rattle.cluster_turns.specs.Choice.{IsChoiceWith, has_job}
use Rattle.cluster_turns.specs.Events.{event_of}
use Rattle.protocol.specs.Events.{Event, StopIn, event_view, node_of}
use Rattle.protocol.specs.declared.event.Event as declared
use Rattle.protocol.specs.declared.event.Left.{Left}
use Rattle.protocol.specs.declared.event.Left.TheVariants as left
use Rattle.node.specs.OnLog.{LeavesOneMoreAtMost}
use Rattle.node.specs.Parcels.{datagrams_to}
use Rattle.node.specs.State.{LoggedNode}
use Rattle.node.specs.Step.{Asked, Taken}
use Rattle.turn_rules.specs.Offered.{parcels_from}
use Rattle.datagram_ports.specs.Kept.{Arrived, GoesOnBy}
use Rattle.protocol.specs.Given.{Given}
use Rattle.protocol.specs.State.{State}
use Rattle.stable_record.specs.Faults.{HasRisen}
use Rattle.cluster_turns.specs.State.{ClusterState, IsWorldOf, here_of, taken}
use Rattle.world.specs.Happening.{Acts, Happens, StopsIn}
use Rattle.world.specs.World.{World, WorldNode}
use Rattle.stable_record.specs.declared.disk.Disk.{Ghosts as Disk}
use Rattle.datagram_ports.specs.declared.port.Port.{Ghosts as Port}

-- ---- the choice

-- It is the turn's choice with these builds, given what the port returned in the turn.
pub record IsChosen {D P : Type 0} (port : Port P) (old new : ClusterState D P) (builds : Given)
    (chosen : Chosen) : Type 0 where
  pub came : Arrived
  pub looked : GoesOnBy (looked_for (has_job (here_of old) (length old.weights) builds) came)
      (port.given old.port) (port.given new.port)
  pub choice : IsChoiceWith (here_of old) (length old.weights) old.pending builds came chosen

-- The event is the turn's choice with these builds.
pub record IsEventChosen {D P : Type 0} (port : Port P) (old new : ClusterState D P)
    (builds : Given) (e : Event) : Type 0 where
  pub chosen : ℕ × Asked
  pub is_chosen : IsChosen port old new builds (Some chosen)
  pub event : event_of old.sent chosen ≡ Some e

-- ---- what a turn changes

-- The event happened: it leads from each world that the cluster was to one that it is.
abbrev pub HasHappened : {D P : Type 0} → ClusterState D P → ClusterState D P → Event → Type 0
HasHappened old new e =
    (w : World) → IsWorldOf old w → (v : World) × Happens w e v × IsWorldOf new v

-- Exactly what the event's step sends was offered to the port, each once and in order, as far as
-- the port records it.
abbrev pub OffersItsSends : {D P : Type 0} → Port P → ClusterState D P → ClusterState D P → Event
    → Type 0
OffersItsSends port old new e =
    (w : World) (x : WorldNode) (t : Taken) → IsWorldOf old w → Acts w e x t
    → GoesOnBy (parcels_from (node_of e) (datagrams_to t.answer.sends)) (port.offered old.port)
    (port.offered new.port)

-- Nothing was offered to the port.
abbrev pub OffersNothing : {D P : Type 0} → Port P → ClusterState D P → ClusterState D P → Type 0
OffersNothing port old new = GoesOnBy [] (port.offered old.port) (port.offered new.port)

-- A turn offers what its event's step sends, or nothing if it has no event.
abbrev pub Offers : {D P : Type 0} → Port P → ClusterState D P → ClusterState D P
    → Result (Option declared.Event) TurnFault → Type 0
Offers port old new (Ok None) = OffersNothing port old new
Offers port old new (Ok (Some e)) = OffersItsSends port old new (event_view e)
Offers port old new (Err f) = OffersNothing port old new

-- The state between turns was updated for what the event's node did.
abbrev pub KeepsWith : {D P : Type 0} → ClusterState D P → ClusterState D P → Event → Type 0
KeepsWith old new e =
    (chosen : ℕ × Asked) (s : State) → event_of old.sent chosen ≡ Some e
    → here_of old chosen.0 ≡ Some s
    → new.pending ≡ kept_after old.pending chosen.0 s chosen.1

-- Everything but the port is unchanged. (Disks may have more room.)
pub record IsSame {D P : Type 0} (old new : ClusterState D P) : Type 0 where
  pub nodes : map (λ n. n.node) new.nodes ≡ map (λ n. n.node) old.nodes
  pub sent : new.sent ≡ old.sent
  pub events : new.events ≡ old.events
  pub pending : new.pending ≡ old.pending

-- Nothing was done to any disk that keeps to the disk model: no write or cut had an effect, and no
-- sync succeeded. It kept to the model before.
abbrev pub AreUntouched : {D P : Type 0} → Disk D → ClusterState D P → ClusterState D P → Type 0
AreUntouched {D} disk old new =
    (k : ℕ) (before after : LoggedNode D) → slice_get old.nodes k ≡ Some before
    → slice_get new.nodes k ≡ Some after → disk.is_kept after.log.disk
    → disk.is_kept before.log.disk × (disk.history after.log.disk ≡ disk.history before.log.disk)

-- Each disk that keeps to the disk model did so before.
abbrev pub WereKept : {D P : Type 0} → Disk D → ClusterState D P → ClusterState D P → Type 0
WereKept {D} disk old new =
    (k : ℕ) (before after : LoggedNode D) → slice_get old.nodes k ≡ Some before
    → slice_get new.nodes k ≡ Some after → disk.is_kept after.log.disk
    → disk.is_kept before.log.disk

-- All nodes but one are unchanged.
pub record OthersStay {D P : Type 0} (old new : ClusterState D P) (k : ℕ) : Type 0 where
  pub node : LoggedNode D
  pub nodes : new.nodes ≡ slice_set old.nodes k node

-- ---- a crash during a turn

-- A crash at any moment of the turn, or later, leaves the log of node k with its notes, with that
-- of the event's step or without it.
abbrev pub LeavesItsNotes : {D P : Type 0} → Disk D → ClusterState D P → ClusterState D P → Event
    → ℕ → Type 0
LeavesItsNotes {D} disk old new e k =
    (before after : LoggedNode D) (w : World) (x : WorldNode) (t : Taken)
    → slice_get old.nodes k ≡ Some before → slice_get new.nodes k ≡ Some after
    → disk.is_kept after.log.disk → IsWorldOf old w → Acts w e x t
    → LeavesOneMoreAtMost before.node t.answer.note (disk.history before.log.disk)
    (disk.history after.log.disk)

-- ---- a device that failed

-- Node k went down during the event's step. It notes nothing more; the other nodes and the sent
-- datagrams are unchanged. Whatever was left on its log, that is a stop during the step.
pub record WentDown {D P : Type 0} (old new : ClusterState D P) (e : Event) (k : ℕ) : Type 0 where
  pub of_node : node_of e ≡ k
  pub before : LoggedNode D
  pub stood : slice_get old.nodes k ≡ Some before
  pub after : LoggedNode D
  pub nodes : new.nodes ≡ slice_set old.nodes k after
  pub down : after.node ≡ record before.node { stopped = true }
  pub sent : new.sent ≡ old.sent
  pub pending : new.pending ≡ old.pending
  pub events : taken new ≡ taken old ++ StopIn e left.None ∷ []
  pub stopped : HasHappened old new (StopIn e left.None)
  pub any_case : (w : World) (l : Left) → IsWorldOf old w → (v : World) × StopsIn w e l v

-- The device of node k failed in the turn.
abbrev pub HasFailedAt : {D P : Type 0} → Disk D → ClusterState D P → ClusterState D P → ℕ → Type 0
HasFailedAt {D} disk old new k =
    (before after : LoggedNode D) → slice_get old.nodes k ≡ Some before
    → slice_get new.nodes k ≡ Some after
    → HasRisen (disk.failures_of before.log.disk) (disk.failures_of after.log.disk)
