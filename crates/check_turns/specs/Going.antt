-- How turns change a cluster.
use Rattle.std.specs.Prelude.{◌≡◌, ◌≤◌, ◌⊎◌, ◌++◌, ℕ, List, [], ◌∷◌, Option, None, Some, length}
use Rattle.turn_rules.specs.declared.fault.TurnFault.{TurnFault}
use Rattle.protocol.specs.Events.{Event, event_view}
use Rattle.protocol.specs.declared.event.Event as declared
use Rattle.datagram_ports.specs.Kept.{Arrived, GoesOnBy}
use Rattle.protocol.specs.Given.{Given}
use Rattle.cluster_turns.specs.Faults.{IsTurnFault}
use Rattle.cluster_turns.specs.State.{ClusterState, IsWorldOf, taken}
use Rattle.world.specs.Happening.{Leads}
use Rattle.world.specs.World.{World}
use Rattle.datagram_ports.specs.declared.port.Port.{Ghosts as Port}

-- the event that a turn returned, if it did
abbrev pub event_in : Option declared.Event → List Event
event_in None = []
event_in (Some e) = event_view e ∷ []

-- The events happened in order: they lead from each world that the cluster was to one that it is.
abbrev pub HaveHappened : {D P : Type 0} → ClusterState D P → ClusterState D P → List Event
    → Type 0
HaveHappened old new events =
    (w : World) → IsWorldOf old w → (v : World) × Leads w events v × IsWorldOf new v

-- Exactly these events were appended to the cluster's, and happened in order. The tree and the
-- weights are unchanged.
pub record GoesOnWith {D P : Type 0} (old new : ClusterState D P) (events : List Event) : Type 0
  where
    pub kept : taken new ≡ taken old ++ events
    pub happened : HaveHappened old new events
    pub division : new.division ≡ old.division
    pub weights : new.weights ≡ old.weights

-- Some events were appended.
abbrev pub GoesOn : {D P : Type 0} → ClusterState D P → ClusterState D P → Type 0
GoesOn old new = (events : List Event) × GoesOnWith old new events

-- The port was asked at most `count` times, as far as it records its receives.
abbrev pub WasAskedAtMost : {P : Type 0} → ℕ → Port P → P → P → Type 0
WasAskedAtMost count port old new =
    (came : List Arrived) × (length came ≤ count) × GoesOnBy came (port.given old) (port.given new)

-- The first of two turns is refused; or it took its course, and the second is refused.
abbrev pub IsRefusedInTwo : {D P : Type 0} → Port P → ClusterState D P → ClusterState D P → Given
    → Given → TurnFault → Type 0
IsRefusedInTwo {D} {P} port old new first second f =
    IsTurnFault port old new first f
    ⊎ ((between : ClusterState D P) × (answer : Option declared.Event)
    × GoesOnWith old between (event_in answer) × IsTurnFault port between new second f)
