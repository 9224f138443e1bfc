-- What a turn receives of what was sent.
use Rattle.std.specs.Prelude.{◌≡◌, ◌++◌, ℕ, true, Contains, List, [], ◌∷◌, Option, Some, Result, IfOk, IsErrOf, map, slice_get}
use Rattle.turn_rules.specs.declared.fault.TurnFault.{TurnFault}
use Rattle.turn_rules.specs.declared.fault.TurnFault.TheVariants.{NotSent}
use Rattle.protocol.specs.Events.{Deliver, event_view}
use Rattle.protocol.specs.declared.event.Event as declared
use Rattle.faults.specs.Bytes.{Text, is_among}
use Rattle.node.specs.Parcels.{datagrams_to}
use Rattle.node.specs.Step.{Taken}
use Rattle.datagram_ports.specs.Kept.{Arrived}
use Rattle.protocol.specs.State.{State}
use Rattle.cluster_turns.specs.State.{ClusterState, IsWorldOf, here_of}
use Rattle.check_turns.specs.Going.{GoesOnWith}
use Rattle.world.specs.Happening.{Acts}
use Rattle.world.specs.World.{World, WorldNode}
use Rattle.datagram_ports.specs.declared.port.Port.{Ghosts as Port}

-- The port records what it returned, and returned exactly this in between.
pub record GaveJust {P : Type 0} (port : Port P) (old new : P) (came : Arrived) : Type 0 where
  pub before : List Arrived
  pub first : port.given old ≡ Some before
  pub last : port.given new ≡ Some (before ++ came ∷ [])

-- The turn does not refuse the text as not sent. If it is not refused, its event is the delivery of
-- the text to node k.
pub record HearsIt {D P : Type 0} (old : ClusterState D P) (k : ℕ) (text : Text)
    (answer : Result (Option declared.Event) TurnFault) : Type 0 where
  pub sent : ¬ (IsErrOf answer NotSent)
  pub event : IfOk answer (λ o. (e : declared.Event) × (o ≡ Some e) × (d : ℕ)
      × (slice_get old.sent d ≡ Some text) × (event_view e ≡ Deliver d k))

-- If the port returns one text, which was sent, for a node that is up, the turn receives it.
abbrev pub HearsWhatWasSent : {D P : Type 0} → Port P → ClusterState D P → ClusterState D P
    → Result (Option declared.Event) TurnFault → Type 0
HearsWhatWasSent port old new answer =
    (k : ℕ) (text : Text) (s : State) → GaveJust port old.port new.port (Some (k, text))
    → is_among old.sent text ≡ true → here_of old k ≡ Some s → HearsIt old k text answer

-- All that the event's step sends counts as sent afterwards.
abbrev pub SendsAreKnown : {D P : Type 0} → ClusterState D P → ClusterState D P → declared.Event
    → Type 0
SendsAreKnown old new e =
    (w : World) → IsWorldOf old w → (x : WorldNode) × (t : Taken) × Acts w (event_view e) x t
    × ((text : Text) → Contains (map (λ s. s.1) (datagrams_to t.answer.sends)) text
    → is_among new.sent text ≡ true)

-- After the first turn, with this event, the second one receives what was sent.
pub record HearsNext {D P : Type 0} (port : Port P) (old new : ClusterState D P)
    (first : declared.Event) (second : Result (Option declared.Event) TurnFault) : Type 0 where
  pub between : ClusterState D P
  pub goes_on : GoesOnWith old between (event_view first ∷ [])
  pub sends : SendsAreKnown old between first
  pub hears : HearsWhatWasSent port between new second
