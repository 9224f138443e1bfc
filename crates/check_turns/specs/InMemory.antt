-- Turns of a cluster over a port in memory.
use Rattle.std.specs.Prelude.{◌≡◌, ◌++◌, ℕ, Bool, true, false, All, List, [], ◌∷◌, Option, None, Some, Result, Ok, Err, IfNone, IfOk, IfSome, OnErr, drop, flat_map, length, map}
use Rattle.cluster_turns.specs.Choice.{has_job}
use Rattle.turn_rules.specs.declared.fault.TurnFault.{TurnFault}
use Rattle.protocol.specs.Events.{event_view, node_of}
use Rattle.protocol.specs.declared.event.Event as declared
use Rattle.faults.specs.Bytes.{Text, is_among}
use Rattle.node.specs.Parcels.{datagrams_to}
use Rattle.node.specs.Step.{Taken}
use Rattle.turn_rules.specs.Offered.{Answered, parcels_from}
use Rattle.datagram_ports.specs.InMemory.{MemPortState, first_of, is_one, lost_by, put_by}
use Rattle.protocol.specs.Given.{Given}
use Rattle.protocol.specs.State.{State}
use Rattle.cluster_turns.specs.State.{ClusterState, IsWorldOf, here_of}
use Rattle.check_turns.specs.Going.{GoesOnWith}
use Rattle.check_turns.specs.Heard.{HearsIt}
use Rattle.world.specs.Happening.{Acts}
use Rattle.world.specs.World.{World, WorldNode}

-- what a send with this answer appended to the queue
abbrev pub put_on : Bool → Answered → List (ℕ × Text)
put_on is_twice (parcel, Ok u) = put_by is_twice parcel.to parcel.text
put_on is_twice (parcel, Err f) = []

-- what all of these sends appended
abbrev pub put_by_all : Bool → List Answered → List (ℕ × Text)
put_by_all is_twice offered = flat_map (put_on is_twice) offered

-- what is left of the queue: all if a job waits for its answer or receives are set to fail, and
-- otherwise all but the first
abbrev pub left_by : Bool → Bool → List (ℕ × Text) → List (ℕ × Text)
left_by true is_deaf waiting = waiting
left_by false true waiting = waiting
left_by false false waiting = drop 1 waiting

-- Whether a job waits for its answer.
abbrev pub waits_for_answer : {D P : Type 0} → ClusterState D P → Given → Bool
waits_for_answer c builds = has_job (here_of c) (length c.weights) builds

-- Exactly what the event's step sends was offered, in order.
abbrev pub AreItsSends : {D P : Type 0} → ClusterState D P → declared.Event → List Answered → Type 0
AreItsSends old e offered =
    (w : World) (x : WorldNode) (t : Taken) → IsWorldOf old w → Acts w (event_view e) x t
    → map (λ a. a.0) offered ≡ parcels_from (node_of (event_view e)) (datagrams_to t.answer.sends)

-- A send failed if sends to the member are set to fail. Otherwise it was taken, or memory for it
-- ran out.
abbrev pub IsAnswered : Option ℕ → Answered → Type 0
IsAnswered lost_to (parcel, Ok u) = is_one lost_to parcel.to ≡ false
IsAnswered lost_to (parcel, Err f) = f ≡ lost_by (is_one lost_to parcel.to)

-- The turn receives the first datagram in the queue, if that was sent and is for a node that is up.
-- The exceptions are that a job waits for its answer, or receives are set to fail.
abbrev pub HearsFirst : {D : Type 0} → ClusterState D MemPortState → Given
    → Result (Option declared.Event) TurnFault → Type 0
HearsFirst old builds answer =
    (k : ℕ) (text : Text) (s : State) → first_of old.port.waiting ≡ Some (k, text)
    → old.port.orders.is_deaf ≡ false → waits_for_answer old builds ≡ false
    → is_among old.sent text ≡ true → here_of old k ≡ Some s → HearsIt old k text answer

-- A turn with its sends and their answers. Afterwards the queue is what was left of it, followed by
-- what the sends appended.
pub record TurnsInMemory {D : Type 0} (old new : ClusterState D MemPortState) (builds : Given)
    (answer : Result (Option declared.Event) TurnFault) : Type 0 where
  pub offered : List Answered
  pub sends : IfOk answer (λ o. IfSome o (λ e. AreItsSends old e offered))
  pub none : IfOk answer (λ o. IfNone o (offered ≡ []))
  pub none_refused : OnErr answer (offered ≡ [])
  pub answered : All (IsAnswered old.port.orders.lost_to) offered
  pub orders : new.port.orders ≡ old.port.orders
  pub waiting : new.port.waiting
      ≡ left_by (waits_for_answer old builds) old.port.orders.is_deaf old.port.waiting
      ++ put_by_all old.port.orders.is_twice offered
  pub hears : HearsFirst old builds answer

-- Of these sends the port took this datagram first, and receives are not set to fail.
abbrev pub TookFirst : MemPortState → List Answered → ℕ → Text → Type 0
TookFirst port offered k text =
    (first_of (put_by_all port.orders.is_twice offered) ≡ Some (k, text))
    × (port.orders.is_deaf ≡ false)

-- If the queue was empty before, the second turn receives the first datagram that the port took of
-- what the first turn's step sent. It is queued again if each datagram is received twice.
pub record HearsOffered {D : Type 0} (old new : ClusterState D MemPortState) (second : Given)
    (first : declared.Event) (answer : Result (Option declared.Event) TurnFault) : Type 0 where
  pub between : ClusterState D MemPortState
  pub goes_on : GoesOnWith old between (event_view first ∷ [])
  pub offered : List Answered
  pub sends : AreItsSends old first offered
  pub answered : All (IsAnswered old.port.orders.lost_to) offered
  pub hears : (k : ℕ) (text : Text) (s : State) → TookFirst old.port offered k text
      → waits_for_answer between second ≡ false → here_of between k ≡ Some s
      → HearsIt between k text answer
  pub again : (k : ℕ) (text : Text) → TookFirst old.port offered k text
      → old.port.orders.is_twice ≡ true → waits_for_answer between second ≡ false
      → first_of new.port.waiting ≡ Some (k, text)
