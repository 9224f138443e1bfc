-- Two turns.
use Rattle.std.specs.Prelude.{◌≡◌, ◌++◌, List, Ok, IfOk, IfSome}
use Rattle.turn_rules.specs.Acts.{asked_by}
use Rattle.node.specs.Parcels.{datagrams_to}
use Rattle.node.specs.Step.{Asked, Taken, Takes, after}
use Rattle.turn_rules.specs.Offered.{parcels_from}
use Rattle.datagram_ports.specs.Kept.{GoesOnBy, Parcel}
use Rattle.lone_node.specs.State.{SoloState, me_of}
use Rattle.lone_node.specs.Turns.{Outcome}
use Rattle.datagram_ports.specs.declared.port.Port.{Ghosts as Port}

-- what the node's step sends
abbrev pub sent_by : {D P : Type 0} → SoloState D P → Taken → List Parcel
sent_by s t = parcels_from (me_of s) (datagrams_to t.answer.sends)

-- The node took a step on the first, and then, from the state after that, a step on the second.
-- Exactly what they send was offered, in that order.
pub record HasTakenTwo {D P : Type 0} (port : Port P) (old new : SoloState D P)
    (first second : Asked) : Type 0 where
  pub one : Taken
  pub other : Taken
  pub takes : Takes old.node.node first (Ok one)
  pub takes_then : Takes (after old.node.node one) second (Ok other)
  pub node : new.node.node ≡ after (after old.node.node one) other
  pub offers : GoesOnBy (sent_by old one ++ sent_by old other) (port.offered old.port)
      (port.offered new.port)

-- This is so if both turns return what the node did.
abbrev pub TookTwo : {D P : Type 0} → Port P → SoloState D P → SoloState D P
    → Outcome → Outcome → Type 0
TookTwo port old new first second =
    IfOk first (λ o. IfSome o (λ one. IfOk second (λ q. IfSome q
    (λ other. HasTakenTwo port old new (asked_by one) (asked_by other)))))
