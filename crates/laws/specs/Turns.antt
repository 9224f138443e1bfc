-- What a turn of crate `lone_node` does to its host.
use Rattle.std.specs.Prelude.{◌≡◌, ◌⊎◌, true, List, Err}
use Rattle.turn_rules.specs.declared.fault.TurnFault.{TurnFault}
use Rattle.turn_rules.specs.declared.fault.TurnFault.TheVariants.{Memory, Node, Down, NotSent, NotFresh}
use Rattle.faults.specs.Bytes.{Text}
use Rattle.laws.specs.Hosts.{IsOfATurn, TakesStep, WasOffered}
use Rattle.node.specs.Calls.{left_by}
use Rattle.node.specs.Parcels.{datagrams_to}
use Rattle.node.specs.Step.{Asked, Taken, Takes, after}
use Rattle.node.specs.declared.fault.NodeFault.{NodeFault}
use Rattle.turn_rules.specs.Offered.{parcels_from}
use Rattle.datagram_ports.specs.Kept.{GoesOnBy}
use Rattle.lone_node.specs.State.{SoloState, me_of}
use Rattle.datagram_ports.specs.declared.port.Port.{Ghosts as Port}

-- The turn took a step that the node may take if bytes it takes were offered before. The port was
-- offered just what the step sends, as far as it records this.
pub record IsStepTaken {D P : Type 0} (port : Port P) (old new : SoloState D P)
    (asked : Asked) : Type 0 where
  pub taken : Taken
  pub step : (before : List Text) → WasOffered before asked
      → TakesStep before old.node.node asked taken
  pub node : new.node.node ≡ after old.node.node taken
  pub offers : GoesOnBy (parcels_from (me_of old) (datagrams_to taken.answer.sends))
      (port.offered old.port) (port.offered new.port)

-- The node refused what the turn asked of it, and is left in the state after that refusal.
pub record IsRefusal {D P : Type 0} (old new : SoloState D P) (f : NodeFault) : Type 0 where
  pub asked : Asked
  pub asks : IsOfATurn asked
  pub refuses : Takes old.node.node asked (Err f)
  pub left : new.node.node ≡ left_by old.node.node asked f

-- The device failed during this step, and the node is down. The node may take the step if bytes it
-- takes were offered before.
pub record IsStepStopped {D P : Type 0} (old new : SoloState D P) : Type 0 where
  pub asked : Asked
  pub taken : Taken
  pub step : (before : List Text) → WasOffered before asked
      → TakesStep before old.node.node asked taken
  pub node : new.node.node ≡ record old.node.node { stopped = true }

-- What each refusal of a turn does to the node. `NotSent` and `NotFresh` don't occur.
abbrev pub IsRefusedTurn : {D P : Type 0} → SoloState D P → SoloState D P → TurnFault → Type 0
IsRefusedTurn old new Memory = new.node.node ≡ old.node.node
IsRefusedTurn old new (Node f) = (new.node.node ≡ old.node.node) ⊎ IsRefusal old new f
IsRefusedTurn old new (Down k) = IsStepStopped old new
IsRefusedTurn old new NotSent = ⊥
IsRefusedTurn old new NotFresh = ⊥
