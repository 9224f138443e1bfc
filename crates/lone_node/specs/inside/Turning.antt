-- The parts of a turn: what is chosen is prepared, and then taken.
use Rattle.std.specs.Prelude.{◌≡◌, ◌⊎◌, true, [], ◌∷◌, Option, None, Some, Result, Ok, Err}
use Rattle.ballots.specs.declared.message.Note.{Note}
use Rattle.turn_rules.specs.Choice.{Chosen}
use Rattle.turn_rules.specs.Pending.{Pending, kept_after}
use Rattle.turn_rules.specs.declared.fault.TurnFault.{TurnFault}
use Rattle.turn_rules.specs.declared.fault.TurnFault.TheVariants.{Memory, Node, Down, NotSent, NotFresh}
use Rattle.faults.specs.Bytes.{Text}
use Rattle.node.specs.Calls.{left_by}
use Rattle.node.specs.OnLog.{HasRoomForNote, IsFull, LacksRoom}
use Rattle.node.specs.Parcels.{datagrams_to}
use Rattle.node.specs.State.{LoggedNode}
use Rattle.node.specs.Step.{Asked, Comes, Taken, Takes, after}
use Rattle.node.specs.declared.fault.NodeFault.{NodeFault}
use Rattle.node.specs.declared.fault.NodeFault.TheVariants as fault
use Rattle.turn_rules.specs.Calls.{came_by}
use Rattle.turn_rules.specs.Offered.{WasOffered, parcels_from}
use Rattle.turn_rules.specs.CausedSteps.{IsCausedStep}
use Rattle.turn_rules.specs.declared.caused_step.CausedStep.{CausedStep}
use Rattle.datagram_ports.specs.Calls.{Received}
use Rattle.datagram_ports.specs.Kept.{Arrived, GoesOnBy}
use Rattle.datagram_ports.specs.declared.fault.PortFault.{PortFault}
use Rattle.lone_node.specs.Handed.{Handed}
use Rattle.protocol.specs.State.{Value}
use Rattle.stable_record.specs.declared.log_fault.LogFault.TheVariants as log
use Rattle.lone_node.specs.State.{SoloState, me_of}
use Rattle.lone_node.specs.Turn.{IsChosen, IsVouchedFor}
use Rattle.datagram_ports.specs.declared.port.Port.{Ghosts as Port}

-- the state with these parts
abbrev pub solo_of : {D P : Type 0} → LoggedNode D → Pending → P → SoloState D P
solo_of node pending port = record { node = node; pending = pending; port = port }

-- What was chosen for the node was prepared, or nothing was if nothing was chosen.
abbrev pub IsMade : {D : Type 0} → LoggedNode D → Chosen → Option CausedStep → Type 0
IsMade n None None = Prim.Unit {0}
IsMade n None (Some r) = ⊥
IsMade n (Some x) None = ⊥
IsMade n (Some x) (Some r) = (x.0 ≡ n.node.member.me) × IsCausedStep n x.1 r

-- A receive returned this.
pub record HasCome {P : Type 0} (port : Port P) (old new : P) (came : Arrived) : Type 0 where
  pub answer : Result Arrived PortFault
  pub gave : came_by answer ≡ came
  pub kept : GoesOnBy (came ∷ []) (port.given old) (port.given new)
  pub call : port.does old (Received answer) new
  pub vouched : IsVouchedFor port new came

-- The turn's choice was prepared. Nothing was offered yet, and the node is unchanged.
pub record HasChosen {D P : Type 0} (port : Port P) (old new : SoloState D P)
    (handed : Handed) (r : Option CausedStep) : Type 0 where
  pub chosen : Chosen
  pub is_chosen : IsChosen port old new handed [] chosen
  pub made : IsMade old.node chosen r
  pub same : new.node ≡ old.node

-- the node's refusal as that of a turn
abbrev pub told : NodeFault → TurnFault
told fault.Memory = Memory
told (fault.Refused r) = Node (fault.Refused r)
told (fault.Log f) = Node (fault.Log f)
told fault.Stopped = Node fault.Stopped
told (fault.Foreign f) = Node (fault.Foreign f)

-- The choice is that the node takes received bytes. Memory ran out, or the node refuses them, and
-- the node is left in the state after that refusal.
pub record IsNotTaken {D : Type 0} (old new : LoggedNode D) (chosen : Chosen) (f : TurnFault)
    : Type 0 where
  pub text : Text
  pub refusal : NodeFault
  pub comes : chosen ≡ Some (old.node.member.me, Comes text)
  pub tells : f ≡ told refusal
  pub cause : (refusal ≡ fault.Memory) ⊎ Takes old.node (Comes text) (Err refusal)
  pub leaves : new.node ≡ left_by old.node (Comes text) refusal

-- The prepared step was taken, and exactly its sends were offered.
pub record TookStep {D P : Type 0} (port : Port P) (old new : SoloState D P) (asked : Asked)
    : Type 0 where
  pub taken : Taken
  pub takes : Takes old.node.node asked (Ok taken)
  pub room : ¬ IsFull old.node.node taken.answer.note
  pub node : new.node.node ≡ after old.node.node taken
  pub pending : new.pending ≡ kept_after old.pending (me_of old) old.node.node.member asked
  pub offers : GoesOnBy (parcels_from (me_of old) (datagrams_to taken.answer.sends))
      (port.offered old.port) (port.offered new.port)
  pub calls : WasOffered port.does old.port
      (parcels_from (me_of old) (datagrams_to taken.answer.sends)) new.port

-- Why a prepared step with this note was not taken, and what state that leaves the node in.
abbrev pub IsTakingFault : {D : Type 0} → LoggedNode D → LoggedNode D → Option (Note Value)
    → TurnFault → Type 0
IsTakingFault old new noted Memory = new.node ≡ old.node
IsTakingFault old new noted (Node f) =
    (f ≡ fault.Log log.Full) × LacksRoom old.log noted × (new.node ≡ old.node)
IsTakingFault old new noted (Down k) =
    (k ≡ old.node.member.me) × HasRoomForNote old.log noted
    × (new.node ≡ record old.node { stopped = true })
IsTakingFault old new noted NotSent = ⊥
IsTakingFault old new noted NotFresh = ⊥
