-- A port in memory that is passed from one node to another.
use Rattle.std.specs.Prelude.{◌≡◌, ◌++◌, Bool, false, List, Option, None, Some, Result, Ok, Err, IfOk, IfSome, map}
use Rattle.turn_rules.specs.Acts.{asked_by}
use Rattle.turn_rules.specs.Pending.{nothing_kept}
use Rattle.turn_rules.specs.declared.fault.TurnFault.{TurnFault}
use Rattle.turn_rules.specs.declared.fault.TurnFault.TheVariants.{Memory, Node, Down, NotSent, NotFresh}
use Rattle.faults.specs.Bytes.{Text}
use Rattle.node.specs.Calls.{HasTried}
use Rattle.node.specs.State.{LoggedNode}
use Rattle.node.specs.Step.{Comes, Taken, Takes}
use Rattle.turn_rules.specs.Offered.{Answered, sends_of}
use Rattle.datagram_ports.specs.Calls.{Call}
use Rattle.datagram_ports.specs.InMemory.{IsLeftWaiting, MemPortState, first_of}
use Rattle.datagram_ports.specs.Kept.{Arrived}
use Rattle.datagram_ports.specs.declared.fault.PortFault.{PortFault}
use Rattle.lone_node.specs.Faults.{IsRefusedBy}
use Rattle.lone_node.specs.State.{SoloState, me_of}
use Rattle.lone_node.specs.Turn.{received_by}
use Rattle.lone_node.specs.Turns.{Outcome}
use Rattle.check_turns.specs.Two.{sent_by}

-- The turn with this answer was about exactly these bytes: the node took its step on them, refused
-- them, or went down during that step, or memory ran out.
abbrev pub IsAbout : {D : Type 0} → LoggedNode D → LoggedNode D → Text → Outcome → Type 0
IsAbout old new text (Ok None) = ⊥
IsAbout old new text (Ok (Some act)) = asked_by act ≡ Comes text
IsAbout old new text (Err Memory) = new.node ≡ old.node
IsAbout old new text (Err (Node f)) = IsRefusedBy old new (Comes text) f
IsAbout old new text (Err (Down k)) = HasTried old (Comes text)
IsAbout old new text (Err NotSent) = ⊥
IsAbout old new text (Err NotFresh) = ⊥

-- The queue after the step: what was queued before, or all but the first of that, followed by what
-- the port took of exactly the step's sends, in order.
pub record PutsBehind {D : Type 0} (old new : SoloState D MemPortState) (step : Taken) : Type 0
  where
    pub looked : Bool
    pub came : Result Arrived PortFault
    pub answers : List Answered
    pub sends : map (λ a. a.0) answers ≡ sent_by old step
    pub left : IsLeftWaiting old.port new.port (received_by looked came ++ sends_of answers)

-- This is the queue after the step that the turn took, if it took one.
abbrev pub PutsItsSends : {D : Type 0} → SoloState D MemPortState → SoloState D MemPortState
    → Outcome → Type 0
PutsItsSends old new answer =
    IfOk answer (λ o. IfSome o (λ act. (step : Taken)
    × Takes old.node.node (asked_by act) (Ok step) × PutsBehind old new step))

-- The turn is about the first datagram in the queue, if that is for the node, unless receives are
-- set to fail.
abbrev pub HearsTheFirst : {D : Type 0} → SoloState D MemPortState → SoloState D MemPortState
    → Outcome → Type 0
HearsTheFirst old new answer =
    (text : Text) → first_of old.port.waiting ≡ Some (me_of old, text)
    → old.port.orders.is_deaf ≡ false → IsAbout old.node new.node text answer

-- One node took a turn, and then the other took a turn over the port as the first left it. What the
-- first one's step sent is queued, and the second node receives the first datagram in the queue, if
-- that is for it.
pub record HandsOn {D E : Type 0} (first : SoloState D MemPortState) (second : LoggedNode E)
    (one other : Outcome) : Type 0 where
  pub between : SoloState D MemPortState
  pub sends : PutsItsSends first between one
  pub after : SoloState E MemPortState
  pub hears : HearsTheFirst
      (record { node = second; pending = nothing_kept; port = between.port }) after other
