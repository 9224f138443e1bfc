-- What a node's step refuses, notes and sends, and the effect of a refusal.
use Rattle.std.proofs.Common.{◌≡◌, false, List, Option, None, Some, Result, Ok, Err, refl, sym, subst}
use Rattle.node.specs.Prepared.{Prepared}
use Rattle.node.specs.Arrival.{Arrival, Strange, Waits, Whole, arrival_of}
use Rattle.node.specs.Calls.{left_by}
use Rattle.node.specs.State.{NodeState}
use Rattle.node.specs.Step.{Asked, Comes, Does, Taken, Takes, answer_then, heard, note_in, sends_in, step, step_on, taken}
use Rattle.node.specs.declared.fault.NodeFault.{NodeFault}
use Rattle.node.specs.declared.fault.NodeFault.TheVariants as fault
use Rattle.engine.specs.declared.Letter.{Letter}
use Rattle.protocol.specs.Answers.{Answer}
use Rattle.protocol.specs.State.{State}
use Rattle.protocol.specs.Step as members
use Rattle.protocol.specs.declared.refusal.Refusal.{Refusal}
use Rattle.stable_record.specs.declared.log_fault.LogFault.TheVariants as log
use Rattle.wire.specs.Reading.{datagram_of}
use Rattle.wire.specs.declared.datagram.Piece.{Piece}

-- ---- what a step refuses

-- A step never runs out of memory, and never asks the log.
abbrev pub IsByStep : Result Taken NodeFault → Type 0
IsByStep (Ok t) = Prim.Unit {0}
IsByStep (Err fault.Memory) = ⊥
IsByStep (Err (fault.Refused r)) = Prim.Unit {0}
IsByStep (Err (fault.Log f)) = ⊥
IsByStep (Err fault.Stopped) = Prim.Unit {0}
IsByStep (Err (fault.Foreign f)) = Prim.Unit {0}

taken_by_step : (pieces : List Piece) (r : Result Answer Refusal) → IsByStep (taken pieces r)
taken_by_step pieces (Ok a) = tt
taken_by_step pieces (Err r) = tt

heard_by_step : (pieces : List Piece) (r : Result Answer Refusal) → IsByStep (heard pieces r)
heard_by_step pieces (Ok a) = tt
heard_by_step pieces (Err r) = tt

arrived_by_step : (s : State) (a : Arrival) → IsByStep (step_on s a)
arrived_by_step s (Strange f pieces) = tt
arrived_by_step s (Waits pieces) = tt
arrived_by_step s (Whole m pieces) = heard_by_step pieces (members.heard s m)

stepped : (n : NodeState) (letter : Letter) (asked : Asked) → n.stopped ≡ false
    → IsByStep (step n letter asked)
stepped n letter (Does input) runs = rw runs
    (taken_by_step n.pieces (members.answer n.member letter input))
stepped n letter (Comes text) runs = rw runs
    (arrived_by_step n.member (arrival_of n.member n.pieces (datagram_of text)))

-- This holds for everything that a running node refuses.
pub by_step : (n : NodeState) (asked : Asked) (f : NodeFault) → n.stopped ≡ false
    → Takes n asked (Err f) → IsByStep (Err f)
by_step n asked f runs takes =
    subst IsByStep (sym takes.right_is) (stepped n takes.letter asked runs)

-- ---- the effect of a refusal

-- a refusal leaves the member unchanged
pub member_left : (n : NodeState) (asked : Asked) (f : NodeFault)
    → (left_by n asked f).member ≡ n.member
member_left n asked fault.Memory = refl
member_left n asked (fault.Refused r) = refl
member_left n asked (fault.Log log.Device) = refl
member_left n asked (fault.Log log.Full) = refl
member_left n asked (fault.Log log.Memory) = refl
member_left n asked (fault.Log log.MustReopen) = refl
member_left n asked (fault.Log log.NotALog) = refl
member_left n asked (fault.Log log.OtherCluster) = refl
member_left n asked fault.Stopped = refl
member_left n asked (fault.Foreign f) = refl

-- a refusal leaves the notes unchanged
pub notes_left : (n : NodeState) (asked : Asked) (f : NodeFault)
    → (left_by n asked f).notes ≡ n.notes
notes_left n asked fault.Memory = refl
notes_left n asked (fault.Refused r) = refl
notes_left n asked (fault.Log log.Device) = refl
notes_left n asked (fault.Log log.Full) = refl
notes_left n asked (fault.Log log.Memory) = refl
notes_left n asked (fault.Log log.MustReopen) = refl
notes_left n asked (fault.Log log.NotALog) = refl
notes_left n asked (fault.Log log.OtherCluster) = refl
notes_left n asked fault.Stopped = refl
notes_left n asked (fault.Foreign f) = refl

-- ---- what is noted and sent

pub note_answered : (s : State) (p : Option Prepared) → (answer_then s p).note ≡ note_in p
note_answered s None = refl
note_answered s (Some p) = refl

pub sends_answered : (s : State) (p : Option Prepared) → (answer_then s p).sends ≡ sends_in p
sends_answered s None = refl
sends_answered s (Some p) = refl
