-- A node's step: the step of its member on an input, or on a message that is complete.
use Rattle.std.specs.Option.{ForSome}
use Rattle.std.specs.Prelude.{◌≡◌, ℕ, List, [], Option, None, Some, Result, Ok, Err, if◌then◌else◌}
use Rattle.faults.specs.Bytes.{Text}
use Rattle.engine.specs.declared.Letter.{Letter}
use Rattle.ballots.specs.declared.message.Note.{Note}
use Rattle.protocol.specs.Answers.{Answer}
use Rattle.protocol.specs.Member.{IsInput}
use Rattle.protocol.specs.State.{State, Value}
use Rattle.protocol.specs.Step as members
use Rattle.protocol.specs.Step.{IsLetterOf, answer, unit_claimed}
use Rattle.protocol.specs.declared.refusal.Refusal.{Refusal}
use Rattle.protocol.specs.declared.input.Input.{Input}
use Rattle.protocol.specs.declared.sends.Send.{Send}
use Rattle.member.specs.Prepared.{MayBeTaken, Prepared, answer_by}
use Rattle.node.specs.Arrival.{Arrival, Strange, Waits, Whole, arrival_of}
use Rattle.node.specs.Kept.{with_piece, without}
use Rattle.node.specs.State.{IsNode, NodeState, restored_member, with_note}
use Rattle.node.specs.declared.fault.Foreign.TheVariants as foreign
use Rattle.node.specs.declared.fault.NodeFault.{NodeFault}
use Rattle.node.specs.declared.fault.NodeFault.TheVariants as fault
use Rattle.node.specs.declared.prepared_step.Change.{Change}
use Rattle.node.specs.declared.prepared_step.Change.TheVariants as change
use Rattle.wire.specs.Reading.{datagram_of}
use Rattle.wire.specs.declared.datagram.Piece.{Piece}

-- what a node is asked to do: handle an input of its own, or received bytes
pub data Asked : Type 0 where
  Does : Input → Asked
  Comes : Text → Asked

-- It can be asked for: the numbers of hosts have 16 bits.
abbrev pub IsAsked : Asked → Type 0
IsAsked (Does input) = IsInput input
IsAsked (Comes text) = Prim.Unit {0}

-- the result of a node's step: the member's answer, and the pieces that the node keeps
pub record Taken : Type 0 where
  pub answer : Answer
  pub pieces : List Piece

-- the answer that notes, sends and gives nothing, and keeps the open claim
abbrev pub nothing : State → Answer
nothing s = record { note = None; sends = []; job = None; claim = s.claim }

-- the step, given the member's answer to an input
abbrev pub taken : List Piece → Result Answer Refusal → Result Taken NodeFault
taken pieces (Ok a) = Ok (record { answer = a; pieces = pieces })
taken pieces (Err r) = Err (fault.Refused r)

-- the step, given the member's answer to a received message: a refusal makes the datagram foreign
abbrev pub heard : List Piece → Result Answer Refusal → Result Taken NodeFault
heard pieces (Ok a) = Ok (record { answer = a; pieces = pieces })
heard pieces (Err r) = Err (fault.Foreign (foreign.Message r))

-- the step on received bytes that mean this to the node
abbrev pub step_on : State → Arrival → Result Taken NodeFault
step_on s (Strange f pieces) = Err (fault.Foreign f)
step_on s (Waits pieces) = Ok (record { answer = nothing s; pieces = pieces })
step_on s (Whole m pieces) = heard pieces (members.heard s m)

-- the step of a node that is not stopped
abbrev pub running_step : State → List Piece → Letter → Asked → Result Taken NodeFault
running_step s pieces letter (Does input) = taken pieces (answer s letter input)
running_step s pieces letter (Comes text) = step_on s (arrival_of s pieces (datagram_of text))

-- The node's step, or why it takes none. The letter is that of the unit to be claimed, if the input
-- is a claim.
abbrev pub step : NodeState → Letter → Asked → Result Taken NodeFault
step n letter asked =
    if n.stopped then Err fault.Stopped else running_step n.member n.pieces letter asked

-- the unit that the node is asked to claim, if it is asked to and isn't stopped
abbrev pub unit_asked : NodeState → Asked → Option ℕ
unit_asked n (Does input) = if n.stopped then None else unit_claimed n.member input
unit_asked n (Comes text) = None

-- This is the node's step, or its refusal.
pub record Takes (n : NodeState) (asked : Asked) (right : Result Taken NodeFault) : Type 0 where
  pub letter : Letter
  pub shown : IsLetterOf n.member (unit_asked n asked) letter
  pub right_is : right ≡ step n letter asked

-- the pieces that are kept after received bytes are refused: those of a message that don't join to
-- a message are dropped
abbrev pub pieces_left : List Piece → Arrival → List Piece
pieces_left pieces (Strange f kept) = kept
pieces_left pieces (Waits kept) = pieces
pieces_left pieces (Whole m kept) = pieces

-- the pieces that are kept after the node refuses
abbrev pub pieces_after_refusal : NodeState → Asked → List Piece
pieces_after_refusal n (Does input) = n.pieces
pieces_after_refusal n (Comes text) =
    if n.stopped then n.pieces
    else pieces_left n.pieces (arrival_of n.member n.pieces (datagram_of text))

-- the node after a refusal
abbrev pub after_refusal : NodeState → Asked → NodeState
after_refusal n asked = record n { pieces = pieces_after_refusal n asked }

-- the node after its step: at most one note is added, and the facts follow from the notes; the open
-- claim and the pieces are those of the step
abbrev pub after : NodeState → Taken → NodeState
after n t =
    let notes = with_note n.notes t.answer.note in
    record {
      member = record (restored_member n.member notes) { claim = t.answer.claim };
      notes = notes;
      pieces = t.pieces;
      stopped = n.stopped;
    }

-- ---- a step that is ready

-- a ready step: what the member prepared, unless it was a piece whose message is still incomplete;
-- and the change of the pieces
pub record ReadyStep : Type 0 where
  pub step : Option Prepared
  pub change : Change

-- the pieces after the change
abbrev pub changed : Change → List Piece → List Piece
changed change.Stays pieces = pieces
changed (change.Keeps p) pieces = with_piece pieces p
changed (change.Drops h) pieces = without h pieces

-- what it notes
abbrev pub note_in : Option Prepared → Option (Note Value)
note_in None = None
note_in (Some p) = p.note

-- what it sends
abbrev pub sends_in : Option Prepared → List Send
sends_in None = []
sends_in (Some p) = p.sends

-- the member's answer by it
abbrev pub answer_then : State → Option Prepared → Answer
answer_then s None = nothing s
answer_then s (Some p) = answer_by s p

-- the result of the step when this node takes it
abbrev pub taken_by : NodeState → ReadyStep → Taken
taken_by n r =
    record { answer = answer_then n.member r.step; pieces = changed r.change n.pieces }

-- The step can be taken now: its member's part may be taken, and the result is again a valid node.
pub record IsReadyFor (n : NodeState) (r : ReadyStep) : Type 0 where
  pub asked : Asked
  pub takes : Takes n asked (Ok (taken_by n r))
  pub may : ForSome r.step (MayBeTaken n.member)
  pub leaves : IsNode (after n (taken_by n r))
