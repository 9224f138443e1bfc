-- Consequences of several calls of a node in succession.
use Rattle.std.specs.Prelude.{◌≡◌, ◌⊎◌, ◌++◌, ℕ, false, List, [], None, Option, Some, Ok, slice_get}
use Rattle.faults.specs.Bytes.{Text}
use Rattle.listing.specs.Tree.{Tree}
use Rattle.package_record.specs.Build.{build_text}
use Rattle.ballots.specs.declared.message.Message.{Message}
use Rattle.protocol.specs.State.{State, Value}
use Rattle.protocol.specs.Step as members
use Rattle.node.specs.Calls.{HasHandled, HasTaken}
use Rattle.node.specs.Kept.{has_number, with_piece, without}
use Rattle.node.specs.OnLog.{identity_of, texts_of}
use Rattle.node.specs.Parcels.{datagrams_to}
use Rattle.node.specs.State.{LoggedNode, NodeState, restored_member, with_note}
use Rattle.node.specs.Step.{Asked, Comes, Taken, Takes, after, after_refusal, heard}
use Rattle.node.specs.declared.prepared_step.Effects.{Effects}
use Rattle.stable_record.specs.Crash.{AllAlong, Leaves}
use Rattle.stable_record.specs.History.{History}
use Rattle.stable_record.specs.Log.{HasNotes}
use Rattle.wire.specs.Joining.{AreAllThere}
use Rattle.wire.specs.Messages.{IsMessage}
use Rattle.wire.specs.Pieces.{carried_in, header_with}
use Rattle.wire.specs.declared.datagram.Carrier.{Carrier}
use Rattle.wire.specs.declared.datagram.Header.{Header}
use Rattle.wire.specs.declared.datagram.Piece.{Piece}

-- The node took one step, and then the other.
pub record HasHandledBoth (old new : NodeState) (first second : Asked) (outs : Effects × Effects) :
    Type 0 where
  pub between : NodeState
  pub one : HasHandled old between first outs.0
  pub other : HasHandled between new second outs.1

-- The node took the second step, from its first state or from that after it refused the first step.
pub record HasHandledLater (old new : NodeState) (first second : Asked) (out : Effects) :
    Type 0 where
  pub left : NodeState
  pub refused : (left ≡ old) ⊎ (left ≡ after_refusal old first)
  pub handled : HasHandled left new second out

-- The file has the node's notes, and perhaps more after them.
pub record HasThese (n : NodeState) (file : Text) : Type 0 where
  pub more : List Text
  pub notes : HasNotes (identity_of n.member) (texts_of n.notes ++ more) file

-- At each moment from the old history to the new one a crash leaves the node's notes, and perhaps
-- more.
abbrev pub LosesNoNote : NodeState → History → History → Type 0
LosesNoNote n = AllAlong (HasThese n)

-- Each crash leaves exactly the node's notes.
abbrev pub EachCrashLeavesItsNotes : {D : Type 0} → (D → History) → LoggedNode D → Type 0
EachCrashLeavesItsNotes history n =
    Leaves (HasNotes (identity_of n.node.member) (texts_of n.node.notes)) (history n.log.disk)

-- The receiver handled this datagram, if there is one.
abbrev pub IsReceived : Option (ℕ × Text) → NodeState → NodeState → Option Effects → Type 0
IsReceived None old new given = (given ≡ None) × (new ≡ old)
IsReceived (Some sent) old new None = ⊥
IsReceived (Some sent) old new (Some out) = HasHandled old new (Comes sent.1) out

-- The sender took its step, and the receiver handled its first datagram.
pub record IsPassedOn (sender sender_then receiver receiver_then : NodeState) (asked : Asked)
    (given : Option Effects) : Type 0 where
  pub step : Taken
  pub takes : Takes sender asked (Ok step)
  pub state : sender_then ≡ after sender step
  pub received : IsReceived (slice_get (datagrams_to step.answer.sends) 0) receiver receiver_then
      given

-- It is this member, among members of these weights, over the tree.
pub record IsOf (tree : Tree) (weights : List ℕ) (me : ℕ) (s : State) : Type 0 where
  pub over : s.division.tree ≡ tree
  pub weigh : s.weights ≡ weights
  pub own : s.me ≡ me

-- the node with what its notes restore, and neither claim nor pieces
abbrev pub reopened : NodeState → NodeState
reopened n = record {
  member = restored_member n.member n.notes;
  notes = n.notes;
  pieces = [];
  stopped = false;
}

-- The log has the previous notes, either with or without that of the step.
abbrev pub HasNotesBeforeOrAfter : NodeState → Asked → NodeState → Type 0
HasNotesBeforeOrAfter old asked new =
    (texts_of new.notes ≡ texts_of old.notes)
    ⊎ ((t : Taken) × Takes old asked (Ok t)
    × (texts_of new.notes ≡ texts_of (with_note old.notes t.answer.note)))

-- the node is the one that its notes after the step restore
abbrev pub IsAsAfter : NodeState → Asked → NodeState → Type 0
IsAsAfter old asked new = (t : Taken) × Takes old asked (Ok t) × (new ≡ reopened (after old t))

-- The node took its member's step on the message.
pub record TookMessage (old new : NodeState) (m : Message Value) (out : Effects) : Type 0 where
  pub step : Taken
  pub is : heard old.pieces (members.heard old.member m) ≡ Ok step
  pub taken : HasTaken old new step out

-- The piece is the last missing one: its number is not among the kept pieces of the message, and
-- with it all pieces of the text are there.
pub record IsLastPiece (kept : List Piece) (p : Piece) (h : Header) (text : Text) : Type 0 where
  pub of_header : p.header ≡ h
  pub missing : has_number h kept p.number ≡ false
  pub all_there : AreAllThere h text (with_piece kept p)

-- The node took its member's step on the message, and keeps no piece of it.
pub record TookJoined (old new : NodeState) (h : Header) (m : Message Value) (out : Effects) :
    Type 0 where
  pub step : Taken
  pub is : heard (without h old.pieces) (members.heard old.member m) ≡ Ok step
  pub taken : HasTaken old new step out

-- If the piece was the last missing one of a message, the node took its member's step on that
-- message.
abbrev pub TookWithLast : NodeState → NodeState → Piece → Effects → Type 0
TookWithLast old new p out =
    (m : Message Value) (carrier : Carrier) (build : Value) → IsMessage m
    → carried_in m.body ≡ Some (carrier, build)
    → IsLastPiece old.pieces p (header_with m carrier build) (build_text build)
    → TookJoined old new (header_with m carrier build) m out
