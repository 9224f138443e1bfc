-- How contracts see a node: its member, the notes on its log, and the pieces that it keeps.
use Rattle.std.specs.Prelude.{◌≡◌, ◌++◌, ℕ, All, AllPairs, Bool, false, List, [], ◌∷◌, Option, None, Some}
use Rattle.ballots.specs.declared.message.Note.{Note}
use Rattle.protocol.specs.Member.{IsMember}
use Rattle.protocol.specs.Restoring.{AreOnUnits, restored}
use Rattle.protocol.specs.State.{State, Value, fresh}
use Rattle.node.specs.Arrival.{AreLetThrough}
use Rattle.node.specs.Ranges.{IsClaimOf}
use Rattle.stable_record.specs.declared.log.Log.{Log}
use Rattle.engine.specs.Division.{Division}
use Rattle.wire.specs.Joining.{is_numbered}
use Rattle.wire.specs.Messages.{IsNote}
use Rattle.wire.specs.Pieces.{IsPiece}
use Rattle.wire.specs.declared.datagram.Piece.{Piece}

-- a node
pub record NodeState : Type 0 where
  -- what it knows of each unit, and its open claim
  pub member : State
  -- the notes on its log, oldest first
  pub notes : List (Note Value)
  -- the pieces of incomplete messages, oldest first
  pub pieces : List Piece
  -- its device failed, and it has to be opened again
  pub stopped : Bool

-- a node, and its log
pub record LoggedNode (D : Type 0) : Type 0 where
  pub node : NodeState
  pub log : Log D

-- a member of the same tree, weights and number, with what the notes restore and no open claim
abbrev pub restored_member : State → List (Note Value) → State
restored_member s notes = restored (fresh s.division s.weights s.me) notes

-- What holds of each node. What it knows permanently is what its notes restore, and all that it
-- noted and keeps can be encoded.
pub record IsNode (n : NodeState) : Type 0 where
  pub member : IsMember n.member
  pub restored : n.member.facts ≡ (restored_member n.member n.notes).facts
  pub notes : All IsNote n.notes
  pub on_units : AreOnUnits n.member.division n.notes
  pub claim : IsClaimOf n.member n.member.claim
  pub pieces : All IsPiece n.pieces
  -- no piece is kept twice
  pub once : AllPairs (λ p q. is_numbered q.header q.number p ≡ false) n.pieces
  pub let_through : AreLetThrough n.member n.pieces

-- the node after opening: it has what the notes restore, no open claim, and no pieces
abbrev pub opened_node : Division → List ℕ → ℕ → List (Note Value) → NodeState
opened_node division weights me notes =
    record {
      member = restored (fresh division weights me) notes;
      notes = notes;
      pieces = [];
      stopped = false;
    }

-- the notes with this one added, if there is one
abbrev pub with_note : List (Note Value) → Option (Note Value) → List (Note Value)
with_note notes None = notes
with_note notes (Some n) = notes ++ n ∷ []
