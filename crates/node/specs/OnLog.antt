-- A node's notes on its log.
use Rattle.std.specs.Prelude.{◌≡◌, ◌+◌, ◌<◌, ℕ, List, length, map, Option, None, Some}
use Rattle.faults.specs.Bytes.{Text}
use Rattle.ballots.specs.declared.message.Note.{Note}
use Rattle.engine.specs.Tree.{Tree}
use Rattle.protocol.specs.State.{State, Value}
use Rattle.protocol.specs.Answers.{tree_digest}
use Rattle.node.specs.State.{IsNode, LoggedNode, NodeState}
use Rattle.stable_record.specs.Crash.{AllAlong}
use Rattle.stable_record.specs.History.{History}
use Rattle.stable_record.specs.Log.{HasBeforeOrAfter, gate_place, most_bytes}
use Rattle.stable_record.specs.OpenLog.{Holds, WouldPassLimit}
use Rattle.stable_record.specs.declared.identity.Identity.{Identity}
use Rattle.stable_record.specs.declared.log.Log.{Log}
use Rattle.wire.specs.Spelling.{note_text}

-- the owner of a log: this member, among members of these weights, over the tree
abbrev pub identity : Tree → List ℕ → ℕ → Identity
identity tree weights me =
    record { tree = tree_digest tree; weights = record { items = weights }; me = me }

-- the identity of this member's log
abbrev pub identity_of : State → Identity
identity_of s = identity s.division.tree s.weights s.me

-- the texts of the notes, as they are on the log
abbrev pub texts_of : List (Note Value) → List Text
texts_of notes = map note_text notes

-- A node over its log: both are stopped or neither is, the log is the node's, and it ends after the
-- node's notes.
pub record IsLogged {D : Type 0} (n : LoggedNode D) : Type 0 where
  pub node : IsNode n.node
  pub together : n.log.stopped ≡ n.node.stopped
  pub owner : n.log.identity ≡ identity_of n.node.member
  pub end : n.log.end ≡ gate_place (identity_of n.node.member) (texts_of n.node.notes)

-- The log is the node's, has the node's notes, and can be appended to.
pub record IsOnLog {D : Type 0} (history : D → History) (n : LoggedNode D) : Type 0 where
  pub owner : n.log.identity ≡ identity_of n.node.member
  pub holds : Holds history n.log (texts_of n.node.notes)

-- At each moment from the old history to the new one a crash leaves the node's notes, either with
-- or without this one. Without a note the disk isn't called.
abbrev pub LeavesOneMoreAtMost : NodeState → Option (Note Value) → History → History → Type 0
LeavesOneMoreAtMost n None old new = new ≡ old
LeavesOneMoreAtMost n (Some note) old new =
    AllAlong (HasBeforeOrAfter (identity_of n.member) (texts_of n.notes) (note_text note)) old new

-- With this note the file would exceed its maximum length.
abbrev pub LacksRoom : {D : Type 0} → Log D → Option (Note Value) → Type 0
LacksRoom log None = ⊥
LacksRoom log (Some note) = WouldPassLimit log (note_text note)

-- There is a note, and the file has room for it.
abbrev pub HasRoomForNote : {D : Type 0} → Log D → Option (Note Value) → Type 0
HasRoomForNote log None = ⊥
HasRoomForNote log (Some note) = ¬ (WouldPassLimit log (note_text note))

-- As `LacksRoom`, computed from the notes: with this note the node's log would exceed its maximum
-- length.
abbrev pub IsFull : NodeState → Option (Note Value) → Type 0
IsFull n None = ⊥
IsFull n (Some note) =
    most_bytes < gate_place (identity_of n.member) (texts_of n.notes) + 1 + 5 + length
    (note_text note)
