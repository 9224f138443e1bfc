-- What the calls of a node have done.
use Rattle.std.specs.Prelude.{◌≡◌, ◌⊎◌, ℕ, List, Option, Result, Ok, Err, All, map, true}
use Rattle.faults.specs.Answers.{IsRightUnless}
use Rattle.faults.specs.Bytes.{Text}
use Rattle.ballots.specs.declared.message.Note.{Note}
use Rattle.engine.specs.Tree.{Tree}
use Rattle.protocol.specs.Restoring.{AreOnUnits}
use Rattle.protocol.specs.State.{Value}
use Rattle.node.specs.OnLog.{HasRoomForNote, LacksRoom, LeavesOneMoreAtMost, identity, identity_of, texts_of}
use Rattle.node.specs.Parcels.{datagrams_to}
use Rattle.node.specs.State.{LoggedNode, NodeState, opened_node}
use Rattle.node.specs.Step.{Asked, Taken, Takes, after, after_refusal}
use Rattle.node.specs.declared.fault.NodeFault.{NodeFault}
use Rattle.node.specs.declared.fault.NodeFault.TheVariants.{Memory, Refused, Log, Stopped, Foreign}
use Rattle.node.specs.declared.prepared_step.Effects.{Effects}
use Rattle.stable_record.specs.Crash.{OnlySyncs}
use Rattle.stable_record.specs.History.{History, seen}
use Rattle.stable_record.specs.declared.log.Log as logs
use Rattle.stable_record.specs.declared.log_fault.LogFault.{LogFault}
use Rattle.stable_record.specs.declared.log_fault.LogFault.TheVariants as log
use Rattle.stable_record.specs.Opening.{Opens}
use Rattle.engine.specs.Division.{Division, IsDivision}
use Rattle.wire.specs.Messages.{IsNote}
use Rattle.wire.specs.Spelling.{note_text}

-- the node after a refusal: pieces that don't join to a message are dropped, and a failed device
-- stops the node
abbrev pub left_by : NodeState → Asked → NodeFault → NodeState
left_by n asked Memory = n
left_by n asked (Refused r) = n
left_by n asked (Log log.Device) = record n { stopped = true }
left_by n asked (Log log.Full) = n
left_by n asked (Log log.Memory) = n
left_by n asked (Log log.MustReopen) = n
left_by n asked (Log log.NotALog) = n
left_by n asked (Log log.OtherCluster) = n
left_by n asked Stopped = n
left_by n asked (Foreign f) = after_refusal n asked

-- the node after a call that makes a step ready or refuses
abbrev pub prepared : NodeState → Asked → Result Taken NodeFault → NodeState
prepared n asked (Ok t) = n
prepared n asked (Err f) = left_by n asked f

-- The call made the right step ready, or gave the right refusal, or ran out of memory. The node is
-- unchanged, except that pieces which don't join to a message are dropped.
pub record HasPrepared (old new : NodeState) (asked : Asked)
    (result : Result Taken NodeFault) : Type 0 where
  pub right : Result Taken NodeFault
  pub takes : Takes old asked right
  pub given : IsRightUnless Memory result right
  pub state : new ≡ prepared old asked result

-- What is given out is that of the step: its datagrams, each with its receiver, and its job.
pub record IsOutOf (t : Taken) (out : Effects) : Type 0 where
  pub sends : out.sends ≡ datagrams_to t.answer.sends
  pub job : out.job ≡ t.answer.job

-- The step was taken: the node is changed by it, and its datagrams and job are given out.
pub record HasTaken (old new : NodeState) (t : Taken) (out : Effects) : Type 0 where
  pub state : new ≡ after old t
  pub tells : IsOutOf t out

-- The call took the right step: the node is changed by it, and its datagrams and job are given out.
pub record HasHandled (old new : NodeState) (asked : Asked) (out : Effects) : Type 0 where
  pub step : Taken
  pub takes : Takes old asked (Ok step)
  pub taken : HasTaken old new step out

-- Why a ready step is not taken: its note doesn't fit on the log, or it fits and the device failed.
-- That the device failed during the call is a clause of its own.
abbrev pub IsLogCause : {D : Type 0} → logs.Log D → Option (Note Value) → NodeFault → Type 0
IsLogCause stood noted Memory = Prim.Unit {0}
IsLogCause stood noted (Refused r) = ⊥
IsLogCause stood noted (Log log.Full) = LacksRoom stood noted
IsLogCause stood noted (Log log.Device) = HasRoomForNote stood noted
IsLogCause stood noted (Log log.Memory) = ⊥
IsLogCause stood noted (Log log.MustReopen) = ⊥
IsLogCause stood noted (Log log.NotALog) = ⊥
IsLogCause stood noted (Log log.OtherCluster) = ⊥
IsLogCause stood noted Stopped = ⊥
IsLogCause stood noted (Foreign f) = ⊥

-- The log has no room for the note of the step that the node would take.
pub record HasFilled {D : Type 0} (n : LoggedNode D) (asked : Asked) : Type 0 where
  pub step : Taken
  pub takes : Takes n.node asked (Ok step)
  pub lacks : LacksRoom n.log step.answer.note

-- The log has room for the note of the step that the node would take, so the note went to the
-- device.
pub record HasTried {D : Type 0} (n : LoggedNode D) (asked : Asked) : Type 0 where
  pub step : Taken
  pub takes : Takes n.node asked (Ok step)
  pub room : HasRoomForNote n.log step.answer.note

-- Each refusal of a call has its cause, except for `Memory`. The cause of a device failure is that
-- a note went to the device; that it failed during the call is a clause of its own.
abbrev pub IsCause : {D : Type 0} → LoggedNode D → Asked → NodeFault → Type 0
IsCause n asked Memory = Prim.Unit {0}
IsCause n asked (Refused r) = Takes n.node asked (Err (Refused r))
IsCause n asked (Log log.Full) = HasFilled n asked
IsCause n asked (Log log.Device) = HasTried n asked
IsCause n asked (Log log.Memory) = ⊥
IsCause n asked (Log log.MustReopen) = ⊥
IsCause n asked (Log log.NotALog) = ⊥
IsCause n asked (Log log.OtherCluster) = ⊥
IsCause n asked Stopped = n.node.stopped ≡ true
IsCause n asked (Foreign f) = Takes n.node asked (Err (Foreign f))

-- The texts are those of these notes, and the notes are about the tree's units.
pub record AreNotes (division : Division) (texts : List Text)
    (notes : List (Note Value)) : Type 0 where
  pub read : texts ≡ map note_text notes
  pub each : All IsNote notes
  pub on_units : AreOnUnits division notes

-- The node is one over this tree, in the state that its notes restore.
pub record IsOpened (tree : Tree) (weights : List ℕ) (me : ℕ) (n : NodeState) : Type 0 where
  pub division : Division
  pub of_tree : division.tree ≡ tree
  pub divided : IsDivision division
  pub notes_are : All IsNote n.notes
  pub on_units : AreOnUnits division n.notes
  pub node : n ≡ opened_node division weights me n.notes

-- The texts of the file are not notes of a member of this tree.
abbrev pub HasBadNotes : Tree → List Text → Type 0
HasBadNotes tree texts =
    (division : Division) (notes : List (Note Value)) → division.tree ≡ tree → IsDivision division
    → ¬ AreNotes division texts notes

-- The file is not a log, or its notes are not of this tree.
abbrev pub HasNoNode : Tree → List ℕ → ℕ → Text → Type 0
HasNoNode tree weights me file =
    Opens (identity tree weights me) file (Err log.NotALog)
    ⊎ ((texts : List Text) × Opens (identity tree weights me) file (Ok texts)
    × HasBadNotes tree texts)

-- What a file opens as, if neither memory runs out nor the device fails: a node over a log that has
-- its notes, or `NotALog`, or `OtherCluster`.
abbrev pub OpensNode : Tree → List ℕ → ℕ → Text → Result NodeState LogFault → Type 0
OpensNode tree weights me file (Ok n) =
    IsOpened tree weights me n × Opens (identity_of n.member) file (Ok (texts_of n.notes))
OpensNode tree weights me file (Err log.NotALog) = HasNoNode tree weights me file
OpensNode tree weights me file (Err log.OtherCluster) =
    Opens (identity tree weights me) file (Err log.OtherCluster)
OpensNode tree weights me file (Err log.Memory) = ⊥
OpensNode tree weights me file (Err log.Device) = ⊥
OpensNode tree weights me file (Err log.Full) = ⊥
OpensNode tree weights me file (Err log.MustReopen) = ⊥

-- A file opens in one way only: as one node, or with one refusal.
abbrev pub OpensAsOne : Tree → List ℕ → ℕ → Type 0
OpensAsOne tree weights me =
    (file : Text) (a b : Result NodeState LogFault) → OpensNode tree weights me file a
    → OpensNode tree weights me file b → a ≡ b

-- why a file is not opened; `Memory` and `Device` can come for any file
abbrev pub IsOpenFault : Tree → List ℕ → ℕ → Text → NodeFault → Type 0
IsOpenFault tree weights me file Memory = Prim.Unit {0}
IsOpenFault tree weights me file (Log log.NotALog) = HasNoNode tree weights me file
IsOpenFault tree weights me file (Log log.OtherCluster) =
    Opens (identity tree weights me) file (Err log.OtherCluster)
IsOpenFault tree weights me file (Log log.Device) = Prim.Unit {0}
IsOpenFault tree weights me file (Log log.Memory) = ⊥
IsOpenFault tree weights me file (Log log.Full) = ⊥
IsOpenFault tree weights me file (Log log.MustReopen) = ⊥
IsOpenFault tree weights me file (Refused r) = ⊥
IsOpenFault tree weights me file Stopped = ⊥
IsOpenFault tree weights me file (Foreign f) = ⊥

-- After a refusal because the bytes of the file are not a log, or because the log is another
-- member's, nothing but syncs was done to the file.
abbrev pub IsUntouched : Tree → List ℕ → ℕ → NodeFault → History → History → Type 0
IsUntouched tree weights me fault old new =
    (fault ≡ Log log.OtherCluster)
    ⊎ ((fault ≡ Log log.NotALog) × Opens (identity tree weights me) (seen old) (Err log.NotALog))
    → OnlySyncs old new

-- At each moment from the old history to the new one a crash leaves the node's notes, either with
-- or without the note of the step that the node takes when asked this.
abbrev pub LeavesItsNoteAtMost : NodeState → Asked → History → History → Type 0
LeavesItsNoteAtMost n asked old new =
    (new ≡ old) ⊎ ((t : Taken) × Takes n asked (Ok t) × LeavesOneMoreAtMost n t.answer.note old new)
