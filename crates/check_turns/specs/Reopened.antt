-- A node that went down in a turn, and is opened again.
use Rattle.std.specs.Prelude.{◌≡◌, ◌⊎◌, ℕ, Some, slice_get}
use Rattle.protocol.specs.Events.{Event}
use Rattle.faults.specs.Bytes.{Text}
use Rattle.node.specs.OnLog.{texts_of}
use Rattle.node.specs.State.{LoggedNode, NodeState, with_note}
use Rattle.node.specs.Step.{Taken}
use Rattle.stable_record.specs.Crash.{MayLeave}
use Rattle.cluster_turns.specs.State.{ClusterState, IsWorldOf}
use Rattle.cluster_turns.specs.Turn.{WentDown}
use Rattle.world.specs.Happening.{Acts}
use Rattle.world.specs.World.{World, WorldNode}
use Rattle.stable_record.specs.declared.disk.Disk.{Ghosts as Disk}

-- A crash after the turn may leave this file of node k's disk, which keeps to the disk model then,
-- and did so before.
pub record IsLeftOf {D P : Type 0} (disk : Disk D) (old new : ClusterState D P) (k : ℕ)
    (file : Text) : Type 0 where
  pub before : LoggedNode D
  pub stood : slice_get old.nodes k ≡ Some before
  pub kept_before : disk.is_kept before.log.disk
  pub after : LoggedNode D
  pub stands : slice_get new.nodes k ≡ Some after
  pub kept : disk.is_kept after.log.disk
  pub may : MayLeave (disk.history after.log.disk) file

-- Node k went down during an event, and the opened node has the notes that it had before, or these
-- and that of the event's step.
pub record HasNotesAcross {D P : Type 0} (old new : ClusterState D P) (k : ℕ) (opened : NodeState)
    : Type 0 where
  pub event : Event
  pub went_down : WentDown old new event k
  pub world : World
  pub is_world : IsWorldOf old world
  pub node : WorldNode
  pub step : Taken
  pub acts : Acts world event node step
  pub notes : (texts_of opened.notes ≡ texts_of node.notes)
      ⊎ (texts_of opened.notes ≡ texts_of (with_note node.notes step.answer.note))

-- Node k went down in a turn from this state of the cluster, and the opened node has those notes.
abbrev pub HasNotesOfDown : {D P : Type 0} → ClusterState D P → ℕ → NodeState → Type 0
HasNotesOfDown {D} {P} old k opened = (new : ClusterState D P) × HasNotesAcross old new k opened
