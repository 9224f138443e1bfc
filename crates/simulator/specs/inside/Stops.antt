-- Nodes after stops and restarts.
use Rattle.std.specs.Prelude.{◌≡◌, ◌⊎◌, ◌++◌, ◌∷◌, ℕ, List, [], IfOk, Result, Some, length, slice_get, slice_set, true}
use Rattle.protocol.specs.Events.{Event}
use Rattle.protocol.specs.declared.event.Left.{Left}
use Rattle.protocol.specs.declared.event.Left.TheVariants as left
use Rattle.faults.specs.Answers.{map_ok}
use Rattle.faults.specs.Bytes.{Text}
use Rattle.node.specs.OnLog.{IsOnLog, LacksRoom}
use Rattle.node.specs.State.{LoggedNode}
use Rattle.node.specs.Step.{IsReadyFor, ReadyStep, after, note_in, taken_by}
use Rattle.node.specs.declared.fault.NodeFault.{NodeFault}
use Rattle.node.specs.declared.fault.NodeFault.TheVariants as node_fault
use Rattle.node.specs.Noted.{notes_in}
use Rattle.simulator.specs.declared.slot.Slot.{Slot}
use Rattle.simulator.specs.declared.slot.Slot.TheVariants.{Down, Up}
use Rattle.simulator.specs.declared.slot.DownNode.{DownNode}
use Rattle.simulator.specs.inside.Asking.{IsReadied}
use Rattle.simulator.specs.inside.Standing.{disk_of, file_of, node_view}
use Rattle.stable_record.specs.History.{stands}
use Rattle.stable_record.specs.InMemory.{mem_history}
use Rattle.stable_record.specs.declared.log_fault.LogFault.TheVariants.{Full}
use Rattle.stable_record.specs.declared.mem_disk.MemDisk.{MemDisk}

-- The node at the place is down now, with its notes and its disk. The others are unchanged.
pub record IsStopped (old new : List Slot) (place : ℕ) : Type 0 where
  pub node : Slot
  pub stood : slice_get old place ≡ Some node
  pub down : DownNode
  pub nodes : new ≡ slice_set old place (Down down)
  pub disk : down.disk ≡ disk_of node
  pub notes : notes_in down.noted.texts ≡ (node_view node).notes
  pub behind : (node_view node).up ≡ true → down.behind ≡ 0

-- The node at the place is down now, with its notes, and with a disk that has its file followed by
-- these bytes. The others are unchanged.
pub record IsStoppedTorn (old new : List Slot) (place : ℕ) (torn : Text) : Type 0 where
  pub node : Slot
  pub stood : slice_get old place ≡ Some node
  pub down : DownNode
  pub nodes : new ≡ slice_set old place (Down down)
  pub disk : mem_history down.disk ≡ stands (file_of (disk_of node) ++ torn) ∷ []
  pub notes : notes_in down.noted.texts ≡ (node_view node).notes
  pub behind : down.behind ≡ length torn

-- ---- a stop inside a step

-- The step on what the event asks is ready, or rightly refused. The log is unchanged.
pub record HasReadied (sent : List Text) (e : Event) (n m : LoggedNode MemDisk)
    (result : Result ReadyStep NodeFault) : Type 0 where
  pub step : IsReadied sent e n.node m.node (map_ok (taken_by n.node) result)
  pub ready : IfOk result (IsReadyFor m.node)
  pub log : m.log ≡ n.log

-- As `HasReadied`, for a slot whose node is up and stays up.
abbrev pub ReadiesStep : List Text → Event → Slot → Slot → Result ReadyStep NodeFault → Type 0
ReadiesStep sent e (Up n) (Up m) result = HasReadied sent e n m result
ReadiesStep sent e (Up n) (Down r) result = ⊥
ReadiesStep sent e (Down r) x result = ⊥

-- The slot's node is up, agrees with its log, and may take the step.
abbrev pub IsReady : Slot → ReadyStep → Type 0
IsReady (Up n) r = IsReadyFor n.node r × IsOnLog mem_history n
IsReady (Down d) r = ⊥

-- The node took the step: its log had room for the note.
pub record HasTakenOnLog (n : LoggedNode MemDisk) (r : ReadyStep) (m : LoggedNode MemDisk) : Type 0
  where
    pub node : m.node ≡ after n.node (taken_by n.node r)
    pub room : ¬ (LacksRoom n.log (note_in r.step))
    pub on_log : IsOnLog mem_history m

-- The slot's node is up, took the step, and is still up.
abbrev pub TookStep : Slot → ReadyStep → Slot → Type 0
TookStep (Up n) r (Up m) = HasTakenOnLog n r m
TookStep (Up n) r (Down d) = ⊥
TookStep (Down c) r x = ⊥

-- The node is unchanged, and on its log: memory ran out, or the log has no room for the note of the
-- step.
pub record StaysOnLog (n : LoggedNode MemDisk) (r : ReadyStep) (m : LoggedNode MemDisk)
    (f : NodeFault) : Type 0 where
  pub node : m.node ≡ n.node
  pub on_log : IsOnLog mem_history m
  pub cause : (f ≡ node_fault.Memory)
      ⊎ ((f ≡ node_fault.Log Full) × LacksRoom n.log (note_in r.step))

-- The slot's node is up, took no step, and is unchanged.
abbrev pub TookNone : Slot → ReadyStep → Slot → NodeFault → Type 0
TookNone (Up n) r (Up m) f = StaysOnLog n r m f
TookNone (Up n) r (Down d) f = ⊥
TookNone (Down c) r x f = ⊥

-- The node at the place is up and may take the step.
pub record StandsReady (nodes : List Slot) (place : ℕ) (r : ReadyStep) : Type 0 where
  pub node : Slot
  pub stands : slice_get nodes place ≡ Some node
  pub ready : IsReady node r

-- The node at the place took the step, and is then down.
pub record IsStoppedBehind (old new : List Slot) (place : ℕ) (r : ReadyStep) : Type 0 where
  pub node : Slot
  pub stood : slice_get old place ≡ Some node
  pub then : Slot
  pub took : TookStep node r then
  pub stopped : IsStopped (slice_set old place then) new place

-- The node at the place took no step, and the others are unchanged.
pub record HasNotStopped (old new : List Slot) (place : ℕ) (r : ReadyStep) (f : NodeFault) :
    Type 0 where
  pub node : Slot
  pub stood : slice_get old place ≡ Some node
  pub then : Slot
  pub none : TookNone node r then f
  pub nodes : new ≡ slice_set old place then

-- The node at the place is down now, and this is left of the note of its step.
abbrev pub IsStoppedWith : Left → List Slot → List Slot → ℕ → ReadyStep → Type 0
IsStoppedWith left.None old new place r = IsStopped old new place
IsStoppedWith (left.Torn torn) old new place r = IsStoppedTorn old new place torn
IsStoppedWith left.Whole old new place r = IsStoppedBehind old new place r

-- The node was not stopped. That can't happen if nothing is left of the note. If a torn note is
-- left, memory ran out; if the whole note is, memory ran out or the log is full.
abbrev pub IsNotStoppedWith : Left → List Slot → List Slot → ℕ → ReadyStep → NodeFault → Type 0
IsNotStoppedWith left.None old new place r f = ⊥
IsNotStoppedWith (left.Torn torn) old new place r f = (new ≡ old) × (f ≡ node_fault.Memory)
IsNotStoppedWith left.Whole old new place r f = HasNotStopped old new place r f
