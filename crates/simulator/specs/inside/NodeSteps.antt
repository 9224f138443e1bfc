-- The tables of a world after a step of a node.
use Rattle.std.specs.Prelude.{◌≡◌, ◌⊎◌, ℕ, List, Option, None, Some, Ok, Err}
use Rattle.faults.specs.Bytes.{Text}
use Rattle.protocol.specs.Events.{Event}
use Rattle.node.specs.Calls.{left_by}
use Rattle.node.specs.OnLog.{LacksRoom}
use Rattle.node.specs.State.{LoggedNode}
use Rattle.node.specs.Step.{Asked, ReadyStep, Taken, Takes, after, note_in, sends_in, taken_by}
use Rattle.node.specs.declared.fault.NodeFault.{NodeFault}
use Rattle.node.specs.declared.fault.NodeFault.TheVariants as node_fault
use Rattle.package_record.specs.Content.{Content}
use Rattle.protocol.specs.State.{Value}
use Rattle.simulator.specs.declared.event_effects.EventEffects.{EventEffects}
use Rattle.simulator.specs.declared.tables.Tables.{Tables}
use Rattle.simulator.specs.Effects.{IsDoneBy}
use Rattle.simulator.specs.inside.Asking.{asked_by}
use Rattle.simulator.specs.inside.Deciding.{decision}
use Rattle.simulator.specs.inside.Tables.{list_in}
use Rattle.stable_record.specs.declared.log_fault.LogFault.TheVariants.{Full}
use Rattle.stable_record.specs.declared.mem_disk.MemDisk.{MemDisk}
use Rattle.world.specs.Lists.{with_build}
use Rattle.world.specs.Sent.{with_sends}

-- the list with the decided build, if there is one
abbrev pub with_decision : List Content → Option Value → List Content
with_decision list None = list
with_decision list (Some build) = with_build list build

-- The step was taken: the node is changed by it, the messages that it sends are entered, the build
-- that it decides is appended to the list, and this is what it does.
pub record HasFinished (weights : List ℕ) (old : Tables) (n : LoggedNode MemDisk) (r : ReadyStep)
    (new : Tables) (m : LoggedNode MemDisk) (done : EventEffects) : Type 0 where
  pub node : m.node ≡ after n.node (taken_by n.node r)
  pub room : ¬ (LacksRoom n.log (note_in r.step))
  pub sent : new.sent ≡ with_sends old.sent (sends_in r.step)
  pub list : list_in new
      ≡ with_decision (list_in old) (decision weights old.sent n.node.member r.step)
  pub is_done : IsDoneBy (note_in r.step) (sends_in r.step) done

-- The node took the step on what the event asks, and this is what it does.
pub record TakesStep (weights : List ℕ) (e : Event) (old : Tables) (n : LoggedNode MemDisk)
    (new : Tables) (m : LoggedNode MemDisk) (done : EventEffects) : Type 0 where
  pub ready : ReadyStep
  pub asked : Asked
  pub asks : asked_by old.sent e ≡ Some asked
  pub takes : Takes n.node asked (Ok (taken_by n.node ready))
  pub finished : HasFinished weights old n ready new m done

-- The node refuses the step that the event asks for.
pub record TakesNone (sent : List Text) (e : Event) (n m : LoggedNode MemDisk) (f : NodeFault)
    : Type 0 where
  pub asked : Asked
  pub asks : asked_by sent e ≡ Some asked
  pub refuses : Takes n.node asked (Err f)
  pub leaves : m.node ≡ left_by n.node asked f

-- The node's log has no room for the note of the step.
pub record HasNoRoom (sent : List Text) (e : Event) (n m : LoggedNode MemDisk) (f : NodeFault)
    : Type 0 where
  pub asked : Asked
  pub asks : asked_by sent e ≡ Some asked
  pub taken : Taken
  pub takes : Takes n.node asked (Ok taken)
  pub lacks : LacksRoom n.log taken.answer.note
  pub fault : f ≡ node_fault.Log Full
  pub leaves : m.node ≡ n.node

-- The node refused the step that the event asks for: out of memory; or it takes no such step; or
-- its log is full.
abbrev pub RefusesStep : List Text → Event → LoggedNode MemDisk → LoggedNode MemDisk → NodeFault
    → Type 0
RefusesStep sent e n m f =
    ((f ≡ node_fault.Memory) × (m.node ≡ n.node))
    ⊎ (TakesNone sent e n m f ⊎ HasNoRoom sent e n m f)
