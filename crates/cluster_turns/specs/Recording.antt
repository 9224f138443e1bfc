-- The recorded events of a step.
use Rattle.std.specs.Prelude.{◌≡◌, ℕ, List, Option, None, Some}
use Rattle.ballots.specs.declared.message.Note.{Note}
use Rattle.protocol.specs.Events.{Event, StopIn, event_view}
use Rattle.protocol.specs.declared.event.Event as declared
use Rattle.protocol.specs.declared.event.Left.TheVariants as left
use Rattle.faults.specs.Bytes.{Text}
use Rattle.node.specs.Step.{Asked, ReadyStep, note_in}
use Rattle.protocol.specs.State.{Value}
use Rattle.cluster_turns.specs.Events.{event_of}
use Rattle.cluster_turns.specs.declared.recording.ReservedStep.{ReservedStep}

-- It is the event of a stop during the step, if the step has a note, and otherwise there is none.
abbrev pub IsStopOf : Option (Note Value) → Event → Option declared.Event → Type 0
IsStopOf None e None = Prim.Unit {0}
IsStopOf None e (Some stop) = ⊥
IsStopOf (Some note) e None = ⊥
IsStopOf (Some note) e (Some stop) = event_view stop ≡ StopIn e left.None

-- These are the events of what the node is asked: one to keep, one to return, and that of a stop
-- during the step.
pub record IsRecorded (sent : List Text) (x : ℕ × Asked) (ready : ReadyStep) (r : ReservedStep)
    : Type 0 where
  pub kept : event_of sent x ≡ Some (event_view r.kept)
  pub answered : event_view r.answered ≡ event_view r.kept
  pub stop : IsStopOf (note_in ready.step) (event_view r.kept) r.stop
