-- The contents of a ready step.
use Rattle.std.specs.Prelude.{◌≡◌, option_map}
use Rattle.node.specs.Parcels.{datagrams_to}
use Rattle.node.specs.Step.{ReadyStep, note_in, sends_in}
use Rattle.node.specs.declared.prepared_step.PreparedStep.TheInside.{Inside}
use Rattle.wire.specs.Spelling.{note_text}

-- the step with these fields
abbrev pub ready_by : Inside → ReadyStep
ready_by r = record { step = r.step; change = r.change }

-- The bytes are the encodings of the member's note and messages.
pub record IsWritten (r : Inside) : Type 0 where
  pub sends : r.sends ≡ datagrams_to (sends_in r.step)
  pub note : option_map (λ n. n.items) r.note ≡ option_map note_text (note_in r.step)
