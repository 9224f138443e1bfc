-- What an event does at its node: what it adds to the log, and what it sends to whom.
use Rattle.std.specs.Prelude.{◌≡◌, ℕ, List, [], ◌∷◌, Option, None, Some, option_map}
use Rattle.ballots.specs.declared.message.Body.{Body}
use Rattle.ballots.specs.declared.message.Body.TheVariants as body
use Rattle.ballots.specs.declared.message.Fact.{Fact}
use Rattle.ballots.specs.declared.message.Fact.TheVariants as fact
use Rattle.ballots.specs.declared.message.Note.{Note}
use Rattle.node.specs.Parcels.{datagrams_to}
use Rattle.protocol.specs.Events.{Event, Claim, Built, Failed, Nudge, Ask, Deliver, Stop, StopIn, Restart}
use Rattle.protocol.specs.State.{Value}
use Rattle.protocol.specs.declared.event.Left.{Left}
use Rattle.protocol.specs.declared.event.Left.TheVariants as left
use Rattle.protocol.specs.declared.sends.Send.{Send}
use Rattle.simulator.specs.declared.event_effects.EventEffects.{EventEffects}
use Rattle.simulator.specs.declared.event_effects.MessageKind.{MessageKind}
use Rattle.simulator.specs.declared.event_effects.MessageKind.TheVariants as message
use Rattle.simulator.specs.declared.event_effects.NoteKind.{NoteKind}
use Rattle.simulator.specs.declared.event_effects.NoteKind.TheVariants as note
use Rattle.world.specs.Happening.{Restarts, Steps, Stops, StopsIn}
use Rattle.world.specs.World.{World}

-- ---- kinds

-- the kind of a note of this fact
abbrev pub kind_of_fact : Fact Value → NoteKind
kind_of_fact (fact.Opened round) = note.Opened
kind_of_fact (fact.Promised c) = note.Promised
kind_of_fact (fact.Voted c v) = note.Voted
kind_of_fact (fact.Held v) = note.Held

-- the kind of the note, if there is one
abbrev pub kind_noted : Option (Note Value) → Option NoteKind
kind_noted noted = option_map (λ n. kind_of_fact n.fact) noted

-- the kind of a message with this body
abbrev pub kind_of_body : Body Value → MessageKind
kind_of_body (body.Offer c) = message.Offer
kind_of_body (body.Promise c report) = message.Promise
kind_of_body (body.Propose c v) = message.Propose
kind_of_body (body.Vote c) = message.Vote
kind_of_body (body.Agreed v) = message.Agreed
kind_of_body body.Ask = message.Ask
kind_of_body (body.Nay c promised) = message.Nay

-- the kind of the message that is sent, if one is: a step sends one message to all its receivers
abbrev pub kind_sent : List Send → Option MessageKind
kind_sent [] = None
kind_sent (s ∷ sends) = Some (kind_of_body s.message.body)

-- ---- what is done

-- This note is added to the log, if there is one, and these messages are sent.
pub record IsDoneBy (noted : Option (Note Value)) (sends : List Send) (done : EventEffects) :
    Type 0 where
  pub noted_is : done.noted ≡ kind_noted noted
  pub message_is : done.message ≡ kind_sent sends
  pub sends_are : done.sends ≡ datagrams_to sends

-- the note that a stop inside a step leaves on the log: that of the step, if the whole note is left
abbrev pub note_left : Left → Option (Note Value) → Option (Note Value)
note_left left.None noted = None
note_left (left.Torn bytes) noted = None
note_left left.Whole noted = noted

-- The event's node takes a step. What is done is that the step's note is added and its messages are
-- sent.
pub record StepDoes (w : World) (e : Event) (w' : World) (done : EventEffects) : Type 0 where
  pub steps : Steps w e w'
  pub is_done : IsDoneBy steps.taken.answer.note steps.taken.answer.sends done

-- The event's node stops inside a step. What is done is that the note that is left is added.
pub record StopDoes (w : World) (e : Event) (l : Left) (w' : World) (done : EventEffects) :
    Type 0 where
  pub stops : StopsIn w e l w'
  pub is_done : IsDoneBy (note_left l stops.taken.answer.note) [] done

-- A stop between two steps adds and sends nothing.
pub record OnlyStops (w : World) (n : ℕ) (w' : World) (done : EventEffects) : Type 0 where
  pub stops : Stops w n w'
  pub is_done : IsDoneBy None [] done

-- Nor does a restart.
pub record OnlyRestarts (w : World) (n : ℕ) (w' : World) (done : EventEffects) : Type 0 where
  pub restarts : Restarts w n w'
  pub is_done : IsDoneBy None [] done

-- The event can happen in world `w`, it leaves world `w'`, and this is what it does at its node.
abbrev pub Does : World → Event → World → EventEffects → Type 0
Does w (Claim n path host above) w' done = StepDoes w (Claim n path host above) w' done
Does w (Built n path packages) w' done = StepDoes w (Built n path packages) w' done
Does w (Failed n path) w' done = StepDoes w (Failed n path) w' done
Does w (Nudge n) w' done = StepDoes w (Nudge n) w' done
Does w (Ask n path) w' done = StepDoes w (Ask n path) w' done
Does w (Deliver d n) w' done = StepDoes w (Deliver d n) w' done
Does w (Stop n) w' done = OnlyStops w n w' done
Does w (StopIn e l) w' done = StopDoes w e l w' done
Does w (Restart n) w' done = OnlyRestarts w n w' done
