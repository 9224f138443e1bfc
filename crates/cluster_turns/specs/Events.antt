-- The event of a turn.
use Rattle.std.specs.Prelude.{ℕ, List, Option, None, Some, option_map, position}
use Rattle.std.specs.Str.{bytes_eq}
use Rattle.protocol.specs.Events.{Event, Claim, Built, Failed, Nudge, Ask, Deliver}
use Rattle.faults.specs.Bytes.{Text}
use Rattle.node.specs.Step.{Asked, Comes, Does}
use Rattle.protocol.specs.declared.input.Input.{Input}
use Rattle.protocol.specs.declared.input.Input.TheVariants as inputs

-- the event of a node's own input; a message is not one
abbrev pub event_of_input : ℕ → Input → Option Event
event_of_input k (inputs.Claim path host above) = Some (Claim k path host above)
event_of_input k (inputs.Built path given) = Some (Built k path given)
event_of_input k (inputs.Failed path) = Some (Failed k path)
event_of_input k inputs.Nudge = Some (Nudge k)
event_of_input k (inputs.Ask path) = Some (Ask k path)
event_of_input k (inputs.Message m) = None

-- the event of what a node is asked; received bytes have one only if they were sent
abbrev pub event_of : List Text → ℕ × Asked → Option Event
event_of sent (k, Does input) = event_of_input k input
event_of sent (k, Comes text) = option_map (λ d. Deliver d k) (position (bytes_eq text) sent)
