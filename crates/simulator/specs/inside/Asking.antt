-- What an event asks of a node, given the sent datagrams.
use Rattle.std.specs.Prelude.{◌≡◌, ◌⊎◌, List, Option, None, Some, Result, Err, option_map, slice_get}
use Rattle.faults.specs.Bytes.{Text}
use Rattle.protocol.specs.Events.{Event, Claim, Built, Failed, Nudge, Ask, Deliver, Stop, StopIn, Restart}
use Rattle.node.specs.Calls.{HasPrepared}
use Rattle.node.specs.State.{NodeState}
use Rattle.node.specs.Step.{Asked, Comes, Does, Taken}
use Rattle.node.specs.declared.fault.NodeFault.{NodeFault}
use Rattle.node.specs.declared.fault.NodeFault.TheVariants as node_fault
use Rattle.protocol.specs.declared.input.Input.TheVariants as inputs
use Rattle.world.specs.declared.fault.WorldFault.{WorldFault}
use Rattle.world.specs.declared.fault.WorldFault.TheVariants as fault

-- what a step asks of its node
abbrev pub asked_by : List Text → Event → Option Asked
asked_by sent (Claim n path host above) = Some (Does (inputs.Claim path host above))
asked_by sent (Built n path packages) = Some (Does (inputs.Built path packages))
asked_by sent (Failed n path) = Some (Does (inputs.Failed path))
asked_by sent (Nudge n) = Some (Does inputs.Nudge)
asked_by sent (Ask n path) = Some (Does (inputs.Ask path))
asked_by sent (Deliver d n) = option_map Comes (slice_get sent d)
asked_by sent (Stop n) = None
asked_by sent (StopIn e l) = None
asked_by sent (Restart n) = None

-- The event is a step, and the datagram that it delivers, if any, was sent.
abbrev pub CanBeAsked : List Text → Event → Type 0
CanBeAsked sent e = (asked : Asked) × (asked_by sent e ≡ Some asked)

-- The node's step on what the event asks is ready, or rightly refused; or memory ran out, and the
-- node is unchanged.
abbrev pub IsReadied : List Text → Event → NodeState → NodeState → Result Taken NodeFault → Type 0
IsReadied sent e old new result =
    ((result ≡ Err node_fault.Memory) × (new ≡ old))
    ⊎ ((asked : Asked) × (asked_by sent e ≡ Some asked) × HasPrepared old new asked result)

-- the world's fault if its node refuses with this one
abbrev pub refused_by : NodeFault → WorldFault
refused_by node_fault.Memory = fault.Memory
refused_by (node_fault.Refused r) = fault.Node (node_fault.Refused r)
refused_by (node_fault.Log f) = fault.Node (node_fault.Log f)
refused_by node_fault.Stopped = fault.Node node_fault.Stopped
refused_by (node_fault.Foreign f) = fault.Node (node_fault.Foreign f)
