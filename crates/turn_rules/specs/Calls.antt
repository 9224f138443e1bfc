-- The calls that a turn makes to a port.
use Rattle.std.specs.Prelude.{◌++◌, List, [], Option, None, Some, Result, Ok, Err, map}
use Rattle.datagram_ports.specs.Calls.{Call, Received}
use Rattle.datagram_ports.specs.Kept.{Arrived, Parcel}
use Rattle.datagram_ports.specs.declared.fault.PortFault.{PortFault}
use Rattle.turn_rules.specs.Offered.{Answered, sends_of}

-- what a receive with this answer returned; one that failed returned nothing
abbrev pub came_by : Result Arrived PortFault → Arrived
came_by (Ok came) = came
came_by (Err f) = None

-- the calls of a turn, with their answers
pub record TurnCalls : Type 0 where
  -- the answers of its receives
  pub received : List (Result Arrived PortFault)
  -- what was offered afterwards, and the answers of these sends
  pub offered : List Answered

-- a turn that made no calls
abbrev pub no_calls : TurnCalls
no_calls = record { received = []; offered = [] }

-- the receives, and then the sends, in order
abbrev pub calls_of : TurnCalls → List Call
calls_of t = map Received t.received ++ sends_of t.offered

-- what the receives returned, in order
abbrev pub given_in : TurnCalls → Option (List Arrived)
given_in t = Some (map came_by t.received)

-- what was offered, in order
abbrev pub offered_in : TurnCalls → Option (List Parcel)
offered_in t = Some (map (λ a. a.0) t.offered)
