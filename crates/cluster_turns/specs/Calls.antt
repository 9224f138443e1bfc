-- A turn, seen by the calls that it makes to the port.
use Rattle.std.specs.Prelude.{⊤, Option, None, Some, Result, Ok, Err}
use Rattle.turn_rules.specs.declared.fault.TurnFault.{TurnFault}
use Rattle.protocol.specs.Events.{event_view}
use Rattle.protocol.specs.declared.event.Event as declared
use Rattle.turn_rules.specs.Calls.{TurnCalls, calls_of, given_in, no_calls, offered_in}
use Rattle.datagram_ports.specs.Calls.{WentThrough}
use Rattle.protocol.specs.Given.{Given}
use Rattle.cluster_turns.specs.Faults.{IsTurnFault}
use Rattle.cluster_turns.specs.State.{ClusterState}
use Rattle.cluster_turns.specs.Turn.{IsChosen, IsEventChosen, OffersItsSends, OffersNothing}
use Rattle.datagram_ports.specs.declared.port.Port.{Ghosts as Port}

-- the cluster, with these calls in place of its port
abbrev pub with_calls : {D P : Type 0} → ClusterState D P → TurnCalls → ClusterState D TurnCalls
with_calls c calls = record {
  division = c.division;
  weights = c.weights;
  nodes = c.nodes;
  sent = c.sent;
  events = c.events;
  pending = c.pending;
  port = calls;
}

-- The calls of a turn, seen as a port. It returned what their receives did, and was offered what
-- their sends offered. No definition reads its other members.
abbrev pub calls_as_port : Port TurnCalls
calls_as_port = record {
  given = given_in;
  offered = offered_in;
  failures_of = λ calls. 0;
  does = λ old call new. ⊤;
  vouches = λ calls text. ⊤;
  may_send = λ calls text. ⊤;
}

-- The turn, seen by its calls: the choice depends on what they returned, and they offered exactly
-- what the turn's step sends, or nothing if it took none.
abbrev pub IsByCalls : {D : Type 0} → ClusterState D TurnCalls → ClusterState D TurnCalls
    → Given → Result (Option declared.Event) TurnFault → Type 0
IsByCalls old new builds (Ok None) =
    IsChosen calls_as_port old new builds None × OffersNothing calls_as_port old new
IsByCalls old new builds (Ok (Some e)) =
    IsEventChosen calls_as_port old new builds (event_view e)
    × OffersItsSends calls_as_port old new (event_view e)
IsByCalls old new builds (Err f) =
    IsTurnFault calls_as_port old new builds f × OffersNothing calls_as_port old new

-- The port went through exactly these calls in the turn, and seen by them it is this turn. So it
-- was asked to receive once, or not at all if a job waited for its answer, and then to send each
-- datagram that the step sends, once and in order.
pub record HasCalled {D P : Type 0} (port : Port P) (old new : ClusterState D P) (builds : Given)
    (result : Result (Option declared.Event) TurnFault) : Type 0 where
  pub calls : TurnCalls
  pub went : WentThrough port.does old.port (calls_of calls) new.port
  pub by_calls : IsByCalls (with_calls old no_calls) (with_calls new calls) builds result
