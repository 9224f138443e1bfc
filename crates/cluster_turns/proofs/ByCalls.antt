-- A turn, seen by the calls of its port.
use Rattle.std.proofs.Common.{◌≡◌, List, [], ◌++◌, Option, None, Some, Result, Ok, Err, length, map, refl}
use Rattle.turn_rules.specs.declared.fault.TurnFault.{TurnFault}
use Rattle.protocol.specs.Given.{Given}
use Rattle.protocol.specs.declared.event.Event as declared
use Rattle.turn_rules.specs.Calls.{TurnCalls, no_calls}
use Rattle.datagram_ports.proofs.Calls.{WentThrough-append}
use Rattle.datagram_ports.specs.Calls.{Call, Received, WentThrough}
use Rattle.datagram_ports.specs.Kept.{Arrived}
use Rattle.datagram_ports.specs.declared.fault.PortFault.{PortFault}
use Rattle.cluster_turns.proofs.Turns.{Promises, promises}
use Rattle.cluster_turns.specs.Calls.{HasCalled, IsByCalls, calls_as_port, with_calls}
use Rattle.cluster_turns.specs.State.{AreOnLogs, ClusterState, IsWorldOf}
use Rattle.cluster_turns.specs.inside.Turning.{IsTurn, IsTurnByCalls, turning_of}
use Rattle.world.specs.World.{World}
use Rattle.stable_record.specs.declared.disk.Disk.{Ghosts as Disk}
use Rattle.datagram_ports.specs.declared.port.Port.{Ghosts as Port}

-- receives only are the calls of a turn that sent nothing
pub receives_alone : {P : Type 0} (does : P → Call → P → Type 0) (old new : P)
    (received : List (Result Arrived PortFault))
    → WentThrough does old (map Received received) new
    → WentThrough does old (map Received received ++ []) new
receives_alone does old new received went =
    WentThrough-append does old new new (map Received received) [] went refl

-- it is the same world
pub world_with : {D P : Type 0} (c : ClusterState D P) (calls : TurnCalls) (w : World)
    → IsWorldOf c w → IsWorldOf (with_calls c calls) w
world_with c calls w is = record {
  made = is.made;
  led = is.led;
  nodes = is.nodes;
  sent = is.sent;
  know = is.know;
}

module _ {D P : Type 0} (disk : Disk D) (old new : ClusterState D P) (builds : Given)
    (division : new.division ≡ old.division) (weights : new.weights ≡ old.weights)
    (count : length old.nodes ≡ length old.weights) (w : World) (is : IsWorldOf old w)
    (on_logs : AreOnLogs disk old) (calls : TurnCalls) where
  abbrev first : ClusterState D TurnCalls
  first = with_calls old no_calls

  abbrev last : ClusterState D TurnCalls
  last = with_calls new calls

  abbrev IsTurnThere : Result (Option declared.Event) TurnFault → Type 0
  IsTurnThere result =
      IsTurn disk calls_as_port (turning_of first) (turning_of last) builds result

  -- what it promises, seen by its calls
  there : (result : Result (Option declared.Event) TurnFault) → IsTurnThere result
      → Promises disk calls_as_port first last builds result
  there result t =
      promises disk calls_as_port first last builds division weights count w
      (world_with old no_calls w is) on_logs result t

  pub seen_by : (result : Result (Option declared.Event) TurnFault) → IsTurnThere result
      → IsByCalls first last builds result
  seen_by (Ok None) t = let p = there (Ok None) t in (p.nothing, p.offers)
  seen_by (Ok (Some e)) t = let p = there (Ok (Some e)) t in (p.chosen, p.offers)
  seen_by (Err f) t = let p = there (Err f) t in (p.faults, p.offers)

-- these are the turn's calls
pub has_called : {D P : Type 0} (disk : Disk D) (port : Port P) (old new : ClusterState D P)
    (builds : Given)
    → new.division ≡ old.division → new.weights ≡ old.weights
    → length old.nodes ≡ length old.weights → (w : World) → IsWorldOf old w
    → AreOnLogs disk old → (result : Result (Option declared.Event) TurnFault)
    → IsTurnByCalls disk port (turning_of old) (turning_of new) builds result
    → HasCalled port old new builds result
has_called disk port old new builds division weights count w is on_logs result t = record {
  calls = t.calls;
  went = t.went;
  by_calls = seen_by disk old new builds division weights count w is on_logs t.calls result t.so;
}
