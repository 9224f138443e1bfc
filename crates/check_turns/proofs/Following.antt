-- What is received after an event.
use Rattle.std.proofs.Common.{◌≡◌, ◌++◌, [], ◌∷◌, Option, None, Result, IfErr, IfOk}
use Rattle.std.specs.Prelude.{IfNone, IfSome}
use Rattle.turn_rules.specs.declared.fault.TurnFault.{TurnFault}
use Rattle.protocol.specs.Events.{event_view}
use Rattle.protocol.specs.declared.event.Event as declared
use Rattle.protocol.specs.Given.{Given}
use Rattle.cluster_turns.specs.Faults.{IsTurnFault}
use Rattle.cluster_turns.specs.State.{ClusterState, taken}
use Rattle.cluster_turns.specs.Turn.{HasHappened, IsChosen, IsEventChosen}
use Rattle.check_turns.proofs.Going.{one_happened}
use Rattle.check_turns.proofs.Hearing.{hears}
use Rattle.check_turns.proofs.Sending.{event_steps, sends_known}
use Rattle.check_turns.specs.Heard.{HearsNext}
use Rattle.datagram_ports.specs.declared.port.Port.{Ghosts as Port}

pub hears_next : {D P : Type 0} (port : Port P) (old mid new : ClusterState D P)
    (first second : Given) (e : declared.Event) → mid.division ≡ old.division
    → mid.weights ≡ old.weights → IsEventChosen port old mid first (event_view e)
    → HasHappened old mid (event_view e) → taken mid ≡ taken old ++ event_view e ∷ []
    → (r : Result (Option declared.Event) TurnFault)
    → IfOk r (λ o. IfSome o (λ f. IsEventChosen port mid new second (event_view f)))
    → IfOk r (λ o. IfNone o (IsChosen port mid new second None))
    → IfErr r (IsTurnFault port mid new second) → HearsNext port old new e r
hears_next port old mid new first second e division weights chosen happened kept r next none why =
    record {
      between = mid;
      goes_on = one_happened old mid division weights (event_view e) kept happened;
      sends = sends_known old mid e
          (event_steps old.sent chosen.chosen.0 chosen.chosen.1 (event_view e) chosen.event) happened;
      hears = λ k text s gave sent up.
          hears port mid new second k text s gave sent up r next none why;
    }
