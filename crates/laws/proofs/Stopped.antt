-- A turn of a stopped node does nothing.
use Rattle.std.proofs.Common.{◌≡◌, ◌∙◌, ⊎_elim, true, [], None, Some, Result, Ok, Err, ap, refl, if◌then◌else◌}
use Rattle.turn_rules.specs.declared.fault.TurnFault.{TurnFault}
use Rattle.turn_rules.specs.declared.fault.TurnFault.TheVariants as refused
use Rattle.laws.specs.OnHosts.{HasOnlyAsked}
use Rattle.node.specs.Calls.{left_by}
use Rattle.node.specs.State.{NodeState}
use Rattle.node.specs.Step.{Asked, Taken, Takes, running_step}
use Rattle.node.specs.declared.fault.NodeFault.{NodeFault}
use Rattle.node.specs.declared.fault.NodeFault.TheVariants as fault
use Rattle.lone_node.specs.Faults.{IsTurnFault}
use Rattle.lone_node.specs.Handed.{Handed}
use Rattle.lone_node.specs.State.{SoloState, me_of}
use Rattle.lone_node.specs.Turn.{LeavesAtMost}
use Rattle.lone_node.specs.Turns.{IsTurn, Outcome}
use Rattle.stable_record.specs.declared.disk.Disk.{Ghosts as Disk}
use Rattle.datagram_ports.specs.declared.port.Port.{Ghosts as Port}

-- a stopped node answers that it is stopped, whatever it is asked
says_stopped : (n : NodeState) (asked : Asked) (r : Result Taken NodeFault) → n.stopped ≡ true
    → Takes n asked r → r ≡ Err fault.Stopped
says_stopped n asked r down takes =
    takes.right_is
    ∙ ap (λ b. if b then Err fault.Stopped else running_step n.member n.pieces takes.letter asked) down

-- so it takes no step
pub no_step : (n : NodeState) (asked : Asked) (t : Taken) → n.stopped ≡ true → Takes n asked (Ok t) → ⊥
no_step n asked t down takes = absurd (let e : Ok t ≡ Err fault.Stopped = says_stopped n asked (Ok t) down takes in cc)

stays_so : (n : NodeState) (asked : Asked) (f : NodeFault) → n.stopped ≡ true → Takes n asked (Err f) → left_by n asked f ≡ n
stays_so n asked f down takes =
    let is : f ≡ fault.Stopped = let e : Err f ≡ Err fault.Stopped = says_stopped n asked (Err f) down takes in cc in
    ap (left_by n asked) is

module _ {D P : Type 0} (disk : Disk D)
    (port : Port P) where
  pub stopped_stays : (handed : Handed) (old new : SoloState D P) (answer : Outcome)
      → old.node.node.stopped ≡ true
      → IsTurn disk port handed old new answer
      → HasOnlyAsked port handed old new answer
  stopped_stays handed old new (Ok (Some act)) down turn =
      absurd (no_step old.node.node _ turn.done.taken.taken down turn.done.taken.takes)
  stopped_stays handed old new (Ok None) down turn = record {
    nothing = refl;
    node = ap (λ n. n.node) turn.done.same.0;
    asked = (None, turn.done.nothing);
  }
  stopped_stays handed old new (Err f) down turn = by f turn.refuses.refused
    where
      by : (f : TurnFault) → IsTurnFault port old new handed (LeavesAtMost disk old new) f
          → HasOnlyAsked port handed old new (Err f)
      by refused.Memory (asked, is_chosen, same) = record {
        nothing = tt;
        node = same;
        asked = (Some (me_of old, asked), is_chosen);
      }
      by (refused.Node f) (asked, is_chosen, r) = record {
        nothing = tt;
        node = ⊎_elim
            (λ takes. r.leaves ∙ stays_so old.node.node asked f down takes)
            (λ full. absurd (no_step old.node.node asked full.1.step down full.1.takes))
            r.cause;
        asked = (Some (me_of old, asked), is_chosen);
      }
      by (refused.Down k) (asked, is_chosen, me, tried, gone, left) =
          absurd (no_step old.node.node asked tried.step down tried.takes)
      by refused.NotSent none = absurd none
      by refused.NotFresh none = absurd none
