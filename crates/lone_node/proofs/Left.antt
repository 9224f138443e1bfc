-- The log after a turn that was refused before its step was taken.
use Rattle.std.proofs.Common.{◌≡◌, refl, sym, ap, subst, ◌∙◌}
use Rattle.turn_rules.specs.declared.fault.TurnFault.{TurnFault}
use Rattle.turn_rules.specs.declared.fault.TurnFault.TheVariants as refused
use Rattle.node.specs.Calls.{left_by}
use Rattle.node.specs.OnLog.{IsOnLog, identity_of, texts_of}
use Rattle.node.specs.State.{LoggedNode, NodeState}
use Rattle.node.specs.Step.{Asked}
use Rattle.node.specs.declared.fault.NodeFault.{NodeFault}
use Rattle.node.specs.declared.fault.NodeFault.TheVariants as fault
use Rattle.lone_node.specs.Handed.{Handed}
use Rattle.lone_node.specs.Faults.{IsTurnFault}
use Rattle.lone_node.specs.State.{SoloState}
use Rattle.stable_record.specs.History.{History}
use Rattle.stable_record.specs.OpenLog.{Holds}
use Rattle.stable_record.specs.declared.log_fault.LogFault.TheVariants as log
use Rattle.datagram_ports.specs.declared.port.Port.{Ghosts as Port}

-- Both nodes have the same member and notes.
pub record IsAlike (n m : NodeState) : Type 0 where
  pub member : m.member ≡ n.member
  pub notes : m.notes ≡ n.notes

same_is : (n m : NodeState) → m ≡ n → IsAlike n m
same_is n m e = record {
  member = ap (λ (x : NodeState). x.member) e;
  notes = ap (λ (x : NodeState). x.notes) e;
}

-- a refusal leaves a node with the same member and notes
left_is : (n : NodeState) (asked : Asked) (f : NodeFault) → IsAlike n (left_by n asked f)
left_is n asked fault.Memory = record { member = refl; notes = refl }
left_is n asked (fault.Refused r) = record { member = refl; notes = refl }
left_is n asked (fault.Log log.Device) = record { member = refl; notes = refl }
left_is n asked (fault.Log log.Full) = record { member = refl; notes = refl }
left_is n asked (fault.Log log.Memory) = record { member = refl; notes = refl }
left_is n asked (fault.Log log.MustReopen) = record { member = refl; notes = refl }
left_is n asked (fault.Log log.NotALog) = record { member = refl; notes = refl }
left_is n asked (fault.Log log.OtherCluster) = record { member = refl; notes = refl }
left_is n asked fault.Stopped = record { member = refl; notes = refl }
left_is n asked (fault.Foreign f) = record { member = refl; notes = refl }

module _ {D P : Type 0} (port : Port P) (old new : SoloState D P) (handed : Handed) where
  pub alike : (f : TurnFault) → IsTurnFault port old new handed (λ asked. ⊥) f
      → IsAlike old.node.node new.node.node
  alike refused.Memory (asked, is_chosen, same) = same_is old.node.node new.node.node same
  alike (refused.Node f) (asked, is_chosen, r) =
      subst (IsAlike old.node.node) (sym r.leaves) (left_is old.node.node asked f)
  alike (refused.Down k) (asked, is_chosen, me, tried, down, left) = absurd left
  alike refused.NotSent none = absurd none
  alike refused.NotFresh none = absurd none

-- a node that was on its log still is if the log, the member and the notes are the same
pub on_log_still : {D : Type 0} (history : D → History) (old new : LoggedNode D)
    → new.log ≡ old.log → IsAlike old.node new.node → IsOnLog history old → IsOnLog history new
on_log_still history old new same is on = record {
  owner = ap (λ l. l.identity) same ∙ (on.owner ∙ ap identity_of (sym is.member));
  holds = subst (λ l. Holds history l (texts_of new.node.notes)) (sym same)
      (subst (λ notes. Holds history old.log (texts_of notes)) (sym is.notes) on.holds);
}
