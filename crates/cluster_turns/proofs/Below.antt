-- Below its position, each node's only queued packages are those whose units failed. This still
-- holds after a step was taken, or was not.
use Rattle.std.proofs.Common.{◌≡◌, ℕ, Bool, List, Some, get_or, slice_get, slice_set, if◌then◌else◌, refl, sym, ap, subst, ◌∙◌, inl, inr}
use Rattle.std.proofs.lemmas.Bool.{cases_eq}
use Rattle.std.proofs.lemmas.List.{get_or-set_other}
use Rattle.turn_rules.specs.Pending.{Pending, kept_after}
use Rattle.cluster_turns.proofs.Unfailed.{below_there, lowered_below, moved_at}
use Rattle.cluster_turns.specs.Unfailed.{EachFailedBelow}
use Rattle.node.specs.State.{LoggedNode, NodeState}
use Rattle.node.specs.Step.{Asked, ReadyStep, after, taken_by}
use Rattle.node.specs.declared.fault.NodeFault.{NodeFault}
use Rattle.node.specs.declared.fault.NodeFault.TheVariants as fault
use Rattle.turn_rules.proofs.FailedBelow.{kept_below}
use Rattle.turn_rules.specs.Unfailed.{AllFailedBelow}
use Rattle.protocol.specs.State.{State}
use Rattle.stable_record.specs.declared.log_fault.LogFault.TheVariants as log
use Rattle.cluster_turns.proofs.Still.{at_place, off_place}
use Rattle.cluster_turns.specs.inside.Turning.{HasNotTaken}
use Rattle.stable_record.specs.declared.disk.Disk.{Ghosts as Disk}

-- if a step was not taken, the member is unchanged
pub member_stays : {D : Type 0} (disk : Disk D)
    (old new : LoggedNode D) (ready : ReadyStep) (f : NodeFault)
    → HasNotTaken disk old new ready f → new.node.member ≡ old.node.member
member_stays disk old new ready fault.Memory t =
    ap (λ (x : NodeState). x.member) t.state
member_stays disk old new ready (fault.Refused r) t = absurd t
member_stays disk old new ready (fault.Log log.Full) t =
    ap (λ (x : NodeState). x.member) t.1.state
member_stays disk old new ready (fault.Log log.Device) t =
    ap (λ (x : NodeState). x.member) t.state
member_stays disk old new ready (fault.Log log.Memory) t = absurd t
member_stays disk old new ready (fault.Log log.MustReopen) t = absurd t
member_stays disk old new ready (fault.Log log.NotALog) t = absurd t
member_stays disk old new ready (fault.Log log.OtherCluster) t = absurd t
member_stays disk old new ready fault.Stopped t = absurd t
member_stays disk old new ready (fault.Foreign g) t = absurd t

module _ {D : Type 0} (nodes : List (LoggedNode D)) (p : Pending) (unfailed : List ℕ)
    (each : EachFailedBelow nodes p unfailed) (k : ℕ) (n : LoggedNode D)
    (stands : slice_get nodes k ≡ Some n) where
  -- one node changes, and at least the same units have failed in the updated state
  module _ (later : LoggedNode D) (q : Pending)
      (keeps : (s : State) (from : ℕ) → AllFailedBelow s p from → AllFailedBelow s q from)
      (x : ℕ) (below : AllFailedBelow later.node.member q x) where
    set_each : EachFailedBelow (slice_set nodes k later) q (slice_set unfailed k x)
    set_each j m at = elim (cases_eq j k) [
      | inl same ↦
          let last : later ≡ m = at_place nodes (slice_set nodes k later) k n later m stands refl
          (ap (slice_get (slice_set nodes k later)) (sym same) ∙ at) in
          subst (λ (y : LoggedNode D). AllFailedBelow y.node.member q
          (get_or (slice_set unfailed k x) j 0)) last
          (subst (λ i. AllFailedBelow later.node.member q (get_or (slice_set unfailed k x) i 0))
          (sym same) (below_there later.node.member q unfailed k x below))
      | inr other ↦
          subst (AllFailedBelow m.node.member q) (sym (get_or-set_other unfailed k j x 0 other))
          (keeps m.node.member (get_or unfailed j 0)
          (each j m (off_place nodes (slice_set nodes k later) k j later m other refl at)))
    ]

  -- it took its step
  pub taken_each : (later : LoggedNode D) (ready : ReadyStep) (q : Pending) (asked : Asked) (x : ℕ)
      → later.node ≡ after n.node (taken_by n.node ready)
      → q ≡ kept_after p k n.node.member asked
      → AllFailedBelow (after n.node (taken_by n.node ready)).member p x
      → EachFailedBelow (slice_set nodes k later) q (slice_set unfailed k x)
  taken_each later ready q asked x state kept below =
      set_each later q so x
      (so later.node.member x
      (subst (λ (y : NodeState). AllFailedBelow y.member p x) (sym state) below))
    where
      so : (s : State) (from : ℕ) → AllFailedBelow s p from → AllFailedBelow s q from
      so s from failed = subst (λ r. AllFailedBelow s r from) (sym kept)
          (kept_below s p k n.node.member asked from failed)

  -- or it did not, and the rest was restored
  pub not_taken_each : (later : LoggedNode D) (q : Pending) (b : Bool) (x : ℕ)
      → later.node.member ≡ n.node.member → q ≡ p
      → x ≡ (if b then 0 else get_or unfailed k 0)
      → EachFailedBelow (slice_set nodes k later) q (slice_set unfailed k x)
  not_taken_each later q b x member back is =
      set_each later q so x
      (so later.node.member x (subst (λ s. AllFailedBelow s p x) (sym member)
      (lowered_below n.node.member p b (get_or unfailed k 0) x is (each k n stands))))
    where
      so : (s : State) (from : ℕ) → AllFailedBelow s p from → AllFailedBelow s q from
      so s from failed = subst (λ r. AllFailedBelow s r from) (sym back) failed

  -- or no step was begun
  pub lowered_each : (q : Pending) (b : Bool) (x : ℕ) → q ≡ p
      → x ≡ (if b then 0 else get_or unfailed k 0)
      → EachFailedBelow nodes q (slice_set unfailed k x)
  lowered_each q b x back is =
      subst (λ r. EachFailedBelow nodes r (slice_set unfailed k x)) (sym back)
      (moved_at nodes p unfailed k x each (λ m at.
      lowered_below m.node.member p b (get_or unfailed k 0) x is (each k m at)))
