-- Below a position the only queued packages are those whose units failed.
use Rattle.std.proofs.Common.{◌≡◌, ℕ, Bool, true, false, Option, if◌then◌else◌, sym, ap, subst}
use Rattle.ballots.specs.declared.message.Note.{Note}
use Rattle.turn_rules.specs.Pending.{Pending, kept_after}
use Rattle.turn_rules.specs.declared.fault.TurnFault.{TurnFault}
use Rattle.turn_rules.specs.declared.fault.TurnFault.TheVariants as refused
use Rattle.node.specs.State.{LoggedNode, NodeState}
use Rattle.node.specs.Step.{Asked}
use Rattle.turn_rules.proofs.FailedBelow.{kept_below, none_below}
use Rattle.turn_rules.specs.Unfailed.{AllFailedBelow}
use Rattle.protocol.specs.State.{State, Value}
use Rattle.lone_node.specs.inside.Turning.{IsTakingFault}

-- this holds of an equal member and an equal state between turns
pub still_below : (s t : State) (p q : Pending) (from : ℕ) → t ≡ s → q ≡ p
    → AllFailedBelow s p from → AllFailedBelow t q from
still_below s t p q from member pending below =
    subst (λ x. AllFailedBelow x q from) (sym member)
    (subst (λ r. AllFailedBelow s r from) (sym pending) below)

-- equal nodes have equal members
pub same_member : {D : Type 0} (n m : LoggedNode D) → m ≡ n → m.node.member ≡ n.node.member
same_member {D} n m same = ap (λ (x : LoggedNode D). x.node.member) same

-- it always holds of position 0
pub lowered_below : (s : State) (p : Pending) (b : Bool) (from to : ℕ)
    → to ≡ (if b then 0 else from) → AllFailedBelow s p from → AllFailedBelow s p to
lowered_below s p b from to is below = subst (AllFailedBelow s p) (sym is) (by b)
  where
    by : (b : Bool) → AllFailedBelow s p (if b then 0 else from)
    by true = none_below s p
    by false = below

-- if a step was not taken, the member is unchanged
pub member_stays : {D : Type 0} (n m : LoggedNode D) (noted : Option (Note Value)) (f : TurnFault)
    → IsTakingFault n m noted f → m.node.member ≡ n.node.member
member_stays n m noted refused.Memory same = ap (λ (x : NodeState). x.member) same
member_stays n m noted (refused.Node f) (full, lacks, same) =
    ap (λ (x : NodeState). x.member) same
member_stays n m noted (refused.Down k) (me, room, stops) =
    ap (λ (x : NodeState). x.member) stops
member_stays n m noted refused.NotSent none = absurd none
member_stays n m noted refused.NotFresh none = absurd none

-- if a step was taken, it holds of what that leaves
pub then_below : (m t : NodeState) (p q : Pending) (k : ℕ) (s : State) (asked : Asked) (to : ℕ)
    → q ≡ kept_after p k s asked → AllFailedBelow m.member p to → t ≡ m
    → AllFailedBelow t.member q to
then_below m t p q k s asked to kept below same =
    still_below m.member t.member (kept_after p k s asked) q to
    (ap (λ (x : NodeState). x.member) same) kept (kept_below m.member p k s asked to below)
