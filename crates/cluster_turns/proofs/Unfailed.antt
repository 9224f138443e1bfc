-- By node, the position below which all units of queued packages failed.
use Rattle.std.proofs.Common.{◌≡◌, ◌<◌, ℕ, zero, suc, Bool, true, false, List, [], ◌∷◌, Option, Some, get_or, length, replicate, slice_get, slice_set, if◌then◌else◌, refl, sym, ap, subst, ◌∙◌, inl, inr}
use Rattle.std.proofs.lemmas.Bool.{cases_eq}
use Rattle.std.proofs.lemmas.List.{get_or-set_other}
use Rattle.std.specs.Prelude.{◌⊎◌, slice_index_or}
use Rattle.turn_rules.specs.Pending.{Pending}
use Rattle.cluster_turns.proofs.Places.{stands_at}
use Rattle.cluster_turns.specs.Unfailed.{EachFailedBelow}
use Rattle.node.specs.State.{LoggedNode}
use Rattle.turn_rules.proofs.FailedBelow.{none_below}
use Rattle.turn_rules.specs.Unfailed.{AllFailedBelow}
use Rattle.protocol.specs.State.{State}

-- an element that was written is read, or 0 if it is beyond the end
read_there : (xs : List ℕ) (k x : ℕ)
    → (get_or (slice_set xs k x) k 0 ≡ x) ⊎ (get_or (slice_set xs k x) k 0 ≡ 0)
read_there [] k x = inr refl
read_there (y ∷ ys) zero x = inl refl
read_there (y ∷ ys) (suc k) x = read_there ys k x

-- so what holds of the position that was written holds of the one that is read
pub below_there : (s : State) (p : Pending) (xs : List ℕ) (k x : ℕ) → AllFailedBelow s p x
    → AllFailedBelow s p (get_or (slice_set xs k x) k 0)
below_there s p xs k x below = by (read_there xs k x)
  where
    by : (get_or (slice_set xs k x) k 0 ≡ x) ⊎ (get_or (slice_set xs k x) k 0 ≡ 0)
        → AllFailedBelow s p (get_or (slice_set xs k x) k 0)
    by (inl same) = subst (AllFailedBelow s p) (sym same) below
    by (inr first) = subst (AllFailedBelow s p) (sym first) (none_below s p)

module _ {D : Type 0} (nodes : List (LoggedNode D)) (p : Pending) where
  -- one node's position changes
  pub moved_at : (unfailed : List ℕ) (k x : ℕ) → EachFailedBelow nodes p unfailed
      → ((n : LoggedNode D) → slice_get nodes k ≡ Some n → AllFailedBelow n.node.member p x)
      → EachFailedBelow nodes p (slice_set unfailed k x)
  moved_at unfailed k x each here j n at = elim (cases_eq j k) [
    | inl same ↦
        subst (λ i. AllFailedBelow n.node.member p (get_or (slice_set unfailed k x) i 0)) (sym same)
        (below_there n.node.member p unfailed k x (here n (ap (slice_get nodes) (sym same) ∙ at)))
    | inr other ↦
        subst (AllFailedBelow n.node.member p) (sym (get_or-set_other unfailed k j x 0 other))
        (each j n at)
  ]

  -- it holds of a position at a borrowed node
  pub at_lent : (k : ℕ) (n : LoggedNode D) (s : State) (x : ℕ) → k < length nodes
      → n ≡ slice_index_or nodes k n → s ≡ n.node.member → AllFailedBelow s p x
      → (m : LoggedNode D) → slice_get nodes k ≡ Some m → AllFailedBelow m.node.member p x
  at_lent k n s x within value member below m at =
      let known : ◌≡◌ {A = Option (LoggedNode D)} (Some n) (Some m) =
      sym (stands_at nodes k n value within) ∙ at in
      let same : n ≡ m = cc in
      subst (λ (y : LoggedNode D). AllFailedBelow y.node.member p x) same
      (subst (λ t. AllFailedBelow t p x) member below)

-- ---- at the start

zeros : (first count k : ℕ) → first ≡ 0 → get_or (replicate count first) k 0 ≡ first
zeros first zero k is = sym is
zeros first (suc count) zero is = refl
zeros first (suc count) (suc k) is = zeros first count k is

-- there is nothing below position 0
pub none_yet : {D : Type 0} (nodes : List (LoggedNode D)) (p : Pending) (count : ℕ)
    → EachFailedBelow nodes p (replicate count 0)
none_yet nodes p count k n at =
    subst (AllFailedBelow n.node.member p) (sym (zeros 0 count k refl)) (none_below n.node.member p)

-- so it always holds of position 0
pub lowered_below : (s : State) (p : Pending) (b : Bool) (from to : ℕ)
    → to ≡ (if b then 0 else from) → AllFailedBelow s p from → AllFailedBelow s p to
lowered_below s p b from to is below = subst (AllFailedBelow s p) (sym is) (by b)
  where
    by : (b : Bool) → AllFailedBelow s p (if b then 0 else from)
    by true = none_below s p
    by false = below
