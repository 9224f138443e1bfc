-- Places of a list.
use Rattle.std.proofs.Common.{◌≡◌, ◌≢◌, ◌<◌, ℕ, zero, suc, List, None, Some, replicate, slice_get, slice_set, refl, sym, ap, subst, ◌∙◌, arith, inl, inr}
use Rattle.std.proofs.lemmas.Bool.{cases_eq}
use Rattle.one_list.proofs.uses.HostedNodes.{set_elsewhere, set_there}

pub some_same : {X : Type 0} (x y : X) → Some x ≡ Some y → x ≡ y
some_same x y e = cc

-- What holds of the new element at one place, and of all others, holds of all.
pub all_there : {X : Type 0} (P : ℕ → X → Type 0) (old new : List X) (k : ℕ) (before after : X)
    → slice_get old k ≡ Some before → new ≡ slice_set old k after → P k after
    → ((j : ℕ) (x : X) → j ≢ k → slice_get old j ≡ Some x → P j x)
    → (j : ℕ) (x : X) → slice_get new j ≡ Some x → P j x
all_there P old new k before after stood set here others j x at = elim (cases_eq j k) [
  | inl same ↦
      let is : after ≡ x = some_same after x (sym (set_there old k before after stood)
      ∙ (ap (λ l. slice_get l k) (sym set) ∙ (ap (slice_get new) (sym same) ∙ at))) in
      subst (λ i. P i x) (sym same) (subst (P k) is here)
  | inr other ↦ others j x other
      (sym (set_elsewhere old k j after other) ∙ (ap (λ l. slice_get l j) (sym set) ∙ at))
]

-- each element of a list of equal ones is that one
pub one_alike : {X : Type 0} (n : ℕ) (x y : X) (k : ℕ) → slice_get (replicate n x) k ≡ Some y
    → (k < n) × (x ≡ y)
one_alike zero x y k at = absurd (let no : None ≡ Some y = at in cc)
one_alike (suc n) x y zero at = (omega arith, some_same x y at)
one_alike (suc n) x y (suc k) at =
    let rest = one_alike n x y k at in (omega (arith, rest.0), rest.1)

-- and there is one at each place
pub some_alike : {X : Type 0} (n : ℕ) (x : X) (k : ℕ) → k < n
    → slice_get (replicate n x) k ≡ Some x
some_alike zero x k within = absurd (omega (arith, within))
some_alike (suc n) x zero within = refl
some_alike (suc n) x (suc k) within = some_alike n x k (omega (arith, within))
