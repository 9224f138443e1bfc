-- Ascending lists.
use Rattle.std.proofs.Common.{◌≡◌, ◌≢◌, ◌<◌, ◌↔◌, inl, inr, ℕ, suc, List, [], ◌∷◌, refl, sym, ap, subst, ◌∙◌, arith, true≢false}
use Rattle.std.specs.Prelude.{AllPairs, Contains}
use Rattle.std.specs.Cmp.{IsTotalOrder, nat_cmp_is, tied_itself}
use Rattle.std.specs.List.Sorted.{IsStrictlyIncreasing}
use Rattle.std.specs.Ordering.{is_eq, nat_cmp}
use Rattle.std.specs.declared.cmp.Ordering.{Ordering}
use Rattle.std.specs.declared.cmp.Ordering.TheVariants.{Less}
use Rattle.std.proofs.lemmas.Cmp.{nat_cmp_total}
use Rattle.std.proofs.lemmas.List.Elements.{All-contains_itself}
use Rattle.std.proofs.lemmas.List.Kept.{AllPairs-cons, AllPairs-from_increasing}
use Rattle.faults.proofs.Members.{contains_first, contains_later, member_cases, no_members}

-- each element is below all that follow it
abbrev pub Rising : {X : Type 0} → (X → X → Ordering) → List X → Type 0
Rising R [] = Unit {0}
Rising {X} R (x ∷ xs) = ((y : X) → Contains xs y → R x y ≡ Less) × Rising R xs

module _ {X : Type 0} (R : X → X → Ordering) (total : IsTotalOrder R) where
  not_below_itself : (x : X) → R x x ≡ Less → ⊥
  not_below_itself x less = true≢false (sym (ap is_eq (tied_itself total x)) ∙ ap is_eq less)

  -- the elements of an ascending list differ
  pub differ : (xs : List X) → Rising R xs → AllPairs ◌≢◌ xs
  differ [] rising = λ i j d l m e. omega arith
  differ (x ∷ xs) rising =
      AllPairs-cons ◌≢◌ x xs
      (λ k d l same. not_below_itself x (subst (λ y. R x y ≡ Less) (sym same) (rising.0 _ (All-contains_itself xs k d l))))
      (differ xs rising.1)

  -- an element after the first is not the first of the other list
  in_tail : (x : X) (xs ys : List X) (y : X) → Rising R (x ∷ xs) → Contains xs y → Contains (x ∷ ys) y → Contains ys y
  in_tail x xs ys y rising mine other =
      elim (member_cases x y ys other) [
        | inl same ↦ absurd (not_below_itself x (subst (λ z. R x z ≡ Less) (sym same) (rising.0 y mine)))
        | inr later ↦ later
      ]

  -- the first of two lists with the same elements
  same_first : (x y : X) (xs ys : List X) → Rising R (x ∷ xs) → Rising R (y ∷ ys) → Contains (y ∷ ys) x → Contains (x ∷ xs) y → x ≡ y
  same_first x y xs ys mine other here there =
      elim (member_cases y x ys here) [
        | inl e ↦ sym e
        | inr below ↦ elim (member_cases x y xs there) [
          | inl e ↦ e
          | inr above ↦ absurd (not_below_itself x (total.trans x y x (mine.0 y above) (other.0 x below)))
        ]
      ]

  -- ascending lists with the same elements are equal
  pub same_members : (xs ys : List X) → Rising R xs → Rising R ys → ((x : X) → Contains xs x → Contains ys x) → ((x : X) → Contains ys x → Contains xs x) → xs ≡ ys
  same_members [] [] mine other there back = refl
  same_members [] (y ∷ ys) mine other there back = absurd (no_members y (back y (contains_first y ys)))
  same_members (x ∷ xs) [] mine other there back = absurd (no_members x (there x (contains_first x xs)))
  same_members (x ∷ xs) (y ∷ ys) mine other there back =
      let e = same_first x y xs ys mine other (there x (contains_first x xs)) (back y (contains_first y ys)) in
      let tails =
      same_members xs ys mine.1 other.1
      (λ z m. in_tail x xs ys z mine m (subst (λ w. Contains (w ∷ ys) z) (sym e) (there z (contains_later x z xs m))))
      (λ z m. in_tail y ys xs z other m (subst (λ w. Contains (w ∷ xs) z) e (back z (contains_later y z ys m)))) in
      λ i. e i ∷ tails i

-- a list in which each element is below all that follow it
pub rising_from_pairs : {X : Type 0} (R : X → X → Ordering) (xs : List X) → AllPairs (λ x y. R x y ≡ Less) xs → Rising R xs
rising_from_pairs R [] pairs = tt
rising_from_pairs R (x ∷ xs) pairs = (
  λ y (k, within, here). subst (λ z. R x z ≡ Less) here (pairs 0 (suc k) y (omega arith) (omega arith)),
  rising_from_pairs R xs (λ i j d l m. pairs (suc i) (suc j) d (omega arith) (omega arith)),
)

-- ---- numbers

rising_numbers : (xs : List ℕ) → AllPairs (λ x y. x < y) xs → Rising nat_cmp xs
rising_numbers [] pairs = tt
rising_numbers (x ∷ xs) pairs = (
  λ y (k, within, here). sym (nat_cmp_is x y Less (subst (λ n. x < n) here (pairs 0 (suc k) y (omega arith) (omega arith)))),
  rising_numbers xs (λ i j d l m. pairs (suc i) (suc j) d (omega arith) (omega arith)),
)

-- ascending lists with the same elements are equal
pub same_ascending : (xs ys : List ℕ) → IsStrictlyIncreasing xs → IsStrictlyIncreasing ys → ((p : ℕ) → Contains xs p ↔ Contains ys p) → xs ≡ ys
same_ascending xs ys hx hy same =
    same_members nat_cmp nat_cmp_total xs ys (rising_numbers xs (AllPairs-from_increasing xs hx)) (rising_numbers ys (AllPairs-from_increasing ys hy))
    (λ p. (same p).0) (λ p. (same p).1)
