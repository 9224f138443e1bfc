-- Weighted majorities share a member.
use Rattle.std.proofs.Common.{◌≡◌, ℕ, suc, ◌+◌, ◌≤◌, Bool, true, false, ◌⊎◌, inl, inr, ⊎_elim, arith, refl, ltb-true, lt-ltb, eqb-true, eq-eqb, List, [], ◌∷◌, sum, if◌then◌else◌, ◌*◌, ◌++◌, ◌||◌, ◌==◌, ltb, length, replicate, count_by, ap, ap₂, sym, ◌∙◌, mul-one}
use Rattle.std.proofs.lemmas.Bool.{cases_Bool, eqb-false, ne_eqb}
use Rattle.std.proofs.lemmas.List.Sums.{sum_by-cons}
use Rattle.std.proofs.lemmas.List.Folds.{sum_by-replicate}
use Rattle.claims.specs.Quorums.{Members, flagged_in, named_in, with_member, weight, is_majority, AreQuorums}

-- two sets share a member, or together weigh no more than all members
pub share_or_small : (ws : List ℕ) (S R : Members)
    → ((k : ℕ) × (S k ≡ true) × (R k ≡ true)) ⊎ (weight ws S + weight ws R ≤ sum ws)
share_or_small [] S R = inr (omega arith)
share_or_small (w ∷ ws) S R =
    ⊎_elim (λ h. inl (suc h.0, h.1, h.2)) (λ h. here (S 0) (R 0) refl refl h (sum_by-cons (λ x. x) w ws)) (share_or_small ws (λ k. S (suc k)) (λ k. R (suc k)))
  where
    here : (s r : Bool) → S 0 ≡ s → R 0 ≡ r → (weight ws (λ k. S (suc k)) + weight ws (λ k. R (suc k)) ≤ sum ws)
        → sum (w ∷ ws) ≡ w + sum ws
        → ((k : ℕ) × (S k ≡ true) × (R k ≡ true)) ⊎ (((if S 0 then w else 0) + weight ws (λ k. S (suc k))) + ((if R 0 then w else 0) + weight ws (λ k. R (suc k))) ≤ sum (w ∷ ws))
    here true true e f h t = inl (0, e, f)
    here true false e f h t = inr (rw (e, f) (omega arith))
    here false true e f h t = inr (rw (e, f) (omega arith))
    here false false e f h t = inr (rw (e, f) (omega arith))

-- two sets that each weigh more than half share a member
pub majorities_share : (ws : List ℕ) (S R : Members) → is_majority ws S ≡ true → is_majority ws R ≡ true
    → (k : ℕ) × (S k ≡ true) × (R k ≡ true)
majorities_share ws S R s r =
    ⊎_elim (λ h. h) (λ h. absurd (omega (arith, ltb-true _ _ s, ltb-true _ _ r))) (share_or_small ws S R)

-- a superset weighs no less
pub weight_more : (ws : List ℕ) (S R : Members) → ((k : ℕ) → S k ≡ true → R k ≡ true) → weight ws S ≤ weight ws R
weight_more [] S R h = omega arith
weight_more (w ∷ ws) S R h = here (S 0) (R 0) refl refl (weight_more ws (λ k. S (suc k)) (λ k. R (suc k)) (λ k. h (suc k)))
  where
    here : (s r : Bool) → S 0 ≡ s → R 0 ≡ r → weight ws (λ k. S (suc k)) ≤ weight ws (λ k. R (suc k))
        → (if S 0 then w else 0) + weight ws (λ k. S (suc k)) ≤ (if R 0 then w else 0) + weight ws (λ k. R (suc k))
    here true true e f l = rw (e, f) (omega arith)
    here true false e f l = absurd (cc (h 0 e))
    here false true e f l = rw (e, f) (omega arith)
    here false false e f l = rw (e, f) (omega arith)

-- a superset of a majority is a majority
pub majority_grows : (ws : List ℕ) (S R : Members) → ((k : ℕ) → S k ≡ true → R k ≡ true) → is_majority ws S ≡ true
    → is_majority ws R ≡ true
majority_grows ws S R h s = let m = weight_more ws S R h in lt-ltb _ _ (omega (arith, ltb-true _ _ s))

-- weighted majorities are quorums
pub majorities : (ws : List ℕ) → AreQuorums (is_majority ws)
majorities ws = record { meet = majorities_share ws; grow = majority_grows ws }

-- if each member weighs 1, the weight of a set is its number of members
weight-ones : (flags : List Bool)
    → weight (replicate (length flags) 1) (flagged_in flags) ≡ count_by (λ flag. flag) flags
weight-ones [] = refl
weight-ones (b ∷ bs) = ap (λ n. (if b then 1 else 0) + n) (weight-ones bs) ∙ sym (sum_by-cons (λ b. if b then 1 else 0) b bs)

-- a majority of members with equal weights has more than half of the members
pub majority_counted : (flags : List Bool)
    → is_majority (replicate (length flags) 1) (flagged_in flags) ≡ ltb (length flags) (2 * count_by (λ flag. flag) flags)
majority_counted flags = ap₂ (λ a b. ltb a (2 * b)) (sum_by-replicate (λ x. x) (length flags) 1 ∙ mul-one (length flags)) (weight-ones flags)

-- equality of numbers is symmetric
same_either_way : (a b : ℕ) → (a == b) ≡ (b == a)
same_either_way a b =
    elim (cases_Bool (a == b)) [
      | inl same ↦ same ∙ sym (eq-eqb b a (sym (eqb-true a b same)))
      | inr other ↦ other ∙ sym (ne_eqb b a (λ e. eqb-false a b other (sym e)))
    ]

-- adding a member to a list adds it to the set that the list names
pub named_more : (members : List ℕ) (m k : ℕ) → named_in (members ++ m ∷ []) k ≡ with_member (named_in members) m k
named_more [] m k = ap (λ b. b || false) (same_either_way m k)
named_more (x ∷ xs) m k = ap (λ b. x == k || b) (named_more xs m k) ∙ or_swap (x == k) (k == m) (named_in xs k)
  where
    or_swap : (a b c : Bool) → (a || (b || c)) ≡ (b || (a || c))
    or_swap true true c = refl
    or_swap true false c = refl
    or_swap false b c = refl
