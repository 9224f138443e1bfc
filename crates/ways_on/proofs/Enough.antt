-- Members are added one after another, until they are a majority with the last one.
use Rattle.std.proofs.Common.{◌≡◌, ◌<◌, ◌⊎◌, ℕ, zero, suc, Bool, true, false, ◌==◌, ◌+◌, ◌-◌, ◌*◌, List, [], ◌∷◌, ◌++◌, filter, length, refl, inl, inr, ⊎_elim, sym, ap, ◌∙◌, eqb-true, eq-eqb, arith, sum}
use Rattle.std.specs.List.{range_with_len}
use Rattle.std.proofs.lemmas.List.Elements.{filter-append}
use Rattle.std.proofs.lemmas.Bool.{cond_both, cond-true, cond-false, false_from_ne_true, le-ltb, or_cases, or_left, or_right, true≢false}
use Rattle.claims.specs.Quorums.{Members, is_majority, named_in, nobody, weight, with_member}
use Rattle.claims.proofs.Majorities.{majority_grows}
use Rattle.ways_on.specs.Asked.{is_majority_up}
use Rattle.ways_on.specs.inside.Listed.{asked_of, nodes_up, until_majority}
use Rattle.ways_on.proofs.Majority.{joined_by}
use Rattle.ways_on.proofs.Seen.{up_joined}
use Rattle.world.specs.Happening.{is_up}
use Rattle.world.specs.World.{World}

-- members that were in the set stay in it
pub stays_joined : (S : Members) (xs : List ℕ) (j : ℕ) → S j ≡ true → joined_by S xs j ≡ true
stays_joined S [] j there = there
stays_joined S (x ∷ xs) j there =
    stays_joined (with_member S x) xs j (or_right (j == x) (S j) there)

-- If the first of them are not a majority, but are one with the next member, that member is the
-- last.
pub until_stops : (weights : List ℕ) (S : Members) (xs : List ℕ) (k : ℕ) (ys : List ℕ)
    → is_majority weights (joined_by S xs) ≡ false
    → is_majority weights (with_member (joined_by S xs) k) ≡ true
    → until_majority weights S (xs ++ k ∷ ys) ≡ xs ++ k ∷ []
until_stops weights S [] k ys none all =
    ap (λ (l : List ℕ). k ∷ l) (cond-true (is_majority weights (with_member S k)) []
    (until_majority weights (with_member S k) ys) all)
until_stops weights S (x ∷ xs) k ys none all =
    let less : is_majority weights (with_member S x) ≡ false =
    false_from_ne_true (is_majority weights (with_member S x))
    (λ e. true≢false (sym (majority_grows weights (with_member S x) (joined_by (with_member S x) xs)
    (stays_joined (with_member S x) xs) e) ∙ none)) in
    ap (λ (l : List ℕ). x ∷ l) (cond-false (is_majority weights (with_member S x)) []
    (until_majority weights (with_member S x) (xs ++ k ∷ ys)) less
    ∙ until_stops weights (with_member S x) xs k ys none all)

-- joining members to the empty set gives the members that are named
same_test : (a b : Bool) → (a ≡ true → b ≡ true) → (b ≡ true → a ≡ true) → a ≡ b
same_test true b to from = sym (to refl)
same_test false true to from = from refl
same_test false false to from = refl

named_or : (S : Members) (xs : List ℕ) (j : ℕ) → joined_by S xs j ≡ true
    → (named_in xs j ≡ true) ⊎ (S j ≡ true)
named_or S [] j there = inr there
named_or S (x ∷ xs) j there = ⊎_elim
    (λ named. inl (or_right (x == j) (named_in xs j) named))
    (λ before. ⊎_elim
    (λ same. inl (or_left (x == j) (named_in xs j)
    (eq-eqb x j (sym (eqb-true j x same)))))
    (λ old. inr old)
    (or_cases (j == x) (S j) before))
    (named_or (with_member S x) xs j there)

joined_named : (S : Members) (xs : List ℕ) (j : ℕ) → named_in xs j ≡ true
    → joined_by S xs j ≡ true
joined_named S [] j there = absurd (true≢false (sym there))
joined_named S (x ∷ xs) j there = ⊎_elim
    (λ same. stays_joined (with_member S x) xs j (or_left (j == x) (S j)
    (eq-eqb j x (sym (eqb-true x j same)))))
    (λ named. joined_named (with_member S x) xs j named)
    (or_cases (x == j) (named_in xs j) there)

pub joined_are_named : (xs : List ℕ) → joined_by nobody xs ≡ named_in xs
joined_are_named xs = λ i j. same_test (joined_by nobody xs j) (named_in xs j)
    (λ there. ⊎_elim (λ named. named) (λ no. absurd (true≢false (sym no)))
    (named_or nobody xs j there))
    (joined_named nobody xs j) i

-- the empty set is not a majority
weighs_nothing : (weights : List ℕ) → weight weights nobody ≡ 0
weighs_nothing [] = refl
weighs_nothing (w ∷ ws) = omega (arith, weighs_nothing ws)

pub nobody_is_none : (weights : List ℕ) → is_majority weights nobody ≡ false
nobody_is_none weights =
    let nothing = weighs_nothing weights in
    le-ltb (sum weights) (2 * weight weights nobody) (omega (arith, nothing))

-- ---- in a world

-- one more member is joined
joined_push : (S : Members) (xs : List ℕ) (k : ℕ)
    → joined_by S (xs ++ k ∷ []) ≡ with_member (joined_by S xs) k
joined_push S [] k = refl
joined_push S (x ∷ xs) k = joined_push (with_member S x) xs k

-- a range, in two parts
range_parts : (a n m : ℕ)
    → range_with_len a (n + m) ≡ range_with_len a n ++ range_with_len (a + n) m
range_parts a zero m =
    ap (range_with_len a) (let e : 0 + m ≡ m = omega arith in e)
    ∙ ap (λ i. range_with_len i m) (let e : a ≡ a + 0 = omega arith in e)
range_parts a (suc n) m =
    ap (range_with_len a) (let e : suc n + m ≡ suc (n + m) = omega arith in e)
    ∙ ap (λ (l : List ℕ). a ∷ l) (range_parts (a + 1) n m
    ∙ ap (λ i. range_with_len (a + 1) n ++ range_with_len i m)
    (let e : a + 1 + n ≡ a + suc n = omega arith in e))

-- in a filtered range, the part after an element that passes
kept_behind : (P : ℕ → Bool) (n k : ℕ) → k < n → P k ≡ true
    → (ys : List ℕ) × (filter P (range_with_len 0 n)
    ≡ filter P (range_with_len 0 k) ++ k ∷ ys)
kept_behind P n k lt passes =
    let m = n - suc k in
    let parts : n ≡ k + suc m = omega (arith, lt) in
    let rest = filter P (range_with_len (k + 1) m) in (
      rest,
      ap (λ i. filter P (range_with_len 0 i)) parts
          ∙ ap (filter P) (range_parts 0 k (suc m))
          ∙ filter-append P (range_with_len 0 k) (range_with_len (0 + k) (suc m))
          ∙ ap (λ i. filter P (range_with_len 0 k) ++ filter P (range_with_len i (suc m)))
          (let e : 0 + k ≡ k = omega arith in e)
          ∙ ap (λ (l : List ℕ). filter P (range_with_len 0 k) ++ l)
          (cond-true (P k) (k ∷ rest) rest passes),
    )

-- elements of a filtered list pass the test
named_pass : (P : ℕ → Bool) (xs : List ℕ) (j : ℕ) → named_in (filter P xs) j ≡ true
    → P j ≡ true
named_pass P [] j there = absurd (true≢false (sym there))
named_pass P (x ∷ xs) j there =
    cond_both (P x) (x ∷ filter P xs) (filter P xs) (λ ys. named_in ys j ≡ true → P j ≡ true)
    (λ on named. ⊎_elim (λ same. sym (ap P (eqb-true x j same)) ∙ on) (named_pass P xs j)
    (or_cases (x == j) (named_in (filter P xs) j) named))
    (λ off. named_pass P xs j) there

named_last : (P : ℕ → Bool) (xs : List ℕ) (k j : ℕ) → ((i : ℕ) → named_in xs i ≡ true
    → P i ≡ true) → P k ≡ true → named_in (xs ++ k ∷ []) j ≡ true → P j ≡ true
named_last P [] k j those on there = ⊎_elim (λ same. sym (ap P (eqb-true k j same)) ∙ on)
    (λ no. absurd (true≢false (sym no))) (or_cases (k == j) false there)
named_last P (x ∷ xs) k j those on there = ⊎_elim
    (λ same. those j (or_left (x == j) (named_in xs j) same))
    (λ named. named_last P xs k j
    (λ i e. those i (or_right (x == i) (named_in xs i) e)) on named)
    (or_cases (x == j) (named_in (xs ++ k ∷ []) j) there)

module _ (w : World) where
  -- The nodes that are up, in order, up to the one that completes a majority, are those that are
  -- asked.
  pub asked_stops : (k : ℕ) (xs : List ℕ) → k < length w.nodes → is_up w k ≡ true
      → xs ≡ filter (is_up w) (range_with_len 0 k)
      → is_majority w.weights (named_in xs) ≡ false
      → is_majority w.weights (named_in (xs ++ k ∷ [])) ≡ true
      → (is_majority_up w ≡ true) × (xs ++ k ∷ [] ≡ asked_of w)
  asked_stops k xs lt up are none all =
      let behind = kept_behind (is_up w) (length w.nodes) k lt up in (
        majority_grows w.weights (named_in (xs ++ k ∷ [])) (is_up w)
            (λ j. named_last (is_up w) xs k j
            (λ i e. named_pass (is_up w) (range_with_len 0 k) i
            (sym (ap (λ (l : List ℕ). named_in l i) are) ∙ e)) up) all,
        sym (ap (until_majority w.weights nobody)
            (behind.1 ∙ ap (λ (l : List ℕ). l ++ k ∷ behind.0) (sym are))
            ∙ until_stops w.weights nobody xs k behind.0
            (ap (is_majority w.weights) (joined_are_named xs) ∙ none)
            (ap (is_majority w.weights) (sym (joined_push nobody xs k)
            ∙ joined_are_named (xs ++ k ∷ [])) ∙ all)),
      )

  -- If the nodes that are up are not a majority, no majority is up.
  pub none_up : (xs : List ℕ) → xs ≡ filter (is_up w) (range_with_len 0 (length w.nodes))
      → is_majority w.weights (named_in xs) ≡ false → is_majority_up w ≡ false
  none_up xs are none = false_from_ne_true (is_majority w.weights (is_up w))
      (λ e. true≢false (sym (majority_grows w.weights (is_up w) (named_in xs)
      (λ j on. ap (λ (l : List ℕ). named_in l j) are
      ∙ sym (ap (λ (S : Members). S j) (joined_are_named (nodes_up w))) ∙ up_joined w j on) e)
      ∙ none))
