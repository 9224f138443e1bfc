-- Marks and the list of the marked positions grow together.
use Rattle.std.proofs.Common.{◌≡◌, ◌+◌, ◌<◌, ◌≤◌, ◌⊎◌, ℕ, suc, Bool, true, false, cond, List, [], ◌∷◌, ◌++◌, length, set, get_or, All, Contains, count_by, refl, sym, ap, ◌∙◌, subst, inl, inr, ⊎_elim, arith}
use borrow.Author.Count.{below_more}
use Rattle.std.proofs.lemmas.Bool.{both_ways, cases_eq, eq-eqb, ne_eqb}
use Rattle.std.proofs.lemmas.List.{get_or_append_left, get_or-set_same, get_or-set_other, length-set, length_push}
use Rattle.std.proofs.lemmas.List.Elements.{All-contains, Contains-get_or}
use Rattle.std.proofs.lemmas.List.Sums.{count_by-le-length, sum_by-set}
use Rattle.graph.specs.Lists.{one_if, times}
use Rattle.graph.specs.Marks.{has_mark}
use Rattle.graph.specs.Reach.{AreReachedFrom, IsClosed, IsReachedFrom}
use Rattle.graph.specs.shared.Walks.{AreFound, LeadsTo}
use Rattle.graph.proofs.Lists.{contained-times, get_or-same, times-contained, times-push}
use Rattle.graph.proofs.Marked.{marked_after, marked_before}

one_more_marked : (marks : List Bool) (p : ℕ) → p < length marks → has_mark marks p ≡ false → count_by (λ m. m) (set marks p true) ≡ count_by (λ m. m) marks + 1
one_more_marked marks p within unmarked =
    let e = sum_by-set (λ (m : Bool). cond m 1 0) marks p true false within in
    omega (arith, rw unmarked at e)

none_marked : (marks : List Bool) → ((p : ℕ) → has_mark marks p ≡ false) → count_by (λ m. m) marks ≡ 0
none_marked [] unmarked = refl
none_marked (m ∷ ms) unmarked = rw (unmarked 0) (none_marked ms (λ p. unmarked (suc p)))

-- ---- the found ones

module _ {marks : List Bool} {found : List ℕ} (are : AreFound marks found) where
  pub found-marked : (p : ℕ) → Contains found p → has_mark marks p ≡ true
  found-marked p in_found = go (has_mark marks p) (are.once p)
    where
      go : (b : Bool) → times p found ≡ one_if b → b ≡ true
      go true e = refl
      go false e = absurd (omega (arith, e, times-contained p found in_found))

  pub marked-found : (p : ℕ) → has_mark marks p ≡ true → Contains found p
  marked-found p marked = contained-times p found (omega (arith, are.once p, ap one_if marked))

  pub found-room : (p : ℕ) → p < length marks → has_mark marks p ≡ false → length found < length marks
  found-room p within unmarked =
      omega (arith, are.as_many, one_more_marked marks p within unmarked, count_by-le-length (λ m. m) (set marks p true), length-set marks p true)

  pub AreFound-more : (p : ℕ) → p < length marks → has_mark marks p ≡ false → AreFound (set marks p true) (found ++ p ∷ [])
  AreFound-more p within unmarked = record {
    once = λ q. times-push q p found ∙ elim (cases_eq q p) [
      | inl same ↦ ap (λ b. times q found + one_if b) (eq-eqb p q (sym same))
          ∙ (let none : times q found ≡ 0 = are.once q ∙ ap (λ n. one_if (has_mark marks n)) same ∙ ap one_if unmarked in
          let one : one_if (has_mark (set marks p true) q) ≡ 1 = ap (λ n. one_if (has_mark (set marks p true) n)) same ∙ ap one_if (get_or-set_same marks p true false within) in
          omega (arith, none, one))
      | inr other ↦ ap (λ b. times q found + one_if b) (ne_eqb p q (λ e. other (sym e)))
          ∙ (let there : one_if (has_mark (set marks p true) q) ≡ one_if (has_mark marks q) = ap one_if (get_or-set_other marks p q true false other) in
          omega (arith, there, are.once q))
    ];
    as_many = omega (arith, are.as_many, one_more_marked marks p within unmarked, length_push found p);
  }

pub AreFound-none : (marks : List Bool) → ((p : ℕ) → has_mark marks p ≡ false) → AreFound marks []
AreFound-none marks unmarked = record {
  once = λ p. sym (ap one_if (unmarked p));
  as_many = none_marked marks unmarked;
}

-- ---- some positions are found

-- the invariant after n of the positions were examined
pub record IsFinding (marks_before : List Bool) (found_before : List ℕ) (marks : List Bool) (found positions : List ℕ) (n : ℕ) : Type 0 where
  pub are_found : AreFound marks found
  pub each : length marks ≡ length marks_before
  pub all : (k : ℕ) → k < n → has_mark marks (get_or positions k 0) ≡ true
  pub kept : (p : ℕ) → has_mark marks_before p ≡ true → has_mark marks p ≡ true
  pub only : (p : ℕ) → has_mark marks p ≡ true → (has_mark marks_before p ≡ true) ⊎ Contains positions p
  pub longer : length found_before ≤ length found
  pub order : (k : ℕ) → k < length found_before → get_or found k 0 ≡ get_or found_before k 0

pub IsFinding-start : (marks : List Bool) (found positions : List ℕ) → AreFound marks found → IsFinding marks found marks found positions 0
IsFinding-start marks found positions are = record {
  are_found = are;
  each = refl;
  all = λ k below. absurd (omega arith);
  kept = λ p marked. marked;
  only = λ p marked. inl marked;
  longer = omega arith;
  order = λ k within. refl;
}

module _ {marks_before : List Bool} {found_before : List ℕ} {marks : List Bool} {found positions : List ℕ} {n : ℕ}
    (before : IsFinding marks_before found_before marks found positions n) where
  pub IsFinding-keeps : has_mark marks (get_or positions n 0) ≡ true → IsFinding marks_before found_before marks found positions (n + 1)
  IsFinding-keeps here = record {
    are_found = before.are_found;
    each = before.each;
    all = below_more (λ k. has_mark marks (get_or positions k 0) ≡ true) n before.all here;
    kept = before.kept;
    only = before.only;
    longer = before.longer;
    order = before.order;
  }

  pub IsFinding-finds : (p : ℕ) → n < length positions → get_or positions n 0 ≡ p → p < length marks → has_mark marks p ≡ false
      → IsFinding marks_before found_before (set marks p true) (found ++ p ∷ []) positions (n + 1)
  IsFinding-finds p listed is within unmarked = record {
    are_found = AreFound-more before.are_found p within unmarked;
    each = length-set marks p true ∙ before.each;
    all = below_more (λ k. has_mark (set marks p true) (get_or positions k 0) ≡ true) n
        (λ k below. marked_after marks p (get_or positions k 0) (before.all k below))
        (ap (has_mark (set marks p true)) is ∙ get_or-set_same marks p true false within);
    kept = λ q marked. marked_after marks p q (before.kept q marked);
    only = λ q marked. ⊎_elim (λ same. inr (subst (Contains positions) (is ∙ sym same) (Contains-get_or positions n 0 listed))) (before.only q) (marked_before marks p q marked);
    longer = omega (arith, before.longer, length_push found p);
    order = λ k below. get_or_append_left found (p ∷ []) 0 k (omega (arith, before.longer)) ∙ before.order k below;
  }

-- ---- the lists of the found ones are followed

-- the invariant after the lists of the first n were followed
pub record IsFollowing (next : ℕ → List ℕ) (marks_before marks : List Bool) (found : List ℕ) (n : ℕ) : Type 0 where
  pub are_found : AreFound marks found
  pub each : length marks ≡ length marks_before
  pub within : n ≤ length found
  pub followed : (k : ℕ) → k < n → All (λ d. has_mark marks d ≡ true) (next (get_or found k 0))
  pub kept : (p : ℕ) → has_mark marks_before p ≡ true → has_mark marks p ≡ true
  pub only : LeadsTo next (has_mark marks_before) (has_mark marks)

pub IsFollowing-start : (next : ℕ → List ℕ) (marks : List Bool) (found : List ℕ) → AreFound marks found → IsFollowing next marks marks found 0
IsFollowing-start next marks found are = record {
  are_found = are;
  each = refl;
  within = omega arith;
  followed = λ k below. absurd (omega arith);
  kept = λ p marked. marked;
  only = λ S closed has p marked. has p marked;
}

module _ {next : ℕ → List ℕ} {marks_before marks : List Bool} {found : List ℕ} {n : ℕ} (before : IsFollowing next marks_before marks found n) where
  pub IsFollowing-more : (now : List Bool) (more : List ℕ) → n < length found → AreFound now more → length now ≡ length marks
      → All (λ d. has_mark now d ≡ true) (next (get_or found n 0))
      → ((p : ℕ) → has_mark marks p ≡ true → has_mark now p ≡ true)
      → ((p : ℕ) → has_mark now p ≡ true → (has_mark marks p ≡ true) ⊎ Contains (next (get_or found n 0)) p)
      → length found ≤ length more → ((k : ℕ) → k < length found → get_or more k 0 ≡ get_or found k 0)
      → IsFollowing next marks_before now more (n + 1)
  IsFollowing-more now more within are each all kept only longer order = record {
    are_found = are;
    each = each ∙ before.each;
    within = omega arith;
    followed = below_more (λ k. All (λ d. has_mark now d ≡ true) (next (get_or more k 0))) n
        (λ k below. at k (omega (arith, before.within)) (λ i d inside. kept _ (before.followed k below i d inside)))
        (at n within all);
    kept = λ p marked. kept p (before.kept p marked);
    only = λ S closed has p marked. ⊎_elim
        (λ old. before.only S closed has p old)
        (λ listed. closed (get_or found n 0) p (before.only S closed has (get_or found n 0) (found-marked before.are_found _ (Contains-get_or found n 0 within))) listed)
        (only p marked);
  }
    where
      at : (k : ℕ) → k < length found → All (λ d. has_mark now d ≡ true) (next (get_or found k 0)) → All (λ d. has_mark now d ≡ true) (next (get_or more k 0))
      at k inside h = subst (λ (x : ℕ). All (λ d. has_mark now d ≡ true) (next x)) (sym (order k inside)) h

  pub IsFollowing-closed : length found ≤ n → IsClosed next (has_mark marks)
  IsFollowing-closed done x d marked listed =
      let at = marked-found before.are_found x marked in
      let here : All (λ e. has_mark marks e ≡ true) (next (get_or found at.0 0)) = before.followed at.0 (omega (arith, at.1)) in
      let is : get_or found at.0 0 ≡ x = get_or-same found at.0 0 x at.1 ∙ at.2 in
      All-contains (λ e. has_mark marks e ≡ true) (next x) d (subst (λ (y : ℕ). All (λ e. has_mark marks e ≡ true) (next y)) is here) listed

-- ---- all that is reached

pub AreReachedFrom-found : (next : ℕ → List ℕ) (from : List ℕ) (first marks : List Bool) (found : List ℕ) → AreFound marks found
    → ((p : ℕ) → has_mark first p ≡ true → Contains from p) → All (λ p. has_mark marks p ≡ true) from → IsClosed next (has_mark marks) → LeadsTo next (has_mark first) (has_mark marks)
    → AreReachedFrom next from found
AreReachedFrom-found next from first marks found are first_only all closed only p = go (has_mark marks p) refl (are.once p)
  where
    go : (b : Bool) → has_mark marks p ≡ b → times p found ≡ one_if b → (IsReachedFrom next from p × (times p found ≡ 1)) ⊎ (¬ IsReachedFrom next from p × (times p found ≡ 0))
    go true marked e = inl (λ S in_S closed_S. only S closed_S (λ q here. All-contains (λ x. S x ≡ true) from q in_S (first_only q here)) p marked, e)
    go false unmarked e = inr (λ reached. both_ways (has_mark marks p) unmarked (reached (has_mark marks) all closed), e)
