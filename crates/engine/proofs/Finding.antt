-- How the built packages that may become installable are found.
use Rattle.std.proofs.Common.{◌≡◌, ◌+◌, ◌<◌, ◌≤◌, ◌⊎◌, ℕ, Bool, true, false, List, [], ◌∷◌, ◌++◌, All, Contains, get_or, length, set, refl, sym, ap, ◌∙◌, subst, inl, inr, ⊎_elim, arith}
use borrow.Author.Count.{below_more}
use Rattle.std.proofs.lemmas.List.{get_or_append_left, get_or-set_same, length-set, length_push}
use Rattle.std.proofs.lemmas.List.Elements.{All-contains}
use Rattle.graph.specs.Lists.{list_at}
use Rattle.graph.specs.Marks.{has_mark}
use Rattle.graph.specs.shared.Walks.{AreFound}
use Rattle.graph.proofs.Lists.{get_or-same}
use Rattle.graph.proofs.Marked.{marked_after, marked_before}
use Rattle.graph.proofs.Walks.{AreFound-more, marked-found}
use Rattle.engine.specs.declared.Letter.{Letter}
use Rattle.engine.specs.declared.Letter.TheVariants.{B}
use Rattle.engine.specs.shared.Shown.{letter_at}

-- the invariant after n of the positions were examined
pub record IsFinding (letters : List Letter) (marks_before : List Bool) (found_before : List ℕ) (marks : List Bool) (found positions : List ℕ) (n : ℕ) : Type 0 where
  pub are_found : AreFound marks found
  pub each : length marks ≡ length marks_before
  pub all : (k : ℕ) → k < n → letter_at letters (get_or positions k 0) ≡ B → has_mark marks (get_or positions k 0) ≡ true
  pub kept : (p : ℕ) → has_mark marks_before p ≡ true → has_mark marks p ≡ true
  pub only : (p : ℕ) → has_mark marks p ≡ true → (has_mark marks_before p ≡ true) ⊎ (letter_at letters p ≡ B)
  pub longer : length found_before ≤ length found
  pub order : (k : ℕ) → k < length found_before → get_or found k 0 ≡ get_or found_before k 0

pub IsFinding-start : (letters : List Letter) (marks : List Bool) (found positions : List ℕ) → AreFound marks found → IsFinding letters marks found marks found positions 0
IsFinding-start letters marks found positions are = record {
  are_found = are;
  each = refl;
  all = λ k below. absurd (omega arith);
  kept = λ p marked. marked;
  only = λ p marked. inl marked;
  longer = omega arith;
  order = λ k within. refl;
}

module _ {letters : List Letter} {marks_before : List Bool} {found_before : List ℕ} {marks : List Bool} {found positions : List ℕ} {n : ℕ}
    (before : IsFinding letters marks_before found_before marks found positions n) where
  pub IsFinding-keeps : (letter_at letters (get_or positions n 0) ≡ B → has_mark marks (get_or positions n 0) ≡ true)
      → IsFinding letters marks_before found_before marks found positions (n + 1)
  IsFinding-keeps here = record {
    are_found = before.are_found;
    each = before.each;
    all = below_more (λ k. letter_at letters (get_or positions k 0) ≡ B → has_mark marks (get_or positions k 0) ≡ true) n before.all here;
    kept = before.kept;
    only = before.only;
    longer = before.longer;
    order = before.order;
  }

  pub IsFinding-finds : (p : ℕ) → get_or positions n 0 ≡ p → p < length marks → has_mark marks p ≡ false → letter_at letters p ≡ B
      → IsFinding letters marks_before found_before (set marks p true) (found ++ p ∷ []) positions (n + 1)
  IsFinding-finds p is within unmarked built = record {
    are_found = AreFound-more before.are_found p within unmarked;
    each = length-set marks p true ∙ before.each;
    all = below_more (λ k. letter_at letters (get_or positions k 0) ≡ B → has_mark (set marks p true) (get_or positions k 0) ≡ true) n
        (λ k below b. marked_after marks p (get_or positions k 0) (before.all k below b))
        (λ b. ap (has_mark (set marks p true)) is ∙ get_or-set_same marks p true false within);
    kept = λ q marked. marked_after marks p q (before.kept q marked);
    only = λ q marked. ⊎_elim (λ same. inr (ap (letter_at letters) same ∙ built)) (before.only q) (marked_before marks p q marked);
    longer = omega (arith, before.longer, length_push found p);
    order = λ k below. get_or_append_left found (p ∷ []) 0 k (omega (arith, before.longer)) ∙ before.order k below;
  }

-- the invariant after the lists of the first n found ones were followed
pub record IsFollowing (letters : List Letter) (runs : List (List ℕ)) (marks_before marks : List Bool) (found : List ℕ) (n : ℕ) : Type 0 where
  pub are_found : AreFound marks found
  pub each : length marks ≡ length marks_before
  pub within : n ≤ length found
  pub followed : (k : ℕ) → k < n → All (λ d. letter_at letters d ≡ B → has_mark marks d ≡ true) (list_at runs (get_or found k 0))
  pub kept : (p : ℕ) → has_mark marks_before p ≡ true → has_mark marks p ≡ true
  pub only : (p : ℕ) → has_mark marks p ≡ true → (has_mark marks_before p ≡ true) ⊎ (letter_at letters p ≡ B)

pub IsFollowing-start : (letters : List Letter) (runs : List (List ℕ)) (marks : List Bool) (found : List ℕ) → AreFound marks found → IsFollowing letters runs marks marks found 0
IsFollowing-start letters runs marks found are = record {
  are_found = are;
  each = refl;
  within = omega arith;
  followed = λ k below. absurd (omega arith);
  kept = λ p marked. marked;
  only = λ p marked. inl marked;
}

module _ {letters : List Letter} {runs : List (List ℕ)} {marks_before marks : List Bool} {found : List ℕ} {n : ℕ}
    (before : IsFollowing letters runs marks_before marks found n) where
  pub IsFollowing-more : (now : List Bool) (more : List ℕ) → n < length found → AreFound now more → length now ≡ length marks
      → All (λ d. letter_at letters d ≡ B → has_mark now d ≡ true) (list_at runs (get_or found n 0))
      → ((p : ℕ) → has_mark marks p ≡ true → has_mark now p ≡ true)
      → ((p : ℕ) → has_mark now p ≡ true → (has_mark marks p ≡ true) ⊎ (letter_at letters p ≡ B))
      → length found ≤ length more → ((k : ℕ) → k < length found → get_or more k 0 ≡ get_or found k 0)
      → IsFollowing letters runs marks_before now more (n + 1)
  IsFollowing-more now more within are each all kept only longer order = record {
    are_found = are;
    each = each ∙ before.each;
    within = omega arith;
    followed = below_more (λ k. All (λ d. letter_at letters d ≡ B → has_mark now d ≡ true) (list_at runs (get_or more k 0))) n
        (λ k below. at k (omega (arith, before.within)) (λ i d inside b. kept _ (before.followed k below i d inside b)))
        (at n within all);
    kept = λ p marked. kept p (before.kept p marked);
    only = λ p marked. ⊎_elim (before.only p) (λ b. inr b) (only p marked);
  }
    where
      at : (k : ℕ) → k < length found → All (λ d. letter_at letters d ≡ B → has_mark now d ≡ true) (list_at runs (get_or found k 0))
          → All (λ d. letter_at letters d ≡ B → has_mark now d ≡ true) (list_at runs (get_or more k 0))
      at k inside h = subst (λ (x : ℕ). All (λ d. letter_at letters d ≡ B → has_mark now d ≡ true) (list_at runs x)) (sym (order k inside)) h

  pub IsFollowing-closed : length found ≤ n → (x y : ℕ) → has_mark marks x ≡ true → Contains (list_at runs x) y → letter_at letters y ≡ B → has_mark marks y ≡ true
  IsFollowing-closed done x y marked listed built =
      let at = marked-found before.are_found x marked in
      let here : All (λ e. letter_at letters e ≡ B → has_mark marks e ≡ true) (list_at runs (get_or found at.0 0)) = before.followed at.0 (omega (arith, at.1)) in
      let is : get_or found at.0 0 ≡ x = get_or-same found at.0 0 x at.1 ∙ at.2 in
      All-contains (λ e. letter_at letters e ≡ B → has_mark marks e ≡ true) (list_at runs x) y
      (subst (λ (z : ℕ). All (λ e. letter_at letters e ≡ B → has_mark marks e ≡ true) (list_at runs z)) is here) listed built
