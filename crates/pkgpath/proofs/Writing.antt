-- What is written, piece by piece.
use Rattle.std.proofs.Common.{◌≡◌, ℕ, zero, suc, ◌+◌, ◌<◌, ◌≤◌, Bool, true, false, ◌&&◌, ◌||◌, not, cond, eqb, ltb, List, [], ◌∷◌, ◌++◌, length, refl, sym, ap, ◌∙◌, arith, Some, None, slice_get, if◌then◌else◌, option_to_list}
use Rattle.std.proofs.lemmas.Bool.{lt-ltb, ne_eqb}
use Rattle.std.proofs.lemmas.List.{append-nil, append_assoc}
use Rattle.std.proofs.lemmas.List.Concat.{flat_map-append}
use Rattle.std.proofs.lemmas.List.Sums.{length-filter, sum_by-cons}
use Rattle.std.specs.List.{count_by, filter, find, flat_map, join_with_byte, list_any}
use Rattle.faults.specs.Bytes.{Text, comma, is_empty}
use Rattle.faults.specs.Pieces.{set_of}
use Rattle.pkgpath.proofs.Behind.{behind}
use Rattle.pkgpath.specs.PkgPath.{canonical_text, is_flavor, is_subpackage, value_from}

-- ---- tests by counts

module _ {X : Type 0} (p : X → Bool) where
  list_any-count : (xs : List X) → list_any p xs ≡ ltb 0 (count_by p xs)
  list_any-count [] = refl
  list_any-count (x ∷ xs) = by (p x) (list_any-count xs) ∙ ap (ltb 0) (sym (sum_by-cons (λ y. cond (p y) 1 0) x xs))
    where
      by : (t : Bool) → list_any p xs ≡ ltb 0 (count_by p xs) → (t || list_any p xs) ≡ ltb 0 (cond t 1 0 + count_by p xs)
      by true rest = sym (lt-ltb 0 (1 + count_by p xs) (omega arith))
      by false rest = rest ∙ ap (ltb 0) (omega arith)

  find-filter : (xs : List X) → find p xs ≡ slice_get (filter p xs) 0
  find-filter [] = refl
  find-filter (x ∷ xs) = by (p x) (find-filter xs)
    where
      by : (t : Bool) → find p xs ≡ slice_get (filter p xs) 0 → cond t (Some x) (find p xs) ≡ slice_get (cond t (x ∷ filter p xs) (filter p xs)) 0
      by true rest = refl
      by false rest = rest

first_of_none : {X : Type 0} (xs : List X) → slice_get xs 0 ≡ None → xs ≡ []
first_of_none [] none = refl
first_of_none (x ∷ xs) none = cc

first_of_one : {X : Type 0} (xs : List X) (y : X) → slice_get xs 0 ≡ Some y → length xs ≤ 1 → xs ≡ y ∷ []
first_of_one [] y some short = cc
first_of_one (x ∷ []) y some short = cc
first_of_one (x ∷ z ∷ zs) y some short = absurd (omega arith)

pub filter-no : {X : Type 0} (p : X → Bool) (xs : List X) → find p xs ≡ None → filter p xs ≡ []
filter-no p xs none = first_of_none (filter p xs) (sym (find-filter p xs) ∙ none)

pub filter-one : {X : Type 0} (p : X → Bool) (xs : List X) (y : X) → find p xs ≡ Some y → count_by p xs ≤ 1 → filter p xs ≡ y ∷ []
filter-one p xs y some one = first_of_one (filter p xs) y (sym (find-filter p xs) ∙ some) (omega (arith, length-filter p xs))

zero_test : (n : ℕ) → eqb n 0 ≡ not (ltb 0 n)
zero_test zero = refl
zero_test (suc n) =
    let some : 0 < suc n = omega arith in
    ne_eqb (suc n) 0 (λ e. absurd (omega (arith, e))) ∙ ap not (sym (lt-ltb 0 (suc n) some))

-- the mark, by counts
pub mark-count : (ps : List Text) → (ltb 0 (count_by is_empty ps) && eqb (count_by is_flavor ps) 0) ≡ (list_any is_empty ps && not (list_any is_flavor ps))
mark-count ps = rw (list_any-count is_empty ps, list_any-count is_flavor ps, zero_test (count_by is_flavor ps)) refl

-- ---- the canonical text

join-flat_map : (c : ℕ) (p : Text) (ps : List Text) → join_with_byte c (p ∷ ps) ≡ p ++ flat_map (λ q. c ∷ q) ps
join-flat_map c p [] = sym (append-nil p)
join-flat_map c p (q ∷ ps) = ap (λ rest. p ++ c ∷ rest) (join-flat_map c q ps)

written : (directory : Text) (mark : Bool) (flavors last : List Text) → directory ++ flat_map (λ q. comma ∷ q) ((if mark then [] ∷ [] else []) ++ flavors ++ last)
    ≡ directory ++ (if mark then comma ∷ [] else []) ++ flat_map (λ q. comma ∷ q) flavors ++ flat_map (λ q. comma ∷ q) last
written directory true flavors last = rw (flat_map-append (λ (q : Text). comma ∷ q) flavors last) (simp append_assoc)
written directory false flavors last = rw (flat_map-append (λ (q : Text). comma ∷ q) flavors last) (simp (append-nil, append_assoc))

pub canonical_text-from : (directory : Text) (ps : List Text) → canonical_text (value_from directory ps)
    ≡ directory ++ (if ltb 0 (count_by is_empty ps) && eqb (count_by is_flavor ps) 0 then comma ∷ [] else []) ++ flat_map (λ p. comma ∷ p) (set_of (filter is_flavor ps)) ++ flat_map (λ p. comma ∷ p) (option_to_list (find is_subpackage ps))
canonical_text-from directory ps =
    let mark = list_any is_empty ps && not (list_any is_flavor ps) in
    let flavors = set_of (filter is_flavor ps) in
    let last = option_to_list (find is_subpackage ps) in
    join-flat_map comma directory (behind mark flavors (find is_subpackage ps)) ∙ written directory mark flavors last
    ∙ ap (λ (m : Bool). directory ++ (if m then comma ∷ [] else []) ++ flat_map (λ p. comma ∷ p) flavors ++ flat_map (λ p. comma ∷ p) last) (sym (mark-count ps))
