-- How many times a position is in a list.
use Rattle.std.proofs.Common.{◌≡◌, ◌+◌, ◌<◌, ℕ, zero, suc, Bool, true, false, cond, nat_eq, List, [], ◌∷◌, ◌++◌, length, set, take, get_or, Contains, refl, sym, ap, ◌∙◌, inl, inr, arith}
use Rattle.std.proofs.lemmas.Bool.{cases_eq, eq-eqb, ne_eqb}
use Rattle.std.proofs.lemmas.List.{get_or-set_same, get_or-set_other}
use Rattle.std.proofs.lemmas.List.Sums.{get_or-le-sum_by, sum_by-cons, sum_by_more, sum_by_push}
use Rattle.graph.specs.Lists.{list_at, one_if, times}

pub times-push : (p q : ℕ) (ps : List ℕ) → times p (ps ++ q ∷ []) ≡ times p ps + one_if (nat_eq q p)
times-push p q ps = sum_by_push (λ x. cond (nat_eq x p) 1 0) ps q

pub times-more : (p : ℕ) (ps : List ℕ) (i : ℕ) → i < length ps → times p (take (i + 1) ps) ≡ times p (take i ps) + one_if (nat_eq (get_or ps i 0) p)
times-more p ps i within = sum_by_more (λ x. cond (nat_eq x p) 1 0) ps i 0 within

pub times-contained : (p : ℕ) (ps : List ℕ) → Contains ps p → 0 < times p ps
times-contained p ps (k, within, is) =
    let here : one_if (nat_eq (get_or ps k p) p) ≡ 1 = ap one_if (eq-eqb (get_or ps k p) p is) in
    omega (arith, here, get_or-le-sum_by (λ x. cond (nat_eq x p) 1 0) ps k p within)

pub contained-times : (p : ℕ) (ps : List ℕ) → 0 < times p ps → Contains ps p
contained-times p [] some = absurd (omega arith)
contained-times p (q ∷ qs) some = elim (cases_eq q p) [
  | inl same ↦ (0, omega arith, same)
  | inr other ↦
      let none : one_if (nat_eq q p) ≡ 0 = ap one_if (ne_eqb q p other) in
      let rest = contained-times p qs (omega (arith, none, some, sum_by-cons (λ x. cond (nat_eq x p) 1 0) q qs)) in
      (suc rest.0, omega (arith, rest.1), rest.2)
]

-- ---- reversed lists

-- one more name at a position
pub list_at-more : (lists : List (List ℕ)) (o p : ℕ) (d x : ℕ) → o < length lists
    → times x (list_at (set lists o (p ∷ list_at lists o)) d) ≡ times x (list_at lists d) + cond (nat_eq p x) (one_if (nat_eq o d)) 0
list_at-more lists o p d x within = elim (cases_eq d o) [
  | inl same ↦
      let here : list_at (set lists o (p ∷ list_at lists o)) d ≡ p ∷ list_at lists d =
      ap (list_at (set lists o (p ∷ list_at lists o))) same ∙ get_or-set_same lists o _ [] within ∙ ap (λ n. p ∷ list_at lists n) (sym same) in
      ap (times x) here ∙ one_more (nat_eq p x) (nat_eq o d) (eq-eqb o d (sym same))
      (sum_by-cons (λ q. cond (nat_eq q x) 1 0) p (list_at lists d))
  | inr other ↦
      let there = get_or-set_other lists o d (p ∷ list_at lists o) [] other in
      ap (times x) there ∙ nothing (nat_eq p x) (nat_eq o d) (ne_eqb o d (λ e. other (sym e)))
]
  where
    one_more : (a b : Bool) → b ≡ true → times x (p ∷ list_at lists d) ≡ one_if a + times x (list_at lists d)
        → times x (p ∷ list_at lists d) ≡ times x (list_at lists d) + cond a (one_if b) 0
    one_more true b e f = let one : one_if b ≡ 1 = ap one_if e in omega (arith, one, f)
    one_more false b e f = omega (arith, f)

    nothing : (a b : Bool) → b ≡ false → times x (list_at lists d) ≡ times x (list_at lists d) + cond a (one_if b) 0
    nothing true b e = let z : one_if b ≡ 0 = ap one_if e in omega (arith, z)
    nothing false b e = omega arith

-- an element at an index in range doesn't depend on the default
pub get_or-same : {A : Type 0} (xs : List A) (i : ℕ) (a b : A) → i < length xs → get_or xs i a ≡ get_or xs i b
get_or-same [] i a b inside = absurd (omega arith)
get_or-same (y ∷ ys) zero a b inside = refl
get_or-same (y ∷ ys) (suc i) a b inside = get_or-same ys i a b (omega arith)

-- the number of times after one more name is added
pub times-added : (b : Bool) (before first before_added added one : ℕ) → before ≡ first + cond b before_added 0 → added ≡ before_added + one
    → before + cond b one 0 ≡ first + cond b added 0
times-added true before first before_added added one e f = omega arith
times-added false before first before_added added one e f = omega arith
