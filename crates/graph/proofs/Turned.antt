-- Lists are reversed, position by position.
use Rattle.std.proofs.Common.{◌≡◌, ◌+◌, ◌<◌, ◌⊎◌, ℕ, zero, suc, Bool, true, false, not, cond, nat_eq, List, [], ◌∷◌, get_or, length, replicate, All, Contains, sym, ap, ◌∙◌, inl, inr, arith}
use Rattle.std.proofs.lemmas.Bool.{cases_Bool, cases_eq, cases_lt, eq-eqb, ne_eqb, true≢false}
use Rattle.std.proofs.lemmas.List.{get_or-replicate, get_or_past, length-replicate}
use Rattle.std.proofs.lemmas.List.Elements.{Contains-get_or}
use Rattle.graph.specs.Lists.{AreReversed, list_at, times}
use Rattle.graph.specs.Reach.{AreReached, AreReachedFrom, IsReached}
use Rattle.graph.proofs.Lists.{contained-times, times-contained}

none_named : (n d : ℕ) → list_at (replicate n []) d ≡ []
none_named n d = elim (cases_lt d n) [
  | inl within ↦ get_or-replicate n d [] [] within
  | inr past ↦ get_or_past (replicate n []) d [] (omega (arith, past, length-replicate {A = List ℕ} n []))
]

-- without any lists
pub AreReversed-none : (n : ℕ) (next : ℕ → List ℕ) → AreReversed n 0 next (replicate n [])
AreReversed-none n next = record {
  each = length-replicate {A = List ℕ} n [];
  named = λ d x within before. absurd (omega arith);
  no_more = λ d x past. ap (times x) (none_named n d);
}

-- after one more list
pub AreReversed-more : (n m : ℕ) (next : ℕ → List ℕ) (lists more : List (List ℕ)) → AreReversed n m next lists → length more ≡ length lists
    → ((d x : ℕ) → times x (list_at more d) ≡ times x (list_at lists d) + cond (nat_eq m x) (times d (next m)) 0)
    → AreReversed n (m + 1) next more
AreReversed-more n m next lists more are each named = record {
  each = each ∙ are.each;
  named = λ d x within before. elim (cases_eq x m) [
    | inl same ↦
        let here : cond (nat_eq m x) (times d (next m)) 0 ≡ times d (next m) = ap (λ b. cond b (times d (next m)) 0) (eq-eqb m x (sym same)) in
        let is : times d (next m) ≡ times d (next x) = ap (λ k. times d (next k)) (sym same) in
        omega (arith, named d x, here, is, are.no_more d x (omega (arith, same)))
    | inr other ↦
        let there : cond (nat_eq m x) (times d (next m)) 0 ≡ 0 = ap (λ b. cond b (times d (next m)) 0) (ne_eqb m x (λ e. other (sym e))) in
        omega (arith, named d x, there, are.named d x within (omega (arith, before, other)))
  ];
  no_more = λ d x past.
      let there : cond (nat_eq m x) (times d (next m)) 0 ≡ 0 = ap (λ b. cond b (times d (next m)) 0) (ne_eqb m x (λ e. absurd (omega (arith, e, past)))) in
      omega (arith, named d x, there, are.no_more d x (omega (arith, past)));
}

-- the elements of a reversed list are in range
pub named_within : (n m : ℕ) (next : ℕ → List ℕ) (lists : List (List ℕ)) (p : ℕ) → AreReversed n m next lists → All (λ u. u < m) (list_at lists p)
named_within n m next lists p are = λ k d inside. elim (cases_lt (get_or (list_at lists p) k d) m) [
  | inl within ↦ within
  | inr past ↦ absurd (omega (arith, are.no_more p (get_or (list_at lists p) k d) past, times-contained (get_or (list_at lists p) k d) (list_at lists p) (Contains-get_or (list_at lists p) k d inside)))
]

-- ---- reversed lists, in both directions

-- if x names d in the one family of lists, d names x in the other
abbrev pub AreTurned : (ℕ → List ℕ) → (ℕ → List ℕ) → Type 0
AreTurned next before = (x d : ℕ) → Contains (next x) d → Contains (before d) x

module _ {n m : ℕ} {next : ℕ → List ℕ} {lists : List (List ℕ)} (are : AreReversed n m next lists) where
  pub turned : ((x d : ℕ) → Contains (next x) d → (x < m) × (d < n)) → AreTurned next (list_at lists)
  turned listed x d needed =
      let at = listed x d needed in
      contained-times x (list_at lists d) (omega (arith, are.named d x at.1 at.0, times-contained d (next x) needed))

  pub turned_back : AreTurned (list_at lists) next
  turned_back d x named = elim (cases_lt x m) [
    | inr past ↦ absurd (omega (arith, are.no_more d x past, times-contained x (list_at lists d) named))
    | inl before ↦ elim (cases_lt d n) [
      | inl within ↦ contained-times d (next x) (omega (arith, are.named d x within before, times-contained x (list_at lists d) named))
      | inr past ↦
          let nothing : list_at lists d ≡ [] = get_or_past lists d [] (omega (arith, past, are.each)) in
          absurd (omega (arith, times-contained x (list_at lists d) named, ap (times x) nothing))
    ]
  ]

-- ---- what is reached, there and back

pub reached-back : (next before : ℕ → List ℕ) (p q : ℕ) → AreTurned next before → IsReached next p q → IsReached before q p
reached-back next before p q turned reached S in_S closed = elim (cases_Bool (S p)) [
  | inl is ↦ is
  | inr is_not ↦
      let out : ℕ → Bool = λ x. not (S x) in
      let left_out : out q ≡ true = reached out (ap not is_not) (λ x d x_out listed. stays x d (cases_Bool (S d)) x_out listed) in
      absurd (true≢false (sym left_out ∙ ap not in_S))
]
  where
    stays : (x d : ℕ) → (S d ≡ true) ⊎ (S d ≡ false) → not (S x) ≡ true → Contains (next x) d → not (S d) ≡ true
    stays x d (inl d_in) x_out listed = absurd (true≢false (sym x_out ∙ ap not (closed d x d_in (turned x d listed))))
    stays x d (inr d_out) x_out listed = ap not d_out

pub reached-itself : (next : ℕ → List ℕ) (p : ℕ) → IsReached next p p
reached-itself next p = λ S in_S closed. in_S

pub reached-through : (next : ℕ → List ℕ) (p d q : ℕ) → Contains (next p) d → IsReached next d q → IsReached next p q
reached-through next p d q listed reached = λ S in_S closed. reached S (closed p d in_S listed) closed

-- ---- from one position

pub All-one : (P : ℕ → Type 0) (p : ℕ) → P p → All P (p ∷ [])
All-one P p here zero d inside = here
All-one P p here (suc k) d inside = absurd (omega arith)

-- what is reached from a list of one position is reached from that position
pub AreReached-one : (next : ℕ → List ℕ) (p : ℕ) (found : List ℕ) → AreReachedFrom next (p ∷ []) found → AreReached next p found
AreReached-one next p found are q = elim (are q) [
  | inl (leads, one) ↦ inl (λ S in_S closed. leads S (All-one (λ x. S x ≡ true) p in_S) closed, one)
  | inr (leads_not, none) ↦ inr (λ reached. leads_not (λ S all closed. reached S (all 0 0 (omega arith)) closed), none)
]
