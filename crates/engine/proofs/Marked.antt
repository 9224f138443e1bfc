-- The set of marked positions.
use Rattle.std.proofs.Common.{◌≡◌, ◌≢◌, ◌<◌, ◌&&◌, ◌||◌, ℕ, zero, suc, Bool, true, false, cond, nat_lt, nat_eq, List, length, set, sym, ap, ◌∙◌, refl, inl, inr, arith}
use Rattle.std.proofs.lemmas.List.{get_or_past}
use Rattle.std.proofs.lemmas.Bool.{cases_eq, cases_lt, cases_order, lt-ltb, le-ltb, eq-eqb, ne_eqb}
use Rattle.std.proofs.lemmas.Bool.Decides.{nat_tests}
use Rattle.std.specs.Cmp.{nat_cmp_total, unsigned_tied}
use Rattle.std.specs.FinSet as finset
use Rattle.std.specs.FinSet.{nat_cmp-IsAntisymmetric}
use Rattle.std.specs.Ordering.{nat_cmp}
use Rattle.graph.specs.Marks.{has_mark}
use Rattle.graph.proofs.Marked.{has_mark-other, has_mark-same}
use Rattle.engine.specs.shared.Agreed.{marked_set, set_below}

below_more : (test : ℕ → Bool) (n q : ℕ) → test n ≡ true → (nat_eq q n || (nat_lt q n && test q)) ≡ (nat_lt q (suc n) && test q)
below_more test n q passes = elim (cases_order q n) [
  | inl same ↦ let e : test q ≡ true = ap test same ∙ passes in grind (arith, nat_tests)
  | inr (inl before) ↦ grind (arith, nat_tests)
  | inr (inr after) ↦ grind (arith, nat_tests)
]

below_same : (test : ℕ → Bool) (n q : ℕ) → test n ≡ false → (nat_lt q n && test q) ≡ (nat_lt q (suc n) && test q)
below_same test n q fails = elim (cases_order q n) [
  | inl same ↦ let e : test q ≡ false = ap test same ∙ fails in grind (arith, nat_tests)
  | inr (inl before) ↦ grind (arith, nat_tests)
  | inr (inr after) ↦ grind (arith, nat_tests)
]

pub contains-set_below : (test : ℕ → Bool) (n q : ℕ) → finset.contains (set_below test n) q ≡ (nat_lt q n && test q)
unfolding set_below
contains-set_below test zero q = finset.contains-empty nat_cmp q ∙ sym (ap (λ b. b && test q) (le-ltb q 0 (omega arith)))
contains-set_below test (suc n) q = go (contains-set_below test n q) (test n) refl
  where
    go : finset.contains (set_below test n) q ≡ (nat_lt q n && test q) → (b : Bool) → test n ≡ b
        → finset.contains (cond b (finset.insert (set_below test n) n) (set_below test n)) q ≡ (nat_lt q (suc n) && test q)
    go below true passes = finset.contains-insert nat_cmp_total (set_below test n) n q
        ∙ ap (λ b. b || finset.contains (set_below test n) q) (unsigned_tied q n)
        ∙ ap (λ b. nat_eq q n || b) below ∙ below_more test n q passes
    go below false fails = below ∙ below_same test n q fails

pub contains-marked_set : (marks : List Bool) (q : ℕ) → finset.contains (marked_set marks) q ≡ has_mark marks q
contains-marked_set marks q = contains-set_below (has_mark marks) (length marks) q ∙ elim (cases_lt q (length marks)) [
  | inl within ↦ ap (λ b. b && has_mark marks q) (lt-ltb q (length marks) within)
  | inr past ↦ ap (λ b. b && has_mark marks q) (le-ltb q (length marks) past) ∙ sym (get_or_past marks q false past)
]

pub marked_set-none : (marks : List Bool) → ((p : ℕ) → has_mark marks p ≡ false) → marked_set marks ≡ finset.empty
marked_set-none marks unmarked = finset.same_set nat_cmp_total nat_cmp-IsAntisymmetric _ _
    (λ q. contains-marked_set marks q ∙ unmarked q ∙ sym (finset.contains-empty nat_cmp q))

-- equal marks have equal sets
pub marked_set-like : (marks others : List Bool) → ((p : ℕ) → has_mark marks p ≡ has_mark others p) → marked_set marks ≡ marked_set others
marked_set-like marks others same = finset.same_set nat_cmp_total nat_cmp-IsAntisymmetric _ _
    (λ q. contains-marked_set marks q ∙ same q ∙ sym (contains-marked_set others q))

pub marked_set-more : (marks : List Bool) (p : ℕ) → p < length marks → marked_set (set marks p true) ≡ finset.insert (marked_set marks) p
marked_set-more marks p within = finset.same_set nat_cmp_total nat_cmp-IsAntisymmetric _ _
    (λ q. contains-marked_set (set marks p true) q ∙ one_more q
    ∙ sym (finset.contains-insert nat_cmp_total (marked_set marks) p q ∙ ap (λ b. b || finset.contains (marked_set marks) q) (unsigned_tied q p)
    ∙ ap (λ b. nat_eq q p || b) (contains-marked_set marks q)))
  where
    one_more : (q : ℕ) → has_mark (set marks p true) q ≡ (nat_eq q p || has_mark marks q)
    one_more q = elim (cases_eq q p) [
      | inl same ↦ ap (λ n. has_mark (set marks p true) n) same ∙ has_mark-same marks p true within ∙ sym (ap (λ b. b || has_mark marks q) (eq-eqb q p same))
      | inr other ↦ has_mark-other marks p q true other ∙ sym (ap (λ b. b || has_mark marks q) (ne_eqb q p other))
    ]

-- setting a mark that is set changes nothing
pub marked_set-same : (marks : List Bool) (p : ℕ) → has_mark marks p ≡ true → finset.insert (marked_set marks) p ≡ marked_set marks
marked_set-same marks p marked = finset.same_set nat_cmp_total nat_cmp-IsAntisymmetric _ _
    (λ q. finset.contains-insert nat_cmp_total (marked_set marks) p q ∙ ap (λ b. b || finset.contains (marked_set marks) q) (unsigned_tied q p)
    ∙ nothing_new q)
  where
    nothing_new : (q : ℕ) → (nat_eq q p || finset.contains (marked_set marks) q) ≡ finset.contains (marked_set marks) q
    nothing_new q = elim (cases_eq q p) [
      | inl same ↦ ap (λ b. b || finset.contains (marked_set marks) q) (eq-eqb q p same) ∙ sym (contains-marked_set marks q ∙ ap (has_mark marks) same ∙ marked)
      | inr other ↦ ap (λ b. b || finset.contains (marked_set marks) q) (ne_eqb q p other)
    ]
