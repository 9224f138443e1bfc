-- Marks after a change.
use Rattle.std.proofs.Common.{◌≡◌, ◌≢◌, ◌<◌, ◌⊎◌, ℕ, Bool, true, false, List, length, set, sym, ap, ◌∙◌, subst, inl, inr}
use Rattle.std.proofs.lemmas.Bool.{cases_eq, cases_lt, true≢false}
use Rattle.std.proofs.lemmas.List.{get_or_past, get_or-set_same, get_or-set_other}
use Rattle.graph.specs.Marks.{has_mark}

pub marked_within : (marks : List Bool) (p : ℕ) → has_mark marks p ≡ true → p < length marks
marked_within marks p marked = elim (cases_lt p (length marks)) [
  | inl within ↦ within
  | inr past ↦ absurd (true≢false (sym marked ∙ get_or_past marks p false past))
]

pub has_mark-same : (marks : List Bool) (p : ℕ) (mark : Bool) → p < length marks → has_mark (set marks p mark) p ≡ mark
has_mark-same marks p mark within = get_or-set_same marks p mark false within

pub has_mark-other : (marks : List Bool) (p q : ℕ) (mark : Bool) → q ≢ p → has_mark (set marks p mark) q ≡ has_mark marks q
has_mark-other marks p q mark other = get_or-set_other marks p q mark false other

-- a mark after another was set
pub marked_before : (marks : List Bool) (p q : ℕ) → has_mark (set marks p true) q ≡ true → (q ≡ p) ⊎ (has_mark marks q ≡ true)
marked_before marks p q marked = elim (cases_eq q p) [
  | inl same ↦ inl same
  | inr other ↦ inr (sym (has_mark-other marks p q true other) ∙ marked)
]

-- what was marked stays marked when a mark is set
pub marked_after : (marks : List Bool) (p q : ℕ) → has_mark marks q ≡ true → has_mark (set marks p true) q ≡ true
marked_after marks p q marked = elim (cases_eq q p) [
  | inl same ↦ let within : p < length marks = subst (λ (n : ℕ). n < length marks) same (marked_within marks q marked) in
      ap (λ n. has_mark (set marks p true) n) same ∙ has_mark-same marks p true within
  | inr other ↦ has_mark-other marks p q true other ∙ marked
]
