-- Counts by position that are incremented and decremented.
use Rattle.std.proofs.Common.{◌≡◌, ◌+◌, ◌<◌, ◌≤◌, ℕ, List, get_or, length, set, take, ap, ◌∙◌, sym, inl, inr, arith}
use Rattle.std.proofs.lemmas.Bool.{cases_eq, eq-eqb, ne_eqb}
use Rattle.std.proofs.lemmas.List.{get_or-set_other, get_or-set_same}
use Rattle.std.proofs.lemmas.List.Sums.{sum_by-take-le}
use Rattle.graph.specs.Lists.{one_if, times}
use Rattle.graph.proofs.Lists.{times-more}
use Rattle.std.proofs.Common.{All, ◌^◌, cond, nat_eq, refl}

pub times-take : (p : ℕ) (ps : List ℕ) (i : ℕ) → i < length ps → times p (take i ps) + one_if (nat_eq (get_or ps i 0) p) ≤ times p ps
times-take p ps i within = omega (arith, times-more p ps i within, sum_by-take-le (λ x. cond (nat_eq x p) 1 0) ps (i + 1))

module _ (lacks positions : List ℕ) (i p : ℕ) (listed : i < length positions) (within : p < length lacks) where
  pub raised-more : (now : List ℕ) (x : ℕ) → x ≡ get_or positions i 0 → get_or now p 0 ≡ get_or lacks p 0 + times p (take i positions) → x < length now
      → (v : ℕ) → v ≡ get_or now x 0 + 1 → get_or (set now x v) p 0 ≡ get_or lacks p 0 + times p (take (i + 1) positions)
  raised-more now x is before inside v raised = elim (cases_eq p x) [
    | inl same ↦
        let one : one_if (nat_eq (get_or positions i 0) p) ≡ 1 = ap one_if (eq-eqb (get_or positions i 0) p (sym is ∙ sym same)) in
        let here : get_or (set now x v) p 0 ≡ v = ap (λ q. get_or (set now x v) q 0) same ∙ get_or-set_same now x v 0 inside in
        omega (arith, one, here, raised, ap (λ q. get_or now q 0) same, before, times-more p positions i listed)
    | inr other ↦
        let none : one_if (nat_eq (get_or positions i 0) p) ≡ 0 = ap one_if (ne_eqb (get_or positions i 0) p (λ e. other (sym e ∙ sym is))) in
        omega (arith, none, get_or-set_other now x p v 0 other, before, times-more p positions i listed)
  ]

  pub lowered-more : (now : List ℕ) (x : ℕ) → x ≡ get_or positions i 0 → get_or now p 0 + times p (take i positions) ≡ get_or lacks p 0 → x < length now
      → (v : ℕ) → v + 1 ≡ get_or now x 0 → get_or (set now x v) p 0 + times p (take (i + 1) positions) ≡ get_or lacks p 0
  lowered-more now x is before inside v lowered = elim (cases_eq p x) [
    | inl same ↦
        let one : one_if (nat_eq (get_or positions i 0) p) ≡ 1 = ap one_if (eq-eqb (get_or positions i 0) p (sym is ∙ sym same)) in
        let here : get_or (set now x v) p 0 ≡ v = ap (λ q. get_or (set now x v) q 0) same ∙ get_or-set_same now x v 0 inside in
        omega (arith, one, here, lowered, ap (λ q. get_or now q 0) same, before, times-more p positions i listed)
    | inr other ↦
        let none : one_if (nat_eq (get_or positions i 0) p) ≡ 0 = ap one_if (ne_eqb (get_or positions i 0) p (λ e. other (sym e ∙ sym is))) in
        omega (arith, none, get_or-set_other now x p v 0 other, before, times-more p positions i listed)
  ]

here_one : (positions : List ℕ) (i : ℕ) → one_if (nat_eq (get_or positions i 0) (get_or positions i 0)) ≡ 1
here_one positions i = ap one_if (eq-eqb (get_or positions i 0) (get_or positions i 0) refl)

-- the next sum doesn't overflow
pub fits_more : (lacks now positions : List ℕ) (i : ℕ) → i < length positions → All (λ p. p < length lacks) positions
    → ((p : ℕ) → p < length lacks → get_or lacks p 0 + times p positions < 2 ^ 64)
    → ((p : ℕ) → p < length lacks → get_or now p 0 ≡ get_or lacks p 0 + times p (take i positions))
    → get_or now (get_or positions i 0) 0 + 1 < 2 ^ 64
fits_more lacks now positions i listed within few raised =
    let x = get_or positions i 0 in
    omega (arith, few x (within i 0 listed), raised x (within i 0 listed), times-take x positions i listed, here_one positions i)

-- the next count is not 0
pub some_left : (lacks now positions : List ℕ) (i : ℕ) → i < length positions → All (λ p. p < length lacks) positions
    → ((p : ℕ) → p < length lacks → times p positions ≤ get_or lacks p 0)
    → ((p : ℕ) → p < length lacks → get_or now p 0 + times p (take i positions) ≡ get_or lacks p 0)
    → 1 ≤ get_or now (get_or positions i 0) 0
some_left lacks now positions i listed within some lowered =
    let x = get_or positions i 0 in
    omega (arith, some x (within i 0 listed), lowered x (within i 0 listed), times-take x positions i listed, here_one positions i)
