-- How many times lists contain a position, summed over many lists.
use Rattle.std.proofs.Common.{◌≡◌, ◌+◌, ◌<◌, ◌≤◌, ℕ, List, [], ◌∷◌, All, cond, nat_eq, sum_by, take, length, get_or, refl, sym, ap, ◌∙◌, inl, inr, arith}
use Rattle.std.proofs.lemmas.Bool.{cases_eq, eq-eqb, ne_eqb}
use Rattle.std.proofs.lemmas.List.Elements.{All-head, All-tail}
use Rattle.std.proofs.lemmas.List.Sums.{sum_by-cons, sum_by-le-sum_by, sum_by-take-le, sum_by_more}
use Rattle.graph.specs.Lists.{AreReversed, list_at, one_if, times}
use Rattle.engine.specs.inside.Searching.{told}

times-cons : (p q : ℕ) (qs : List ℕ) → times p (q ∷ qs) ≡ one_if (nat_eq q p) + times p qs
times-cons p q qs = sum_by-cons (λ x. cond (nat_eq x p) 1 0) q qs

either_way : (p q : ℕ) → one_if (nat_eq p q) ≡ one_if (nat_eq q p)
either_way p q = elim (cases_eq p q) [
  | inl same ↦ ap one_if (eq-eqb p q same) ∙ sym (ap one_if (eq-eqb q p (sym same)))
  | inr other ↦ ap one_if (ne_eqb p q other) ∙ sym (ap one_if (ne_eqb q p (λ e. other (sym e))))
]

-- how many times the list contains each of these, summed up
abbrev pub counted : List ℕ → List ℕ → ℕ
counted xs ps = sum_by (λ q. times q xs) ps

counted-nil : (ps : List ℕ) → counted [] ps ≡ 0
counted-nil [] = refl
counted-nil (p ∷ ps) = omega (arith, sum_by-cons (λ q. times q []) p ps, counted-nil ps)

counted-cons : (x : ℕ) (xs ps : List ℕ) → counted (x ∷ xs) ps ≡ times x ps + counted xs ps
counted-cons x xs [] = refl
counted-cons x xs (p ∷ ps) = omega (
  arith,
  sum_by-cons (λ q. times q (x ∷ xs)) p ps,
  sum_by-cons (λ q. times q xs) p ps,
  times-cons p x xs,
  times-cons x p ps,
  either_way x p,
  counted-cons x xs ps,
)

pub counted-le : (xs ys ps : List ℕ) → ((q : ℕ) → times q xs ≤ times q ys) → counted xs ps ≤ counted ys ps
counted-le xs ys ps fewer = sum_by-le-sum_by (λ q. times q xs) (λ q. times q ys) ps fewer

module _ {n m : ℕ} {next : ℕ → List ℕ} {lists : List (List ℕ)} (are : AreReversed n m next lists) where
  -- the lists contain the position as many times as its own list contains their positions
  pub told-counted : (p : ℕ) → p < m → (xs : List ℕ) → All (λ x. x < n) xs → told lists p xs ≡ counted xs (next p)
  told-counted p within [] inside = sym (counted-nil (next p))
  told-counted p within (x ∷ xs) inside = omega (
    arith,
    sum_by-cons (λ y. times p (list_at lists y)) x xs,
    counted-cons x xs (next p),
    are.named x p (All-head (λ y. y < n) x xs inside) within,
    told-counted p within xs (All-tail (λ y. y < n) x xs inside),
  )

  pub told-le : (p : ℕ) → p < m → (xs ys : List ℕ) → All (λ x. x < n) xs → All (λ x. x < n) ys → ((q : ℕ) → times q xs ≤ times q ys)
      → told lists p xs ≤ told lists p ys
  told-le p within xs ys inside inside' fewer =
      omega (arith, told-counted p within xs inside, told-counted p within ys inside', counted-le xs ys (next p) fewer)

pub told-more : (lists : List (List ℕ)) (p : ℕ) (xs : List ℕ) (i : ℕ) → i < length xs
    → told lists p (take (i + 1) xs) ≡ told lists p (take i xs) + times p (list_at lists (get_or xs i 0))
told-more lists p xs i within = sum_by_more (λ x. times p (list_at lists x)) xs i 0 within

pub told-take-le : (lists : List (List ℕ)) (p : ℕ) (xs : List ℕ) (i : ℕ) → told lists p (take i xs) ≤ told lists p xs
told-take-le lists p xs i = sum_by-take-le (λ x. times p (list_at lists x)) xs i
