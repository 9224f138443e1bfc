-- The number of positions that meet a condition.
use Rattle.std.proofs.Common.{◌≡◌, ◌≢◌, ◌<◌, ◌≤◌, ℕ, zero, suc, sym, subst, inl, inr, arith}
use Rattle.std.proofs.lemmas.Bool.{cases_eq}
use Rattle.engine.specs.inside.Lacking.{AreSoMany}

pub so_many-few : (P : ℕ → Type 0) (n m : ℕ) → AreSoMany P n m → m ≤ n
so_many-few P zero m are = omega arith
so_many-few P (suc n) m (inl (here, (k, are, is))) = omega (arith, so_many-few P n k are)
so_many-few P (suc n) m (inr (not_here, are)) = omega (arith, so_many-few P n m are)

-- a position that meets the condition is counted
pub so_many-some : (P : ℕ → Type 0) (n m q : ℕ) → AreSoMany P n m → q < n → P q → 0 < m
so_many-some P zero m q are below meets = absurd (omega arith)
so_many-some P (suc n) m q (inl (here, (k, are, is))) below meets = omega arith
so_many-some P (suc n) m q (inr (not_here, are)) below meets = elim (cases_eq q n) [
  | inl same ↦ absurd (not_here (subst P same meets))
  | inr other ↦ so_many-some P n m q are (omega (arith, other)) meets
]

pub so_many-none : (P : ℕ → Type 0) (n m : ℕ) → AreSoMany P n m → ((q : ℕ) → q < n → ¬ P q) → m ≡ 0
so_many-none P zero m are none = are
so_many-none P (suc n) m (inl (here, (k, are, is))) none = absurd (none n (omega arith) here)
so_many-none P (suc n) m (inr (not_here, are)) none = so_many-none P n m are (λ q below. none q (omega arith))

pub so_many-same : (P Q : ℕ → Type 0) (n m : ℕ) → ((q : ℕ) → q < n → P q → Q q) → ((q : ℕ) → q < n → Q q → P q) → AreSoMany P n m → AreSoMany Q n m
so_many-same P Q zero m there back are = are
so_many-same P Q (suc n) m there back (inl (here, (k, are, is))) =
    inl (there n (omega arith) here, (k, so_many-same P Q n k (λ q below. there q (omega arith)) (λ q below. back q (omega arith)) are, is))
so_many-same P Q (suc n) m there back (inr (not_here, are)) =
    inr (λ h. not_here (back n (omega arith) h), so_many-same P Q n m (λ q below. there q (omega arith)) (λ q below. back q (omega arith)) are)

-- if one no longer meets it, the number is one less
pub so_many-less : (P Q : ℕ → Type 0) (n m p : ℕ) → p < n → P p → ¬ Q p → ((q : ℕ) → q < n → q ≢ p → P q → Q q) → ((q : ℕ) → q < n → Q q → P q)
    → AreSoMany P n (suc m) → AreSoMany Q n m
so_many-less P Q zero m p within met no_more there back are = absurd (omega arith)
so_many-less P Q (suc n) m p within met no_more there back (inl (here, (k, are, is))) = elim (cases_eq n p) [
  | inl same ↦ inr (
    λ h. no_more (subst Q same h),
    let e : k ≡ m = omega (arith, is) in subst (AreSoMany Q n) e
        (so_many-same P Q n k (λ q below h. there q (omega arith) (λ e. absurd (omega (arith, e, same, below))) h) (λ q below. back q (omega arith)) are),
  )
  | inr other ↦ earlier (omega (arith, other)) k are is
      (λ j below more. so_many-less P Q n j p below met no_more (λ q under. there q (omega arith)) (λ q under. back q (omega arith)) more)
]
  where
    earlier : p < n → (k : ℕ) → AreSoMany P n k → suc m ≡ suc k → ((j : ℕ) → p < n → AreSoMany P n (suc j) → AreSoMany Q n j) → AreSoMany Q (suc n) m
    earlier below zero are is less = absurd (omega (arith, so_many-some P n zero p are below met))
    earlier below (suc k) are is less = inl (there n (omega arith) (λ e. absurd (omega (arith, e, below))) here, (k, less k below are, omega (arith, is)))
so_many-less P Q (suc n) m p within met no_more there back (inr (not_here, are)) = elim (cases_eq n p) [
  | inl same ↦ absurd (not_here (subst P (sym same) met))
  | inr other ↦ inr (
    λ h. not_here (back n (omega arith) h),
    so_many-less P Q n m p (omega (arith, other)) met no_more (λ q under. there q (omega arith)) (λ q under. back q (omega arith)) are,
  )
]
