-- The order of claims.
use Rattle.std.proofs.Common.{◌≡◌, ℕ, zero, suc, ◌≤◌, ◌<◌, true, false, ◌⊎◌, inl, inr, ⊎_elim, arith, refl, eqb-true, eq-eqb, tests, sym, ap, ◌∙◌}
use Rattle.std.proofs.lemmas.Bool.{cases_lt, cases_order, and_parts, and_from, false≢true}
use Rattle.claims.specs.Claims.{Claim, Below, AtMost, claim_below, claim_same}

-- the test and the order agree
pub below_true : (c d : Claim) → claim_below c d ≡ true → Below c d
below_true c d h = grind (arith, tests)

pub below_false : (c d : Claim) → claim_below c d ≡ false → AtMost d c
below_false c d h = grind (arith, tests)

pub below_test : (c d : Claim) → Below c d → claim_below c d ≡ true
below_test c d h = grind (arith, tests)

-- a claim is determined by its round and its member
pub same_claim : (c d : Claim) → c.round ≡ d.round → c.member ≡ d.member → c ≡ d
same_claim c d e f = λ i. record { round = e i; member = f i }

-- if a claim is at most another, it is below it or equal
pub cases_at_most : (c d : Claim) → AtMost c d → Below c d ⊎ (c ≡ d)
cases_at_most c d h =
    ⊎_elim (λ lt. inl (omega arith)) (λ ge. ⊎_elim (λ lt. inl (omega arith)) (λ le. inr (same_claim c d (omega arith) (omega arith))) (cases_lt c.member d.member)) (cases_lt c.round d.round)

-- a claim is below another, or at or above it
pub cases_claim : (c d : Claim) → Below c d ⊎ AtMost d c
cases_claim c d =
    elim (cases_order c.round d.round) [
      | inl e ↦ ⊎_elim (λ lt. inl (omega arith)) (λ ge. inr (omega arith)) (cases_lt c.member d.member)
      | inr h ↦ ⊎_elim (λ lt. inl (omega arith)) (λ gt. inr (omega arith)) h
    ]

-- strong induction over claims
pub by_claims : (P : Claim → Type 0) → ((d : Claim) → ((e : Claim) → Below e d → P e) → P d) → (d : Claim) → P d
by_claims P step d = rounds (suc d.round) d (omega arith)
  where
    members : (r : ℕ) → ((e : Claim) → e.round < r → P e) → (m : ℕ) → (d : Claim) → d.round ≤ r → d.member < m → P d
    members r low zero d le lt = absurd (omega arith)
    members r low (suc m) d le lt =
        step d (λ e b. ⊎_elim (λ h. low e h) (λ h. members r low m e (omega arith) (omega arith)) (cases_lt e.round r))

    rounds : (r : ℕ) → (d : Claim) → d.round < r → P d
    rounds zero d lt = absurd (omega arith)
    rounds (suc r) d lt = members r (rounds r) (suc d.member) d (omega arith) (omega arith)

-- the test of equality agrees with equality
pub claim_same_true : (c d : Claim) → claim_same c d ≡ true → c ≡ d
claim_same_true c d h = let p = and_parts _ _ h in same_claim c d (eqb-true _ _ p.0) (eqb-true _ _ p.1)

pub claim_same_false : (c d : Claim) → claim_same c d ≡ false → c ≡ d → ⊥
claim_same_false c d h e = false≢true (sym h ∙ (ap (λ x. claim_same c x) (sym e) ∙ and_from _ _ (eq-eqb c.round c.round refl) (eq-eqb c.member c.member refl)))

-- no claim is both above another and at or below it
pub apart : (c d : Claim) → AtMost c d → Below d c → ⊥
apart c d h k = let e : c.round ≡ d.round = omega arith in omega (arith, h.1 e, k.1 (sym e))
