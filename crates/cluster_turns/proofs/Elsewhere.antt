-- Units that are claimed by other nodes.
use Rattle.std.proofs.Common.{◌≡◌, ◌≢◌, ◌+◌, ◌-◌, ◌==◌, ◌&&◌, ◌||◌, ◌++◌, ℕ, Bool, true, false, not, List, [], ◌∷◌, Option, None, Some, refl, sym, ap, ◌∙◌, arith, eq-eqb}
use Rattle.std.proofs.lemmas.Bool.{ne_eqb}
use Rattle.std.proofs.lemmas.List.Folds.{list_any-append}
use Rattle.std.specs.List.{list_any, range_with_len}
use Rattle.std.specs.Prelude.{option_and_then, option_map}
use Rattle.turn_rules.specs.Choice.{Here, is_for}
use Rattle.protocol.specs.State.{OpenClaim}
use Rattle.cluster_turns.proofs.Ranges.{range_more}

module _ (here : Here) (k : ℕ) where
  -- the open claim of the node with this number, if it is up
  abbrev claim_at : ℕ → Option OpenClaim
  claim_at j = option_and_then (λ s. s.claim) (here j)

  -- whether this is another node with a claim for the unit
  abbrev claims : ℕ → ℕ → Bool
  claims u j = not (j == k) && is_for u (claim_at j)

  -- These are the units that other nodes among the first i claim.
  abbrev pub AreElsewhere : List ℕ → ℕ → Type 0
  AreElsewhere units i =
      (u : ℕ) → list_any (λ v. v == u) units ≡ list_any (claims u) (range_with_len 0 i)

  one_more : (u i : ℕ) → list_any (claims u) (range_with_len 0 (i + 1))
      ≡ (list_any (claims u) (range_with_len 0 i) || (claims u i || false))
  one_more u i =
      let next : i + 1 - 0 ≡ i + 1 = omega arith in
      let same : i - 0 ≡ i = omega arith in
      ap (λ n. list_any (claims u) (range_with_len 0 n)) (sym next)
      ∙ (ap (list_any (claims u)) (range_more 0 i (omega arith))
      ∙ (ap (λ n. list_any (claims u) (range_with_len 0 n ++ i ∷ [])) same
      ∙ list_any-append (claims u) (range_with_len 0 i) (i ∷ [])))

  or_no : (b : Bool) → b ≡ (b || (false || false))
  or_no true = refl
  or_no false = refl

  module _ (units : List ℕ) (i : ℕ) (are : AreElsewhere units i) where
    -- a node that doesn't count
    no_more : ((u : ℕ) → claims u i ≡ false) → AreElsewhere units (i + 1)
    no_more lacks u =
        are u ∙ (or_no (list_any (claims u) (range_with_len 0 i))
        ∙ (ap (λ b. list_any (claims u) (range_with_len 0 i) || (b || false)) (sym (lacks u))
        ∙ sym (one_more u i)))

    -- the node itself
    pub itself : i ≡ k → AreElsewhere units (i + 1)
    itself same = no_more (λ u. ap (λ b. not b && is_for u (claim_at i)) (eq-eqb i k same))

    -- a node without a claim
    pub no_claim : option_map (λ (o : OpenClaim). o.unit) (claim_at i) ≡ None
        → AreElsewhere units (i + 1)
    no_claim none = no_more (λ u. by u (claim_at i) none)
      where
        by : (u : ℕ) (o : Option OpenClaim) → option_map (λ (o : OpenClaim). o.unit) o ≡ None
            → (not (i == k) && is_for u o) ≡ false
        by u None none = both (not (i == k))
          where
            both : (b : Bool) → (b && false) ≡ false
            both true = refl
            both false = refl
        by u (Some o) none = absurd (let no : ◌≡◌ {A = Option ℕ} (Some o.unit) None = none in cc)

    -- a node with a claim
    pub one_claim : i ≢ k → (v : ℕ)
        → option_map (λ (o : OpenClaim). o.unit) (claim_at i) ≡ Some v
        → AreElsewhere (units ++ v ∷ []) (i + 1)
    one_claim other v some u =
        list_any-append (λ w. w == u) units (v ∷ [])
        ∙ (ap (λ b. b || ((v == u) || false)) (are u)
        ∙ (ap (λ b. list_any (claims u) (range_with_len 0 i) || (b || false))
        (sym (by (claim_at i) some))
        ∙ sym (one_more u i)))
      where
        by : (o : Option OpenClaim) → option_map (λ (o : OpenClaim). o.unit) o ≡ Some v
            → (not (i == k) && is_for u o) ≡ (v == u)
        by None some = absurd (let no : ◌≡◌ {A = Option ℕ} None (Some v) = some in cc)
        by (Some o) some =
            let known : ◌≡◌ {A = Option ℕ} (Some o.unit) (Some v) = some in
            let same : o.unit ≡ v = cc in
            ap (λ b. not b && (o.unit == u)) (ne_eqb i k other) ∙ ap (λ w. w == u) same
