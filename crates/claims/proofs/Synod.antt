-- Once enough members voted for a ballot, each proposal above it has its value.
use Rattle.std.proofs.Common.{◌≡◌, ℕ, true, inl, inr, arith, Option, Some, None, sym, ◌∙◌, subst}
use Rattle.claims.specs.Claims.{Claim, Below, AtMost}
use Rattle.claims.specs.Quorums.{Quorums, AreQuorums}
use Rattle.claims.specs.Votes.{Ballot, PromiseOf, VoteOf, Reaches, UpTo, Keeps, IsKept, IsBacked, IsLawful, IsChosen}
use Rattle.claims.proofs.Order.{cases_at_most, cases_claim, by_claims}

module _ (V : Type 0) (enough : Quorums) (quorums : AreQuorums enough) (Proposed : Ballot V → Type 0) (Promised : PromiseOf V → Type 0) (Voted : VoteOf V → Type 0) (law : IsLawful V enough Proposed Promised Voted) where
  -- the greatest report is at or above c if some report is
  reaches_up : (c : Claim) (r k : Option (Ballot V)) → Reaches r c → UpTo r k → Reaches k c
  reaches_up c None k h u = absurd h
  reaches_up c (Some b) None h u = u
  reaches_up c (Some b) (Some k) h u = omega arith

  -- a kept report at or above c has value v, if all proposals from c up to d have v
  kept_value : (c d : Claim) (v w : V) (k : Option (Ballot V))
      → ((e : Claim) → AtMost c e → Below e d → (u : V) → Proposed (record { claim = e; value = u }) → u ≡ v)
      → Reaches k c → IsKept Promised d k → Keeps k w → w ≡ v
  kept_value c d v w None low h i j = absurd h
  kept_value c d v w (Some b) low h i j =
      let r = law.reports (record { member = i.0; claim = d; report = Some b }) i.1 in
      sym j ∙ low b.claim h r.0 b.value (law.votes _ r.1)

  -- what was chosen was voted for, and so was proposed
  is_proposed : (b : Ballot V) → IsChosen V enough Voted b → Proposed b
  is_proposed b x = let m = quorums.meet x.voters x.voters x.majority x.majority in law.votes _ (x.voted m.0 m.1)

  -- a proposal at or above a chosen ballot has its value, by strong induction over claims
  pub repeats : (b : Ballot V) → IsChosen V enough Voted b → (d : Claim) → AtMost b.claim d → (w : V)
      → Proposed (record { claim = d; value = w }) → w ≡ b.value
  repeats b chosen = by_claims (λ d. AtMost b.claim d → (w : V) → Proposed (record { claim = d; value = w }) → w ≡ b.value) step
    where
      -- a member in both quorums voted for b and promised d
      met : (d : Claim) (w : V) → Below b.claim d → (x : IsBacked V enough Promised (record { claim = d; value = w }))
          → (m : ℕ) × (chosen.voters m ≡ true) × (x.tally m ≡ true) → Reaches x.kept b.claim
      met d w lt x (m, s, t) =
          let g = x.gathered.promised m t in
          reaches_up b.claim g.0 x.kept (law.bounds _ b g.1 (chosen.voted m s) lt) g.2

      step : (d : Claim)
          → ((e : Claim) → Below e d → AtMost b.claim e → (w : V) → Proposed (record { claim = e; value = w }) → w ≡ b.value)
          → AtMost b.claim d → (w : V) → Proposed (record { claim = d; value = w }) → w ≡ b.value
      step d low le w p =
          elim (cases_at_most b.claim d le) [
            | inl lt ↦
                let x = law.backed _ p in
                let m = quorums.meet chosen.voters x.tally chosen.majority x.majority in
                kept_value b.claim d b.value w x.kept (λ e a l u h. low e l a u h) (met d w lt x m) x.gathered.reported x.keeps
            | inr e ↦ law.one d w b.value p (let P : Claim → Type 0 = λ c. Proposed (record { claim = c; value = b.value }) in subst P e (is_proposed b chosen))
          ]

  -- two chosen ballots have the same value
  pub one_value : (a b : Ballot V) → IsChosen V enough Voted a → IsChosen V enough Voted b → a.value ≡ b.value
  one_value a b x y =
      elim (cases_claim a.claim b.claim) [
        | inl lt ↦ sym (repeats a x b.claim (omega arith) b.value (is_proposed b y))
        | inr le ↦ repeats b y a.claim le a.value (is_proposed a x)
      ]
