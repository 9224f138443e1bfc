-- A member's answers on a way.
use Rattle.std.proofs.Common.{◌≡◌, ℕ, Bool, true, false, not, ◌&&◌, Option, Some, refl, eq-eqb, sym, ap, ◌∙◌, arith}
use Rattle.std.proofs.lemmas.Bool.{cond_both, cond-true, cond-false, and_from, false≢true, not_from_false}
use Rattle.claims.specs.declared.claim.Claim.{Claim}
use Rattle.claims.specs.Claims.{claim_below, claim_same, is_above, is_below, is_promised}
use Rattle.claims.specs.Member.{Member, Promised, Held, Closed, Gathering, Voting}
use Rattle.claims.specs.Messages.{Agreed, Promise, Vote}
use Rattle.claims.specs.Quorums.{Members, Quorums, with_member}
use Rattle.claims.specs.Step.{Outcome, notes_and_says, still, on_offer, on_promise, on_propose, on_quorum, on_vote}
use Rattle.claims.specs.Votes.{Ballot, is_voted, kept_report}
use Rattle.claims.proofs.Order.{below_true}

-- a claim is equal to itself, and not below itself
pub same_as_itself : (c : Claim) → claim_same c c ≡ true
same_as_itself c = and_from _ _ (eq-eqb c.round c.round refl) (eq-eqb c.member c.member refl)

not_below_itself : (c : Claim) → claim_below c c ≡ false
not_below_itself c = cond_both (claim_below c c) c c (λ d. claim_below c c ≡ false)
    (λ e. let l = below_true c c e in absurd (omega (arith, l.1 refl))) (λ e. e)

-- An offer above what is promised is promised, and the last vote is reported.
pub is_offered : {V : Type 0} (i : ℕ) (x : Member V) (c : Claim) → is_above c x.promised ≡ true
    → on_offer i x c ≡ notes_and_says (record x { promised = Some c }) (Promised c)
    (Promise (record { member = i; claim = c; report = x.voted }))
is_offered i x c e = cond-true (is_above c x.promised) _ _ e

-- A promise of the claim that gathers promises adds its sender, if that doesn't complete a quorum.
pub is_joined : {V : Type 0} (enough : Quorums) (x : Member V) (c : Claim) (S : Members)
    (k : Option (Ballot V)) (m : ℕ) (r : Option (Ballot V)) → enough (with_member S m) ≡ false
    → on_promise enough x (Gathering c S k) (record { member = m; claim = c; report = r })
    ≡ still (record x { stage = Gathering c (with_member S m) (kept_report k r) })
is_joined enough x c S k m r e =
    cond-true (claim_same c c) _ _ (same_as_itself c)
    ∙ cond-false (enough (with_member S m)) _ _ e

-- Otherwise it completes the quorum.
pub is_quorum : {V : Type 0} (enough : Quorums) (x : Member V) (c : Claim) (S : Members)
    (k : Option (Ballot V)) (m : ℕ) (r : Option (Ballot V)) → enough (with_member S m) ≡ true
    → on_promise enough x (Gathering c S k) (record { member = m; claim = c; report = r })
    ≡ on_quorum x c (kept_report k r)
is_quorum enough x c S k m r e =
    cond-true (claim_same c c) _ _ (same_as_itself c)
    ∙ cond-true (enough (with_member S m)) _ _ e

-- A proposal under the promised claim gets a vote.
pub is_voted_for : {V : Type 0} (i : ℕ) (x : Member V) (b : Ballot V) → x.promised ≡ Some b.claim
    → (on_propose i x b).send ≡ Some (Vote i b.claim)
is_voted_for {V} i x b e =
    cond_both (not (is_below b.claim x.promised) && not (is_voted b.claim x.voted)) _ _
    (λ (o : Outcome V). o.send ≡ Some (Vote i b.claim))
    (λ first. refl)
    (λ again. cond_both (is_voted b.claim x.voted && is_promised b.claim x.promised) _ _
    (λ (o : Outcome V). o.send ≡ Some (Vote i b.claim))
    (λ repeated. refl)
    (λ refused. absurd (neither again refused)))
  where
    -- its claim is the promised one
    here : is_promised b.claim x.promised ≡ true
    here = ap (is_promised b.claim) e ∙ same_as_itself b.claim

    above : not (is_below b.claim x.promised) ≡ true
    above = not_from_false _ (ap (is_below b.claim) e ∙ not_below_itself b.claim)

    both_off : (v : Bool) → (true && not v) ≡ false → (v && true) ≡ false → ⊥
    both_off true p q = false≢true (sym q)
    both_off false p q = false≢true (sym p)

    neither : (not (is_below b.claim x.promised) && not (is_voted b.claim x.voted)) ≡ false
        → (is_voted b.claim x.voted && is_promised b.claim x.promised) ≡ false → ⊥
    neither p q = both_off (is_voted b.claim x.voted)
        (sym (ap (λ t. t && not (is_voted b.claim x.voted)) above) ∙ p)
        (sym (ap (λ t. is_voted b.claim x.voted && t) here) ∙ q)

-- A vote for the claim's proposal adds its sender, if that doesn't complete a quorum.
pub is_counted : {V : Type 0} (enough : Quorums) (x : Member V) (b : Ballot V) (S : Members) (m : ℕ)
    → enough (with_member S m) ≡ false
    → on_vote enough x (Voting b S) m b.claim
    ≡ still (record x { stage = Voting b (with_member S m) })
is_counted enough x b S m e =
    cond-true (claim_same b.claim b.claim) _ _ (same_as_itself b.claim)
    ∙ cond-false (enough (with_member S m)) _ _ e

-- Otherwise the proposed value is held.
pub is_decided : {V : Type 0} (enough : Quorums) (x : Member V) (b : Ballot V) (S : Members) (m : ℕ)
    → enough (with_member S m) ≡ true
    → on_vote enough x (Voting b S) m b.claim ≡ notes_and_says
    (record x { held = Some b.value; stage = Closed }) (Held b.value) (Agreed b.value)
is_decided enough x b S m e =
    cond-true (claim_same b.claim b.claim) _ _ (same_as_itself b.claim)
    ∙ cond-true (enough (with_member S m)) _ _ e

-- ---- what an answer doesn't change

-- an offer changes only what is promised
pub record StaysButPromised (V : Type 0) (x y : Member V) : Type 0 where
  pub opened : y.opened ≡ x.opened
  pub voted : y.voted ≡ x.voted
  pub held : y.held ≡ x.held
  pub stage : y.stage ≡ x.stage

-- a proposal doesn't change the round, what is held, or the open claim
pub record KeepsClaim (V : Type 0) (x y : Member V) : Type 0 where
  pub opened : y.opened ≡ x.opened
  pub held : y.held ≡ x.held
  pub stage : y.stage ≡ x.stage

pub keeps_claim : {V : Type 0} (i : ℕ) (x : Member V) (b : Ballot V)
    → KeepsClaim V x (on_propose i x b).member
keeps_claim {V} i x b =
    cond_both (not (is_below b.claim x.promised) && not (is_voted b.claim x.voted)) _ _
    (λ (o : Outcome V). KeepsClaim V x o.member)
    (λ first. record { opened = refl; held = refl; stage = refl })
    (λ again. cond_both (is_voted b.claim x.voted && is_promised b.claim x.promised) _ _
    (λ (o : Outcome V). KeepsClaim V x o.member)
    (λ repeated. record { opened = refl; held = refl; stage = refl })
    (λ refused. record { opened = refl; held = refl; stage = refl }))
