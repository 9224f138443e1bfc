-- The step that a member prepares for a message is the answer of the abstract member.
use Rattle.std.proofs.Common.{◌≡◌, ◌==◌, ◌&&◌, ◌∙◌, not, ℕ, true, false, List, []}
use Rattle.std.proofs.Common.{◌∷◌, Option, Some, None, ap, length, option_map, refl, subst, sym}
use Rattle.std.proofs.Common.{if◌then◌else◌}
use Rattle.std.proofs.lemmas.Bool.{cond_both, cond-true, eq-eqb, true≢false}
use Rattle.std.specs.Prelude.{is_some}
use Rattle.claims.specs.Claims.{is_above, is_below, is_promised}
use Rattle.claims.specs.Member as members
use Rattle.claims.specs.Step.{Outcome, on_agreed, on_ask, on_offer, on_propose}
use Rattle.claims.specs.Step.{still}
use Rattle.claims.specs.Votes.{Ballot, ballot, is_voted}
use Rattle.claims.specs.declared.claim.Claim.{Claim}
use Rattle.ballots.specs.InTheAgreement.{IsStepOf, IsVoter}
use Rattle.ballots.specs.Pledge.{Pledge}
use Rattle.ballots.specs.declared.message.Body.TheVariants as bodies
use Rattle.ballots.specs.declared.message.Fact.TheVariants as facts
use Rattle.ballots.specs.declared.voter.VoterStep.{VoterStep}
use Rattle.protocol.specs.Answers.{Answer, answered, claim_then, dropped, job_then, note_at}
use Rattle.protocol.specs.Answers.{message_of}
use Rattle.protocol.specs.InTheAgreement.{progress_of, view}
use Rattle.protocol.specs.Member.{IsMember}
use Rattle.protocol.specs.Sends.{sent_to}
use Rattle.protocol.specs.State.{OpenClaim, State, Value, facts_at}
use Rattle.protocol.specs.Step.{hears, host_in}
use Rattle.member.specs.inside.Waiting.{is_for}
use Rattle.member.specs.Prepared.{IsChangeWeighedBy, Prepared, changed}
use Rattle.member.specs.declared.step.ClaimChange.{ClaimChange}
use Rattle.member.specs.declared.step.ClaimChange.TheVariants.{Stays, Ends}
use Rattle.member.specs.inside.Counting.{on_unit, voter_prepared}
use Rattle.member.specs.inside.Steps.{Makes}
use Rattle.member.proofs.SameStep.{claim_kept, job_kept, voter_makes}

-- ---- offers and proposals

-- an offer keeps the stage
offer_stays : (me : ℕ) (x : members.Member Value) (c : Claim)
    → (on_offer me x c).member.stage ≡ x.stage
offer_stays me x c =
    let P : Outcome Value → Type 0 = λ o. o.member.stage ≡ x.stage in
    cond_both (is_above c x.promised) _ _ P (λ t. refl)
    (λ f. cond_both (is_promised c x.promised && not (is_voted c x.voted)) _ _ P (λ t. refl)
    (λ g. refl))

-- so does a proposal
proposal_stays : (me : ℕ) (x : members.Member Value) (b : Ballot Value)
    → (on_propose me x b).member.stage ≡ x.stage
proposal_stays me x b =
    let P : Outcome Value → Type 0 = λ o. o.member.stage ≡ x.stage in
    cond_both (not (is_below b.claim x.promised) && not (is_voted b.claim x.voted)) _ _ P
    (λ t. refl)
    (λ f. cond_both (is_voted b.claim x.voted && is_promised b.claim x.promised) _ _ P (λ t. refl)
    (λ g. refl))

-- the voter's step for an offer
pub offer_makes : (s : State) (u from : ℕ) (v : Pledge Value) (c : Claim) (step : VoterStep Value)
    (made : Prepared) → IsMember s → IsVoter Value v (view s u)
    → IsStepOf Value v (λ i x. on_offer i x c) step
    → made ≡ voter_prepared s u c.member step.note step.answer
    → Makes s (hears s u from (bodies.Offer c)) made
offer_makes s u from v c step made is voter of same =
    subst (Makes s (hears s u from (bodies.Offer c))) (sym same)
    (voter_makes s u c.member (on_offer s.me (view s u) c) step.note step.answer is
    (offer_stays s.me (view s u) c) (of.note s.me (view s u) voter)
    (of.said s.me (view s u) voter))

-- the voter's step for a proposal
pub proposal_makes : (s : State) (u from : ℕ) (v : Pledge Value) (c : Claim) (value : Value)
    (step : VoterStep Value) (made : Prepared) → IsMember s → IsVoter Value v (view s u)
    → IsStepOf Value v (λ i x. on_propose i x (ballot c value)) step
    → made ≡ voter_prepared s u c.member step.note step.answer
    → Makes s (hears s u from (bodies.Propose c value)) made
proposal_makes s u from v c value step made is voter of same =
    subst (Makes s (hears s u from (bodies.Propose c value))) (sym same)
    (voter_makes s u c.member (on_propose s.me (view s u) (ballot c value)) step.note step.answer
    is (proposal_stays s.me (view s u) (ballot c value)) (of.note s.me (view s u) voter)
    (of.said s.me (view s u) voter))

-- ---- nothing is noted, and the claim stays

-- the step notes nothing, gives no job and leaves the claim
pub record IsSaying (p : Prepared) : Type 0 where
  pub note : p.note ≡ None
  pub job : p.job ≡ None
  pub change : p.change ≡ Stays

-- an outcome that notes nothing and leaves the stage is such a step
pub saying_makes : (s : State) (u : ℕ) (to : List ℕ) (o : Outcome Value) (p : Prepared)
    → IsMember s → o.member.stage ≡ (view s u).stage → o.note ≡ None → IsSaying p
    → p.sends ≡ (answered s u (host_in s.claim) to o).sends
    → Makes s (answered s u (host_in s.claim) to o) p
saying_makes s u to o p is stage quiet says sends = record {
  is = λ i. record { note = note i; sends = sends i; job = job i; claim = claim i };
  weighed = subst (λ change. IsChangeWeighedBy s.weights change s.claim) (sym says.change) tt;
}
  where
    right : Answer
    right = answered s u (host_in s.claim) to o

    note : p.note ≡ option_map (note_at s u) o.note
    note = says.note ∙ sym (ap (option_map (note_at s u)) quiet)

    job : p.job ≡ job_then s u (host_in s.claim) o.member.stage
    job =
        says.job
        ∙ sym (ap (job_then s u (host_in s.claim)) stage ∙ job_kept s u (host_in s.claim))

    claim : changed p.change s.claim
        ≡ claim_then s.claim u (host_in s.claim) (progress_of (length s.weights) o.member.stage)
    claim =
        ap (λ change. changed change s.claim) says.change
        ∙ sym (ap (λ t. claim_then s.claim u (host_in s.claim) (progress_of (length s.weights) t))
        stage ∙ claim_kept s u is)

-- if nothing happens, the step is empty
pub nothing_makes : (s : State) (u : ℕ) (to : List ℕ) (o : Outcome Value) (p : Prepared)
    → IsMember s → o ≡ still (view s u) → IsSaying p → p.sends ≡ []
    → Makes s (answered s u (host_in s.claim) to o) p
nothing_makes s u to o p is same says sends =
    subst (λ o. Makes s (answered s u (host_in s.claim) to o) p) (sym same)
    (saying_makes s u to (still (view s u)) p is refl refl says sends)

-- a refusal sends nothing
pub refusal_passes : (s : State) (u from : ℕ) (c promised : Claim) (p : Prepared) → IsMember s
    → IsSaying p → p.sends ≡ [] → Makes s (hears s u from (bodies.Nay c promised)) p
refusal_passes s u from c promised p is says sends =
    nothing_makes s u [] (still (view s u)) p is refl says sends

-- ---- the agreed build

-- nothing is held if the test finds nothing
pub none_held : (h : Option Value) → is_some h ≡ false → h ≡ None
none_held None e = refl
none_held (Some v) e = absurd (true≢false e)

-- something is held if it does
pub some_held : (h : Option Value) → is_some h ≡ true → (v : Value) × (h ≡ Some v)
some_held None e = absurd (true≢false (sym e))
some_held (Some v) e = (v, refl)

-- what is held stays
pub agreed_again : (s : State) (u : ℕ) (v w : Value) (p : Prepared) → IsMember s
    → (facts_at s u).held ≡ Some w → IsSaying p → p.sends ≡ []
    → Makes s (hears s u 0 (bodies.Agreed v)) p
agreed_again s u v w p is held says sends =
    nothing_makes s u [] (on_agreed (view s u) (facts_at s u).held v) p is
    (ap (λ h. on_agreed (view s u) h v) held) says sends

-- the claim for the unit ends
pub claim_ends : (claim : Option OpenClaim) (o : OpenClaim) (u : ℕ) (change : ClaimChange)
    → claim ≡ Some o → o.unit ≡ u → change ≡ Ends → changed change claim ≡ dropped claim u
claim_ends claim o u change at unit ends =
    ap (λ change. changed change claim) ends
    ∙ sym (ap (λ claim. dropped claim u) at
    ∙ cond-true (u == o.unit) None (Some o) (eq-eqb u o.unit (sym unit)))

-- a claim for another unit stays
pub claim_stays : (claim : Option OpenClaim) (u : ℕ) (change : ClaimChange)
    → is_for claim u ≡ false → change ≡ Stays → changed change claim ≡ dropped claim u
claim_stays None u change other stays = ap (λ change. changed change None) stays
claim_stays (Some o) u change other stays =
    ap (λ change. changed change (Some o)) stays
    ∙ sym (ap (λ b. if b then None else Some o) other)

-- a build that is not held yet is held, and the unit's claim ends
pub agreed_makes : (s : State) (u : ℕ) (v : Value) (p : Prepared) → (facts_at s u).held ≡ None
    → p.note ≡ Some (on_unit s u (facts.Held v)) → p.sends ≡ [] → p.job ≡ None
    → changed p.change s.claim ≡ dropped s.claim u
    → IsChangeWeighedBy s.weights p.change s.claim
    → Makes s (hears s u 0 (bodies.Agreed v)) p
agreed_makes s u v p held note sends job claim weighed =
    subst (λ h. Makes s (answered s u (host_in s.claim) [] (on_agreed (view s u) h v)) p)
    (sym held) (record {
      is = λ i. record { note = note i; sends = sends i; job = job i; claim = claim i };
      weighed = weighed;
    })

-- ---- questions

-- a member that holds nothing sends nothing
pub question_passes : (s : State) (u from : ℕ) (p : Prepared) → IsMember s
    → (facts_at s u).held ≡ None → IsSaying p → p.sends ≡ []
    → Makes s (hears s u from bodies.Ask) p
question_passes s u from p is held says sends =
    nothing_makes s u (from ∷ []) (on_ask (view s u) (facts_at s u).held) p is
    (ap (on_ask (view s u)) held) says sends

-- a member that holds a build sends it
pub question_makes : (s : State) (u from : ℕ) (v : Value) (p : Prepared) → IsMember s
    → (facts_at s u).held ≡ Some v → IsSaying p
    → p.sends ≡ sent_to (Some (message_of s u (bodies.Agreed v))) (from ∷ [])
    → Makes s (hears s u from bodies.Ask) p
question_makes s u from v p is held says sends =
    subst (λ h. Makes s (answered s u (host_in s.claim) (from ∷ []) (on_ask (view s u) h)) p)
    (sym held)
    (saying_makes s u (from ∷ []) (on_ask (view s u) (Some v)) p is refl refl says sends)
