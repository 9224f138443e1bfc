-- What a nudge of the open claim repeats.
use Rattle.std.proofs.Common.{◌≡◌, ◌<◌, ℕ, true, not, List, [], Option, Some, None}
use Rattle.std.proofs.Common.{Result, Ok, Err, refl, sym, subst, ap, ◌∙◌, filter, length}
use Rattle.claims.specs.Step.{on_nudge}
use Rattle.claims.specs.Votes.{Ballot}
use Rattle.claims.specs.Member as members
use Rattle.claims.specs.declared.claim.Claim.{Claim}
use Rattle.ballots.specs.Support.{Support, set_of}
use Rattle.ballots.specs.declared.message.Body.TheVariants as bodies
use Rattle.protocol.specs.State.{OpenClaim, Progress, Gathering, Building, Voting, State, Value}
use Rattle.protocol.specs.InTheAgreement.{progress_of, stage_of, view}
use Rattle.protocol.specs.Member.{IsMember}
use Rattle.protocol.specs.Sends.{sent_to}
use Rattle.protocol.specs.Answers.{Answer, claim_then, everyone, message_of, missing}
use Rattle.protocol.specs.Jobs.{job_of}
use Rattle.protocol.specs.Step.{answered_or, host_in, job_again, nudges, silent, with_job}
use Rattle.protocol.specs.declared.input.Input.TheVariants as inputs
use Rattle.protocol.specs.declared.refusal.Refusal.{Refusal}
use Rattle.protocol.specs.declared.refusal.Refusal.TheVariants as refusals
use Rattle.protocol.proofs.Asked.{stage_is}
use Rattle.protocol.proofs.TheTheory.{named}
use Rattle.engine.specs.declared.Letter.TheVariants as letters
use Rattle.std.specs.Prelude.{option_and_then, option_map}
use Rattle.std.specs.List.{range_with_len}
use Rattle.claims.specs.Votes.{ballot, report_of}
use Rattle.ballots.specs.declared.claimer.Claimer.{Claimer}
use Rattle.ballots.specs.declared.claimer.Claimer.TheVariants as claimers
use Rattle.member.specs.OpenClaims.{IsWeighedBy, joined_in, open_of, progress_of_claimer}
use Rattle.member.specs.Prepared.{IsChangeWeighedBy, Prepared, answer_by}
use Rattle.member.specs.shared.Fields.{IsKept, job_in, state_of}
use Rattle.member.specs.inside.Steps.{IsPrepared, Prepares}
use Rattle.member.specs.declared.member.Member.TheInside.{Inside}
use Rattle.member.specs.declared.open_claim.OpenClaim as code
use Rattle.member.specs.declared.step.ClaimChange.TheVariants.{Stays}
use Rattle.member.proofs.Preparing.{made_so, says_so}
use Rattle.member.proofs.SameStep.{claim_kept}

-- the answer to a nudge
pub nudge_prepared : (s : State) (r : Result Prepared Refusal) → Prepares s (nudges s s.claim) r
    → IsPrepared s inputs.Nudge r
nudge_prepared s r made = record {
  answered = record {
    right = nudges s s.claim;
    answers = record { letter = letters.T; shown = tt; right = refl };
    given = made.given;
  };
  weighed = made.weighed;
}

-- without an open claim it is refused
pub no_claim : (s : State) → s.claim ≡ None → nudges s s.claim ≡ Err refusals.NoClaim
no_claim s none = ap (nudges s) none

module _ (s : State) (o : OpenClaim) (is : IsMember s) (at : s.claim ≡ Some o) where
  -- the claim that is left is the open one
  stays : claim_then s.claim o.unit o.host (progress_of (length s.weights) (view s o.unit).stage)
      ≡ s.claim
  stays =
      ap (λ claim. claim_then s.claim o.unit (host_in claim)
      (progress_of (length s.weights) (view s o.unit).stage)) (sym at)
      ∙ claim_kept s o.unit is

  -- the answer, by the progress of the claim
  abbrev by_progress : members.Stage Value → Progress → Result Answer Refusal
  by_progress stage p =
      with_job (job_again s o p)
      (answered_or refusals.NoClaim s o.unit o.host (silent s p) (on_nudge (view s o.unit) stage))

  by_stage : (p : Progress) → o.progress ≡ p → nudges s s.claim ≡ by_progress (stage_of p) p
  by_stage p e =
      ap (nudges s) at
      ∙ (ap (λ stage. by_progress stage o.progress) (stage_is s o at)
      ∙ ap (λ q. by_progress (stage_of q) q) e)

  -- the offer is sent to those that did not promise
  pub gathers_again : (c : Claim) (joined : List ℕ) (k : Option (Ballot Value))
      → o.progress ≡ Gathering c joined k
      → nudges s s.claim ≡ Ok (record {
        note = None;
        sends = sent_to (Some (message_of s o.unit (bodies.Offer c))) (missing s joined);
        job = None;
        claim = s.claim;
      })
  gathers_again c joined k e =
      by_stage (Gathering c joined k) e
      ∙ λ i. Ok (record {
        note = None;
        sends = sent_to (Some (message_of s o.unit (bodies.Offer c))) (missing s joined);
        job = None;
        claim = stays i;
      })

  -- the job is given again
  pub builds_again : (c : Claim) → o.progress ≡ Building c
      → nudges s s.claim ≡ Ok (record {
        note = None;
        sends = [];
        job = Some (job_of s o.unit o.host c);
        claim = s.claim;
      })
  builds_again c e =
      by_stage (Building c) e
      ∙ λ i. Ok (record {
        note = None;
        sends = [];
        job = Some (job_of s o.unit o.host c);
        claim = stays i;
      })

  -- the proposal is sent to those that did not vote
  pub votes_again : (b : Ballot Value) (joined : List ℕ) → o.progress ≡ Voting b joined
      → nudges s s.claim ≡ Ok (record {
        note = None;
        sends = sent_to (Some (message_of s o.unit (bodies.Propose b.claim b.value)))
            (missing s joined);
        job = None;
        claim = s.claim;
      })
  votes_again b joined e =
      by_stage (Voting b joined) e
      ∙ λ i. Ok (record {
        note = None;
        sends = sent_to (Some (message_of s o.unit (bodies.Propose b.claim b.value)))
            (missing s joined);
        job = None;
        claim = stays i;
      })

-- those that the tally doesn't have are missing
pub missing_are : (s : State) (t : Support) → t.weights ≡ s.weights
    → ((k : ℕ) → set_of t k ≡ true → k < length s.weights)
    → missing s (joined_in t) ≡ filter (λ k. not (set_of t k)) (everyone s)
missing_are s t same within =
    λ i. filter (λ k. not (named (length t.weights) (set_of t)
    (λ m joined. subst (λ ws. m < length ws) (sym same) (within m joined)) k i)) (everyone s)

-- ---- by the fields of the member

module _ (m : Inside) (s : State) (o : code.OpenClaim) (kept : IsKept m) (seen : state_of m ≡ s)
    (at : m.claim ≡ Some o) where
  claim_seen : s.claim ≡ Some (open_of o)
  claim_seen = sym (ap (λ (s : State). s.claim) seen) ∙ ap (option_map open_of) at

  member_seen : IsMember s
  member_seen = subst IsMember seen kept.member

  -- the claim is for a unit
  pub unit_seen : o.unit < length s.division.units
  unit_seen = (member_seen.claim (open_of o) claim_seen).unit

  weighed_seen : (claimer : Claimer Value) → o.claimer ≡ claimer → IsWeighedBy s.weights claimer
  weighed_seen claimer e =
      subst (λ ws. IsWeighedBy ws claimer) (ap (λ (s : State). s.weights) seen)
      (subst (IsWeighedBy m.weights) e (kept.weighed o at))

  missing_seen : (t : Support) (to : List ℕ) → t.weights ≡ s.weights
      → ((k : ℕ) → set_of t k ≡ true → k < length s.weights)
      → to ≡ filter (λ k. not (set_of t k)) (range_with_len 0 (length m.weights))
      → to ≡ missing s (joined_in t)
  missing_seen t to same within e =
      e
      ∙ (ap (λ (s : State). filter (λ k. not (set_of t k)) (everyone s)) seen
      ∙ sym (missing_are s t same within))

  pub gathering_said : (c : Claim) (t : Support) (k : Option (Claim × Value)) (step : Prepared)
      (to : List ℕ) → o.claimer ≡ claimers.Gathering c t k
      → to ≡ filter (λ k. not (set_of t k)) (range_with_len 0 (length m.weights))
      → step.note ≡ None
      → step.sends ≡ sent_to (Some (message_of s o.unit (bodies.Offer c))) to
      → step.job ≡ None → step.change ≡ Stays → IsPrepared s inputs.Nudge (Ok step)
  gathering_said c t k step to e are note sent job stays =
      let weighed = weighed_seen (claimers.Gathering c t k) e in
      let sends = sent ∙ ap (sent_to (Some (message_of s o.unit (bodies.Offer c))))
      (missing_seen t to weighed.same weighed.within are) in
      nudge_prepared s (Ok step) (made_so s (nudges s s.claim) _ step
      (gathers_again s (open_of o) member_seen claim_seen c (joined_in t) (report_of k)
      (ap progress_of_claimer e))
      (says_so s step _ note sends job stays))

  pub voting_said : (c : Claim) (v : Value) (t : Support) (step : Prepared) (to : List ℕ)
      → o.claimer ≡ claimers.Voting c v t
      → to ≡ filter (λ k. not (set_of t k)) (range_with_len 0 (length m.weights))
      → step.note ≡ None
      → step.sends ≡ sent_to (Some (message_of s o.unit (bodies.Propose c v))) to
      → step.job ≡ None → step.change ≡ Stays → IsPrepared s inputs.Nudge (Ok step)
  voting_said c v t step to e are note sent job stays =
      let weighed = weighed_seen (claimers.Voting c v t) e in
      let sends = sent ∙ ap (sent_to (Some (message_of s o.unit (bodies.Propose c v))))
      (missing_seen t to weighed.same weighed.within are) in
      nudge_prepared s (Ok step) (made_so s (nudges s s.claim) _ step
      (votes_again s (open_of o) member_seen claim_seen (ballot c v) (joined_in t)
      (ap progress_of_claimer e))
      (says_so s step _ note sends job stays))

  pub building_said : (c : Claim) (weights : List ℕ) (step : Prepared)
      → o.claimer ≡ claimers.Building c weights
      → step ≡ record { note = None; sends = []; job = job_in s; change = Stays }
      → IsPrepared s inputs.Nudge (Ok step)
  building_said c weights step e is =
      let job : job_in s ≡ Some (job_of s o.unit o.host c) =
      ap (option_and_then (λ o. job_again s o o.progress)) claim_seen
      ∙ ap (job_again s (open_of o)) (ap progress_of_claimer e) in
      nudge_prepared s (Ok step) (made_so s (nudges s s.claim) _ step
      (builds_again s (open_of o) member_seen claim_seen c (ap progress_of_claimer e))
      (record {
        is = ap (answer_by s) is
            ∙ λ i. record { note = None; sends = []; job = job i; claim = s.claim };
        weighed =
            subst (λ (p : Prepared). IsChangeWeighedBy s.weights p.change s.claim) (sym is) tt;
      }))
