-- The step of a claimer, on a promise or a vote, is the answer of the abstract member.
use Rattle.std.proofs.Common.{◌≡◌, ◌<◌, ◌&&◌, ◌∙◌, not, ℕ, Bool, true, false, List, Option, Some}
use Rattle.std.proofs.Common.{None, [], ap, ap₂, arith, length, option_map, refl, subst, sym}
use Rattle.std.proofs.Common.{if◌then◌else◌}
use Rattle.std.proofs.lemmas.Bool.{and_parts, cond_both, leb-true, true≢false}
use Rattle.std.specs.List.{list_all}
use Rattle.std.specs.Prelude.{nat_le}
use Rattle.claims.specs.Claims.{claim_same}
use Rattle.claims.specs.Member as members
use Rattle.claims.specs.Messages as messages
use Rattle.claims.specs.Quorums.{Quorums, is_majority, with_member}
use Rattle.claims.specs.Step.{Outcome, on_promise, on_quorum, on_vote}
use Rattle.claims.specs.Votes.{Ballot, PromiseOf, kept_report, report_of}
use Rattle.claims.specs.declared.claim.Claim.{Claim}
use Rattle.ballots.specs.InTheAgreement.{IsClaimerStep, IsStepOnPromise, IsStepOnVote, builds_next}
use Rattle.ballots.specs.InTheAgreement.{claim_of, claimer_then, is_building, noted_next}
use Rattle.ballots.specs.InTheAgreement.{promise_outcome, said_next, stage_then, weights_of}
use Rattle.ballots.specs.InTheAgreement.{stage_of as stage_of_claimer}
use Rattle.ballots.specs.Support.{IsMember as IsNumber}
use Rattle.ballots.specs.Weights.{AreWeights, is_weight}
use Rattle.ballots.specs.declared.claimer.Claimer.{Claimer}
use Rattle.ballots.specs.declared.claimer.Claimer.TheVariants as claimers
use Rattle.ballots.specs.declared.claimer.ClaimerChange.{ClaimerChange}
use Rattle.ballots.specs.declared.claimer.ClaimerChange.TheVariants as change
use Rattle.ballots.specs.declared.claimer.ClaimerStep.{ClaimerStep}
use Rattle.ballots.specs.declared.claimer.Next.{Next}
use Rattle.ballots.specs.declared.claimer.Next.TheVariants as next
use Rattle.ballots.specs.declared.message.Body.{Body}
use Rattle.ballots.specs.declared.message.Body.TheVariants as bodies
use Rattle.claims.specs.Claim.{most_members}
use Rattle.engine.proofs.Names.{name_is_found}
use Rattle.protocol.specs.Answers.{answered, claim_then, everyone, job_then, message_of, note_at}
use Rattle.protocol.specs.Answers.{others, sends_of}
use Rattle.protocol.specs.InTheAgreement.{progress_of, view}
use Rattle.protocol.specs.Jobs.{job_of}
use Rattle.protocol.specs.Member.{IsMember}
use Rattle.protocol.specs.Sends.{sent_to}
use Rattle.protocol.specs.State.{State, Value, name_at}
use Rattle.protocol.specs.Step.{hears, host_in, outcome_of}
use Rattle.protocol.proofs.Answering.{fits}
use Rattle.protocol.proofs.TheTheory.{IsWithin}
use Rattle.member.specs.OpenClaims.{IsWeighedBy, open_of, progress_of_claimer}
use Rattle.member.specs.Prepared.{IsChangeWeighedBy, IsCountWeighedBy, Prepared, changed, counted}
use Rattle.member.specs.declared.open_claim.OpenClaim as code
use Rattle.member.specs.declared.step.ClaimChange.TheVariants.{Counts}
use Rattle.member.specs.inside.Counting.{counter_prepared}
use Rattle.member.specs.inside.Steps.{Makes}
use Rattle.member.proofs.SameStep.{claim_is_own, counted_is, job_counted, moved_is, shown_stage}

-- ---- the tally

-- a tally that counts only members has the claimer's weights
count_weighed : (weights : List ℕ) (o : Claimer Value) (c : ClaimerChange Value)
    → weights_of (claimer_then o c) ≡ weights → IsWithin (length weights) (stage_then o c)
    → IsCountWeighedBy weights c (progress_of_claimer o)
count_weighed weights o change.Stays same within = tt
count_weighed weights (claimers.Gathering d t k) (change.Joins r report) same within =
    record { same = same; within = within }
count_weighed weights (claimers.Building d w) (change.Joins r report) same within = tt
count_weighed weights (claimers.Voting d v t) (change.Joins r report) same within =
    record { same = same; within = within }
count_weighed weights o change.Builds same within = tt
count_weighed weights o (change.Proposes v t) same within =
    record { same = same; within = within }
count_weighed weights o change.Ends same within = tt

-- ---- what follows from the step

-- the note that follows
next_notes : (s : State) (o : code.OpenClaim) (n : Next Value) (c : ClaimerChange Value)
    → (counter_prepared s (open_of o) n c).note ≡ option_map (note_at s o.unit) (noted_next n)
next_notes s o next.Nothing c = refl
next_notes s o next.Build c = refl
next_notes s o (next.Propose d v) c = refl
next_notes s o (next.Hold noted sent) c = refl

-- the receivers of what follows: all for a proposal, all others for a held build
abbrev IsTo : State → List ℕ → Next Value → Type 0
IsTo s to next.Nothing = Unit {0}
IsTo s to next.Build = Unit {0}
IsTo s to (next.Propose d v) = to ≡ everyone s
IsTo s to (next.Hold noted sent) = to ≡ others s

-- the messages that follow
next_sends : (s : State) (o : code.OpenClaim) (to : List ℕ) (n : Next Value)
    (c : ClaimerChange Value) → IsTo s to n
    → (counter_prepared s (open_of o) n c).sends ≡ sends_of s o.unit to (said_next n)
next_sends s o to next.Nothing c reach = refl
next_sends s o to next.Build c reach = refl
next_sends s o to (next.Propose d v) c reach =
    ap (sent_to (Some (message_of s o.unit (bodies.Propose d v)))) (sym reach)
next_sends s o to (next.Hold noted sent) c reach =
    ap (sent_to (Some (message_of s o.unit (bodies.Agreed sent)))) (sym reach)

-- the job that follows
next_job : (s : State) (o : code.OpenClaim) (n : Next Value) (c : ClaimerChange Value)
    → (counter_prepared s (open_of o) n c).job
    ≡ (if builds_next n then Some (job_of s o.unit o.host (claim_of o.claimer)) else None)
next_job s o next.Nothing c = refl
next_job s o next.Build c =
    ap (λ claim. Some (job_of s o.unit o.host claim)) (claim_is_own o.claimer)
next_job s o (next.Propose d v) c = refl
next_job s o (next.Hold noted sent) c = refl

-- the change of the claim is the claimer's
next_change : (s : State) (o : code.OpenClaim) (n : Next Value) (c : ClaimerChange Value)
    → (counter_prepared s (open_of o) n c).change ≡ Counts c
next_change s o next.Nothing c = refl
next_change s o next.Build c = refl
next_change s o (next.Propose d v) c = refl
next_change s o (next.Hold noted sent) c = refl

-- ---- the whole step

counter_makes : (s : State) (o : code.OpenClaim) (to : List ℕ) (w : Outcome Value)
    (step : ClaimerStep Value) → s.claim ≡ Some (open_of o) → IsWeighedBy s.weights o.claimer
    → IsClaimerStep Value o.claimer w step → IsWithin (length s.weights) w.member.stage
    → IsTo s to step.next
    → Makes s (answered s o.unit (host_in s.claim) to w)
    (counter_prepared s (open_of o) step.next step.change)
counter_makes s o to w step at weighed is within reach = record {
  is = λ i. record { note = note i; sends = sends i; job = job i; claim = claim i };
  weighed =
      subst (λ d. IsChangeWeighedBy s.weights d s.claim)
      (sym (next_change s o step.next step.change))
      (subst (IsChangeWeighedBy s.weights (Counts step.change)) (sym at)
      (count_weighed s.weights o.claimer step.change weights
      (subst (IsWithin (length s.weights)) is.stage within)));
}
  where
    weights : weights_of (claimer_then o.claimer step.change) ≡ s.weights
    weights = is.weights ∙ weighed.same

    note : (counter_prepared s (open_of o) step.next step.change).note
        ≡ option_map (note_at s o.unit) w.note
    note =
        next_notes s o step.next step.change
        ∙ ap (option_map (note_at s o.unit)) (sym is.note)

    sends : (counter_prepared s (open_of o) step.next step.change).sends
        ≡ sends_of s o.unit to w.send
    sends =
        next_sends s o to step.next step.change reach ∙ ap (sends_of s o.unit to) (sym is.said)

    host : host_in s.claim ≡ o.host
    host = ap host_in at

    shown : is_building (view s o.unit).stage ≡ is_building (stage_of_claimer o.claimer)
    shown = ap is_building (shown_stage s o at weighed)

    builds : builds_next step.next
        ≡ (is_building (stage_then o.claimer step.change)
        && not (is_building (stage_of_claimer o.claimer)))
    builds =
        is.builds
        ∙ ap (λ t. is_building t && not (is_building (stage_of_claimer o.claimer))) is.stage

    job : (counter_prepared s (open_of o) step.next step.change).job
        ≡ job_then s o.unit (host_in s.claim) w.member.stage
    job =
        next_job s o step.next step.change
        ∙ (job_counted s o.unit o.host o.claimer step.change (builds_next step.next) shown builds
        ∙ ap₂ (job_then s o.unit) (sym host) (sym is.stage))

    far : progress_of (length s.weights) w.member.stage
        ≡ counted step.change (progress_of_claimer o.claimer)
    far =
        ap (progress_of (length s.weights)) is.stage
        ∙ counted_is (length s.weights) o.claimer step.change (ap length weights)
        (ap length weighed.same)

    claim : changed (counter_prepared s (open_of o) step.next step.change).change s.claim
        ≡ claim_then s.claim o.unit (host_in s.claim)
        (progress_of (length s.weights) w.member.stage)
    claim =
        ap (λ d. changed d s.claim) (next_change s o step.next step.change)
        ∙ (ap (changed (Counts step.change)) at
        ∙ moved_is s (open_of o) (length s.weights) w.member.stage
        (counted step.change (progress_of_claimer o.claimer)) at far)

-- ---- receivers

-- a promise notes nothing
quorum_notes : (x : members.Member Value) (c : Claim) (k : Option (Ballot Value))
    → (on_quorum x c k).note ≡ None
quorum_notes x c None = refl
quorum_notes x c (Some b) = refl

promise_notes : (enough : Quorums) (x : members.Member Value) (t : members.Stage Value)
    (p : PromiseOf Value) → (on_promise enough x t p).note ≡ None
promise_notes enough x members.Closed p = refl
promise_notes enough x (members.Gathering c S k) p =
    let P : Outcome Value → Type 0 = λ o. o.note ≡ None in
    cond_both (claim_same p.claim c) _ _ P
    (λ t. cond_both (enough (with_member S p.member)) _ _ P
    (λ q. quorum_notes x c (kept_report k p.report)) (λ q. refl)) (λ f. refl)
promise_notes enough x (members.Building c) p = refl
promise_notes enough x (members.Voting b S) p = refl

-- so what follows is sent to all
to_everyone : (s : State) (n : Next Value) → noted_next n ≡ None → IsTo s (everyone s) n
to_everyone s next.Nothing quiet = tt
to_everyone s next.Build quiet = tt
to_everyone s (next.Propose d v) quiet = refl
to_everyone s (next.Hold noted sent) quiet =
    absurd (let no : Some (members.Held noted) ≡ None = quiet in cc)

-- Whether the message is a proposal.
abbrev proposes : Option (messages.Message Value) → Bool
proposes None = false
proposes (Some (messages.Offer c)) = false
proposes (Some (messages.Promise p)) = false
proposes (Some (messages.Propose b)) = true
proposes (Some (messages.Vote m c)) = false
proposes (Some (messages.Nay m c p)) = false
proposes (Some (messages.Agreed v)) = false
proposes (Some messages.Ask) = false

-- no proposal follows from a vote
vote_proposes : (enough : Quorums) (x : members.Member Value) (t : members.Stage Value) (m : ℕ)
    (c : Claim) → proposes (on_vote enough x t m c).send ≡ false
vote_proposes enough x members.Closed m c = refl
vote_proposes enough x (members.Gathering d S k) m c = refl
vote_proposes enough x (members.Building d) m c = refl
vote_proposes enough x (members.Voting b S) m c =
    let P : Outcome Value → Type 0 = λ o. proposes o.send ≡ false in
    cond_both (claim_same c b.claim) _ _ P
    (λ t. cond_both (enough (with_member S m)) _ _ P (λ q. refl) (λ q. refl)) (λ f. refl)

-- so what follows is sent to all others
to_others : (s : State) (n : Next Value) → proposes (said_next n) ≡ false → IsTo s (others s) n
to_others s next.Nothing none = tt
to_others s next.Build none = tt
to_others s (next.Propose d v) none = absurd (true≢false none)
to_others s (next.Hold noted sent) none = refl

-- ---- a promise, and a vote

-- the outcome counts only members
outcome_within : (s : State) (u from : ℕ) (body : Body Value) → IsMember s
    → u < length s.division.units → from < length s.weights
    → IsWithin (length s.weights) (outcome_of s u from body).member.stage
outcome_within s u from body is lt sender =
    (fits s (record { sender = from; tree = []; path = name_at s u; body = body }) u is
    (name_is_found s.division u is.division lt) sender).within

-- a promise is answered as the claimer does
pub promise_makes : (s : State) (o : code.OpenClaim) (u from : ℕ) (c : Claim)
    (report : Option (Claim × Value)) (step : ClaimerStep Value) (made : Prepared) → IsMember s
    → s.claim ≡ Some (open_of o) → o.unit ≡ u → IsWeighedBy s.weights o.claimer
    → u < length s.division.units → from < length s.weights
    → IsStepOnPromise o.claimer from c report step
    → made ≡ counter_prepared s (open_of o) step.next step.change
    → Makes s (hears s u from (bodies.Promise c report)) made
promise_makes s o u from c report step made is at unit weighed lt sender of same =
    subst (λ v. Makes s (hears s v from (bodies.Promise c report)) made) unit
    (subst (Makes s (hears s o.unit from (bodies.Promise c report))) (sym same)
    (counter_makes s o (everyone s) (outcome_of s o.unit from (bodies.Promise c report)) step at
    weighed
    (subst (λ w. IsClaimerStep Value o.claimer w step) (sym outcome) (of (view s o.unit) stage))
    (outcome_within s o.unit from (bodies.Promise c report) is
    (subst (λ v. v < length s.division.units) (sym unit) lt) sender)
    (to_everyone s step.next (sym (of (view s o.unit) stage).note
    ∙ promise_notes (is_majority (weights_of o.claimer)) (view s o.unit)
    (stage_of_claimer o.claimer) promise))))
  where
    promise : PromiseOf Value
    promise = record { member = from; claim = c; report = report_of report }

    stage : (view s o.unit).stage ≡ stage_of_claimer o.claimer
    stage = shown_stage s o at weighed

    outcome : outcome_of s o.unit from (bodies.Promise c report)
        ≡ promise_outcome o.claimer from c report (view s o.unit)
    outcome =
        ap₂ (λ ws t. on_promise (is_majority ws) (view s o.unit) t
        (record { member = from; claim = c; report = report_of report })) (sym weighed.same) stage

-- so is a vote
pub vote_makes : (s : State) (o : code.OpenClaim) (u from : ℕ) (c : Claim)
    (step : ClaimerStep Value) (made : Prepared) → IsMember s
    → s.claim ≡ Some (open_of o) → o.unit ≡ u → IsWeighedBy s.weights o.claimer
    → u < length s.division.units → from < length s.weights
    → IsStepOnVote o.claimer from c step
    → made ≡ counter_prepared s (open_of o) step.next step.change
    → Makes s (hears s u from (bodies.Vote c)) made
vote_makes s o u from c step made is at unit weighed lt sender of same =
    subst (λ v. Makes s (hears s v from (bodies.Vote c)) made) unit
    (subst (Makes s (hears s o.unit from (bodies.Vote c))) (sym same)
    (counter_makes s o (others s) (outcome_of s o.unit from (bodies.Vote c)) step at weighed
    (subst (λ w. IsClaimerStep Value o.claimer w step) (sym outcome) (of (view s o.unit) stage))
    (outcome_within s o.unit from (bodies.Vote c) is
    (subst (λ v. v < length s.division.units) (sym unit) lt) sender)
    (to_others s step.next (ap proposes (sym (of (view s o.unit) stage).said)
    ∙ vote_proposes (is_majority (weights_of o.claimer)) (view s o.unit)
    (stage_of_claimer o.claimer) from c))))
  where
    stage : (view s o.unit).stage ≡ stage_of_claimer o.claimer
    stage = shown_stage s o at weighed

    outcome : outcome_of s o.unit from (bodies.Vote c)
        ≡ on_vote (is_majority (weights_of o.claimer)) (view s o.unit) (stage_of_claimer o.claimer)
        from c
    outcome =
        ap₂ (λ ws t. on_vote (is_majority ws) (view s o.unit) t from c) (sym weighed.same) stage

-- ---- numbers of members

-- a member's number is below nine
pub number_within : (weights : List ℕ) (m : ℕ) → AreWeights weights → m < length weights
    → IsNumber m
number_within weights m are lt =
    let some = nat_le 1 (length weights) in
    let most = nat_le (length weights) most_members in
    let both = (and_parts (some && most) (list_all is_weight weights) are).0 in
    let few = leb-true (length weights) most_members (and_parts some most both).1 in
    omega (arith, lt, few)
