-- The step of a voter, and that of a claimer, are the answer of the abstract member.
use Rattle.std.proofs.Common.{◌≡◌, ◌==◌, ◌<◌, ◌&&◌, not, ℕ, Bool, true, false, List, [], ◌∷◌}
use Rattle.std.proofs.Common.{Option, Some, None, eqb-true, refl, sym, subst, ap, ◌∙◌, length}
use Rattle.std.proofs.Common.{if◌then◌else◌, option_map}
use Rattle.std.specs.Option.{ForSome}
use Rattle.std.proofs.lemmas.Bool.{and_parts, cond-false, cond-true, eq-eqb, true≢false}
use Rattle.claims.specs.Member as members
use Rattle.claims.specs.Nodes as nodes
use Rattle.claims.specs.Step.{Outcome}
use Rattle.claims.specs.Quorums.{named_in}
use Rattle.claims.specs.Votes.{ballot, report_of}
use Rattle.claims.specs.declared.claim.Claim.{Claim}
use Rattle.ballots.specs.InTheAgreement.{is_building, note_of, said}
use Rattle.ballots.specs.InTheAgreement.{claim_of, stage_then}
use Rattle.ballots.specs.InTheAgreement.{claimer_then, weights_of}
use Rattle.ballots.specs.InTheAgreement.{stage_of as stage_of_claimer}
use Rattle.ballots.specs.Support.{Support, set_of}
use Rattle.ballots.specs.declared.claimer.Claimer.{Claimer}
use Rattle.ballots.specs.declared.claimer.Claimer.TheVariants as claimers
use Rattle.ballots.specs.declared.claimer.ClaimerChange.{ClaimerChange}
use Rattle.ballots.specs.declared.claimer.ClaimerChange.TheVariants as change
use Rattle.ballots.specs.declared.message.Body.{Body}
use Rattle.ballots.specs.declared.message.Body.TheVariants.{Offer, Promise, Propose, Vote, Agreed}
use Rattle.ballots.specs.declared.message.Body.TheVariants.{Ask, Nay}
use Rattle.ballots.specs.declared.message.Fact.{Fact}
use Rattle.ballots.specs.declared.message.Fact.TheVariants as facts
use Rattle.protocol.specs.State.{OpenClaim, Progress, State, Value}
use Rattle.protocol.specs.InTheAgreement.{body_in, fact_in, pair_of, progress_of}
use Rattle.protocol.specs.InTheAgreement.{stage_of, view}
use Rattle.protocol.specs.InTheAgreement.{claim_of as node_claim}
use Rattle.protocol.specs.Member.{IsMember, claim_in}
use Rattle.protocol.specs.Answers.{answered, claim_then, job_then, message_of}
use Rattle.protocol.specs.Answers.{note_at, sends_of}
use Rattle.protocol.specs.Jobs.{job_of}
use Rattle.protocol.specs.Sends.{sent_to}
use Rattle.protocol.specs.Step.{host_in}
use Rattle.protocol.proofs.Asked.{stage_is}
use Rattle.protocol.proofs.TheTheory.{named}
use Rattle.member.specs.OpenClaims.{IsWeighedBy, joined_in, open_of, progress_of_claimer}
use Rattle.member.specs.declared.open_claim.OpenClaim as code
use Rattle.member.specs.Prepared.{counted, moved}
use Rattle.member.specs.inside.Counting.{on_unit, voter_prepared}
use Rattle.member.specs.inside.Steps.{Makes}

-- ---- facts and bodies

fact_again : (f : Fact Value) → fact_in (note_of f) ≡ f
fact_again (facts.Opened round) = refl
fact_again (facts.Promised c) = refl
fact_again (facts.Voted c v) = refl
fact_again (facts.Held v) = refl

pair_again : (vote : Option (Claim × Value)) → option_map pair_of (report_of vote) ≡ vote
pair_again None = refl
pair_again (Some vote) = refl

pub body_again : (m : ℕ) (body : Body Value) → body_in (said m body) ≡ body
body_again m (Offer c) = refl
body_again m (Promise c report) = ap (Promise c) (pair_again report)
body_again m (Propose c v) = refl
body_again m (Vote c) = refl
body_again m (Agreed v) = refl
body_again m Ask = refl
body_again m (Nay c promised) = refl

-- the note of the fact about the unit
pub note_again : (s : State) (u : ℕ) (note : Option (Fact Value))
    → option_map (note_at s u) (option_map note_of note) ≡ option_map (on_unit s u) note
note_again s u None = refl
note_again s u (Some f) = ap (λ g. Some (on_unit s u g)) (fact_again f)

-- the messages to these receivers
pub sends_again : (s : State) (u : ℕ) (to : List ℕ) (body : Body Value)
    → sends_of s u to (Some (said s.me body)) ≡ sent_to (Some (message_of s u body)) to
sends_again s u to body = ap (λ b. sent_to (Some (message_of s u b)) to) (body_again s.me body)

-- ---- a claim that stays

kept_by : (n u : ℕ) (claim : Option OpenClaim)
    → ForSome claim (λ o. progress_of n (stage_of o.progress) ≡ Some o.progress)
    → claim_then claim u (host_in claim)
    (progress_of n (nodes.stage_at (option_map node_claim claim) u))
    ≡ claim
kept_by n u None joined = refl
kept_by n u (Some o) joined = by_test (u == o.unit) refl
  where
    by_test : (b : Bool) → (u == o.unit) ≡ b
        → claim_then (Some o) u o.host
        (progress_of n (if b then stage_of o.progress else members.Closed))
        ≡ Some o
    by_test true t =
        let unit = eqb-true u o.unit t in
        ap (claim_then (Some o) u o.host) (joined o refl)
        ∙ λ i. Some (record { unit = unit i; host = o.host; progress = o.progress })
    by_test false f = cond-false (u == o.unit) None (Some o) f

-- if the stage is unchanged, so is the claim
pub claim_kept : (s : State) (u : ℕ) → IsMember s
    → claim_then s.claim u (host_in s.claim) (progress_of (length s.weights) (view s u).stage)
    ≡ s.claim
claim_kept s u is = kept_by (length s.weights) u s.claim (λ o e. (is.claim o e).joined)

-- and no job is given
pub job_kept : (s : State) (u host : ℕ) → job_then s u host (view s u).stage ≡ None
job_kept s u host = by_stage (view s u).stage refl
  where
    by_stage : (stage : members.Stage Value) → (view s u).stage ≡ stage
        → job_then s u host stage ≡ None
    by_stage members.Closed at = refl
    by_stage (members.Gathering c S k) at = refl
    by_stage (members.Voting b S) at = refl
    by_stage (members.Building c) at =
        cond-true (is_building (view s u).stage) None (Some (job_of s u host c)) (ap is_building at)

-- ---- a voter's step

pub voter_makes : (s : State) (u to : ℕ) (o : Outcome Value) (note : Option (Fact Value))
    (answer : Body Value) → IsMember s → o.member.stage ≡ (view s u).stage
    → o.note ≡ option_map note_of note → o.send ≡ Some (said s.me answer)
    → Makes s (answered s u (host_in s.claim) (to ∷ []) o) (voter_prepared s u to note answer)
voter_makes s u to o note answer is stage noted sent = record {
  is = λ i. record { note = notes i; sends = sends i; job = job i; claim = claim i };
  weighed = tt;
}
  where
    n : ℕ
    n = length s.weights

    notes : option_map (on_unit s u) note ≡ option_map (note_at s u) o.note
    notes = sym (ap (option_map (note_at s u)) noted ∙ note_again s u note)

    sends : sent_to (Some (message_of s u answer)) (to ∷ []) ≡ sends_of s u (to ∷ []) o.send
    sends = sym (ap (sends_of s u (to ∷ [])) sent ∙ sends_again s u (to ∷ []) answer)

    job : None ≡ job_then s u (host_in s.claim) o.member.stage
    job = sym (ap (job_then s u (host_in s.claim)) stage ∙ job_kept s u (host_in s.claim))

    claim : s.claim ≡ claim_then s.claim u (host_in s.claim) (progress_of n o.member.stage)
    claim =
        sym (ap (λ t. claim_then s.claim u (host_in s.claim) (progress_of n t)) stage
        ∙ claim_kept s u is)

-- ---- a claimer's step

-- the progress of the claim after the count
pub counted_is : (n : ℕ) (o : Claimer Value) (c : ClaimerChange Value)
    → length (weights_of (claimer_then o c)) ≡ n → length (weights_of o) ≡ n
    → progress_of n (stage_then o c) ≡ counted c (progress_of_claimer o)
counted_is n (claimers.Gathering c t k) change.Stays after before =
    ap (λ m. progress_of m (members.Gathering c (set_of t) (report_of k)))
    (sym before)
counted_is n (claimers.Building c w) change.Stays after before = refl
counted_is n (claimers.Voting c v t) change.Stays after before =
    ap (λ m. progress_of m (stage_of_claimer (claimers.Voting c v t))) (sym before)
counted_is n (claimers.Gathering c t k) (change.Joins r report) after before =
    ap (λ m. progress_of m (stage_of_claimer (claimers.Gathering c r report))) (sym after)
counted_is n (claimers.Building c w) (change.Joins r report) after before = refl
counted_is n (claimers.Voting c v t) (change.Joins r report) after before =
    ap (λ m. progress_of m (stage_of_claimer (claimers.Voting c v r))) (sym after)
counted_is n (claimers.Gathering c t k) change.Builds after before = refl
counted_is n (claimers.Building c w) change.Builds after before = refl
counted_is n (claimers.Voting c v t) change.Builds after before = refl
counted_is n (claimers.Gathering c t k) (change.Proposes v r) after before =
    ap (λ m. progress_of m (stage_of_claimer (claimers.Voting c v r))) (sym after)
counted_is n (claimers.Building c w) (change.Proposes v r) after before =
    ap (λ m. progress_of m (stage_of_claimer (claimers.Voting c v r))) (sym after)
counted_is n (claimers.Voting c w t) (change.Proposes v r) after before =
    ap (λ m. progress_of m (stage_of_claimer (claimers.Voting c v r))) (sym after)
counted_is n (claimers.Gathering c t k) change.Ends after before = refl
counted_is n (claimers.Building c w) change.Ends after before = refl
counted_is n (claimers.Voting c v t) change.Ends after before = refl

-- the claim after the count is that of the abstract stage
pub moved_is : (s : State) (p : OpenClaim) (n : ℕ) (t : members.Stage Value) (q : Option Progress)
    → s.claim ≡ Some p → progress_of n t ≡ q
    → option_map (moved p) q ≡ claim_then s.claim p.unit (host_in s.claim) (progress_of n t)
moved_is s p n t q at e =
    by_progress q
    ∙ (ap (claim_then (Some p) p.unit p.host) (sym e)
    ∙ ap (λ claim. claim_then claim p.unit (host_in claim) (progress_of n t)) (sym at))
  where
    by_progress : (q : Option Progress)
        → option_map (moved p) q ≡ claim_then (Some p) p.unit p.host q
    by_progress None = sym (cond-true (p.unit == p.unit) None (Some p) (eq-eqb p.unit p.unit refl))
    by_progress (Some q) = refl

-- a claim that begins to wait for a build is the claimer's
built_now : (o : Claimer Value) (c : ClaimerChange Value) → is_building (stage_then o c) ≡ true
    → not (is_building (stage_of_claimer o)) ≡ true
    → stage_then o c ≡ members.Building (claim_of o)
built_now (claimers.Building d w) c now before = absurd (true≢false (sym before))
built_now (claimers.Gathering d t k) change.Stays now before = absurd (true≢false (sym now))
built_now (claimers.Gathering d t k) (change.Joins r report) now before =
    absurd (true≢false (sym now))
built_now (claimers.Gathering d t k) change.Builds now before = refl
built_now (claimers.Gathering d t k) (change.Proposes v r) now before =
    absurd (true≢false (sym now))
built_now (claimers.Gathering d t k) change.Ends now before = absurd (true≢false (sym now))
built_now (claimers.Voting d v t) change.Stays now before = absurd (true≢false (sym now))
built_now (claimers.Voting d v t) (change.Joins r report) now before =
    absurd (true≢false (sym now))
built_now (claimers.Voting d v t) change.Builds now before = refl
built_now (claimers.Voting d v t) (change.Proposes w r) now before = absurd (true≢false (sym now))
built_now (claimers.Voting d v t) change.Ends now before = absurd (true≢false (sym now))

-- a job is given if and only if a value is to be built
pub job_counted : (s : State) (u host : ℕ) (o : Claimer Value) (c : ClaimerChange Value) (b : Bool)
    → is_building (view s u).stage ≡ is_building (stage_of_claimer o)
    → b ≡ (is_building (stage_then o c) && not (is_building (stage_of_claimer o)))
    → (if b then Some (job_of s u host (claim_of o)) else None)
    ≡ job_then s u host (stage_then o c)
job_counted s u host o c true shown now =
    let parts = and_parts (is_building (stage_then o c)) (not (is_building (stage_of_claimer o)))
    (sym now) in
    let free = shown ∙ not_true (is_building (stage_of_claimer o)) parts.1 in
    sym (ap (job_then s u host) (built_now o c parts.0 parts.1)
    ∙ cond-false (is_building (view s u).stage) None (Some (job_of s u host (claim_of o))) free)
  where
    not_true : (b : Bool) → not b ≡ true → b ≡ false
    not_true true e = absurd (true≢false (sym e))
    not_true false e = refl
job_counted s u host o c false shown now = by_stage (stage_then o c) now
  where
    waited : (x : Bool) → false ≡ (true && not x) → x ≡ true
    waited true e = refl
    waited false e = absurd (true≢false (sym e))

    by_stage : (t : members.Stage Value)
        → false ≡ (is_building t && not (is_building (stage_of_claimer o)))
        → None ≡ job_then s u host t
    by_stage members.Closed e = refl
    by_stage (members.Gathering d S k) e = refl
    by_stage (members.Voting b S) e = refl
    by_stage (members.Building d) e =
        sym (cond-true (is_building (view s u).stage) None (Some (job_of s u host d))
        (shown ∙ waited (is_building (stage_of_claimer o)) e))

-- ---- the claimer's stage

-- the members that joined are exactly those in the ascending list
same_members : (t : Support) (weights : List ℕ) → t.weights ≡ weights
    → ((k : ℕ) → set_of t k ≡ true → k < length weights) → named_in (joined_in t) ≡ set_of t
same_members t weights same within =
    λ i k. named (length t.weights) (set_of t)
    (λ m joined. subst (λ ws. m < length ws) (sym same) (within m joined)) k i

pub claimer_stage : (weights : List ℕ) (o : Claimer Value) → IsWeighedBy weights o
    → stage_of (progress_of_claimer o) ≡ stage_of_claimer o
claimer_stage weights (claimers.Gathering c t k) is =
    ap (λ S. members.Gathering c S (report_of k)) (same_members t weights is.same is.within)
claimer_stage weights (claimers.Building c w) is = refl
claimer_stage weights (claimers.Voting c v t) is =
    ap (λ S. members.Voting (ballot c v) S) (same_members t weights is.same is.within)

pub shown_stage : (s : State) (o : code.OpenClaim) → s.claim ≡ Some (open_of o)
    → IsWeighedBy s.weights o.claimer → (view s o.unit).stage ≡ stage_of_claimer o.claimer
shown_stage s o at is = stage_is s (open_of o) at ∙ claimer_stage s.weights o.claimer is

-- the open claim is the claimer's
pub claim_is_own : (o : Claimer Value) → claim_in (progress_of_claimer o) ≡ claim_of o
claim_is_own (claimers.Gathering c t k) = refl
claim_is_own (claimers.Building c w) = refl
claim_is_own (claimers.Voting c v t) = refl
