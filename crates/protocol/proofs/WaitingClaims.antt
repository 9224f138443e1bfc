-- A claim that waits for a build began to wait because of a promise, in a step that gives its job,
-- or waited before.
use Rattle.std.proofs.Common.{◌≡◌, ◌==◌, ◌&&◌, ◌⊎◌, not, ℕ, Bool, true, false, List, [], ◌∷◌}
use Rattle.std.proofs.Common.{Option, Some, None, Ok, Err, IfSome, eqb-true, refl, sym, subst, ap}
use Rattle.std.proofs.Common.{◌∙◌, inl, inr, if◌then◌else◌, length, option_map}
use Rattle.std.specs.Prelude.{unwrap_or}
use Rattle.std.proofs.lemmas.Bool.{cond_both}
use Rattle.claims.specs.declared.claim.Claim.{Claim}
use Rattle.claims.specs.Claims.{claim_same, is_above, is_below, is_promised}
use Rattle.claims.specs.Quorums.{Quorums, is_majority, with_member}
use Rattle.claims.specs.Votes.{Ballot, is_voted, kept_report, report_of}
use Rattle.claims.specs.Member as members
use Rattle.claims.specs.Nodes as nodes
use Rattle.claims.specs.Step.{Outcome, on_agreed, on_ask, on_built, on_failed, on_inquire}
use Rattle.claims.specs.Step.{on_message, on_nudge, on_offer, on_promise, on_propose, on_quorum}
use Rattle.claims.specs.Step.{on_start, on_vote}
use Rattle.claims.proofs.Order.{claim_same_true}
use Rattle.ballots.specs.InTheAgreement.{is_building, said}
use Rattle.ballots.specs.declared.message.Body.{Body}
use Rattle.ballots.specs.declared.message.Body.TheVariants as bodies
use Rattle.ballots.specs.declared.message.Message.{Message}
use Rattle.engine.specs.declared.Letter.{Letter}
use Rattle.engine.specs.Division.{number_named}
use Rattle.protocol.specs.Given.{Given}
use Rattle.protocol.specs.State.{OpenClaim, Progress, Gathering, Building, Voting, State, Value}
use Rattle.protocol.specs.InTheAgreement.{claim_of, progress_of, stage_of, view}
use Rattle.protocol.specs.Member.{claim_in}
use Rattle.protocol.specs.Answers.{Answer, claim_then, dropped, everyone, job_then}
use Rattle.protocol.specs.Answers.{others}
use Rattle.protocol.specs.Jobs.{build_by, job_of}
use Rattle.protocol.specs.Laws.{ClaimsWaitOncePromised, IsNoMessage, IsPromiseOf, WaitingClaimsHaveJobs}
use Rattle.protocol.specs.Step.{Answers, answer, answered_or, builds, builds_under, claim_refusal}
use Rattle.protocol.specs.Step.{claims}
use Rattle.protocol.specs.Step.{fails, files_refusal, header_refusal, hears, host_in}
use Rattle.protocol.specs.Step.{job_again, members_of, nudges, outcome_of, silent}
use Rattle.protocol.specs.Step.{stranger, unit_in}
use Rattle.protocol.specs.Step.{asks as member_asks}
use Rattle.protocol.specs.declared.input.Input.{Input}
use Rattle.protocol.specs.declared.input.Input.TheVariants as inputs
use Rattle.protocol.specs.declared.refusal.Refusal.{Refusal}
use Rattle.protocol.specs.declared.refusal.Refusal.TheVariants as refusals
use Rattle.protocol.proofs.Answering.{answer_in, has_unit, not_refused}
use Rattle.protocol.proofs.Asked.{by_outcome, of_this, stage_is, without_job}

-- ---- in the theory: a member that waits after a message waited before, or the message is a
-- promise of its claim

module _ (x : members.Member Value) (c : Claim) where
  -- if the outcome waits for a build under the claim, so did the member
  abbrev Waited : Outcome Value → Type 0
  Waited o = o.member.stage ≡ members.Building c → x.stage ≡ members.Building c

  offer_waited : (me : ℕ) (d : Claim) → Waited (on_offer me x d)
  offer_waited me d =
      cond_both (is_above d x.promised) _ _ Waited (λ t e. e)
      (λ f. cond_both (is_promised d x.promised && not (is_voted d x.voted)) _ _ Waited
      (λ t e. e) (λ g e. e))

  proposal_waited : (me : ℕ) (b : Ballot Value) → Waited (on_propose me x b)
  proposal_waited me b =
      cond_both (not (is_below b.claim x.promised) && not (is_voted b.claim x.voted)) _ _ Waited
      (λ t e. e)
      (λ f. cond_both (is_voted b.claim x.voted && is_promised b.claim x.promised) _ _ Waited
      (λ t e. e) (λ g e. e))

  vote_waited : (enough : Quorums) (s : members.Stage Value) (m : ℕ) (d : Claim)
      → Waited (on_vote enough x s m d)
  vote_waited enough members.Closed m d = λ e. e
  vote_waited enough (members.Gathering b S k) m d = λ e. e
  vote_waited enough (members.Building b) m d = λ e. e
  vote_waited enough (members.Voting b S) m d =
      cond_both (claim_same d b.claim) _ _ Waited
      (λ t. cond_both (enough (with_member S m)) _ _ Waited (λ u e. absurd cc) (λ u e. absurd cc))
      (λ t e. e)

  agreed_waited : (h : Option Value) (v : Value) → Waited (on_agreed x h v)
  agreed_waited None v e = absurd (let no : members.Closed ≡ members.Building c = e in cc)
  agreed_waited (Some u) v e = e

  ask_waited : (h : Option Value) → Waited (on_ask x h)
  ask_waited None e = e
  ask_waited (Some v) e = e

  -- the member didn't wait, and the body is a promise of the claim
  abbrev Promised : Body Value → Type 0
  Promised body =
      (is_building x.stage ≡ false) × (report : Option (Claim × Value))
      × (body ≡ bodies.Promise c report)

  -- if the outcome waits under the claim, so did the member, or the body is a promise of the claim
  abbrev WaitedOrPromised : Body Value → Outcome Value → Type 0
  WaitedOrPromised body o =
      o.member.stage ≡ members.Building c → (x.stage ≡ members.Building c) ⊎ Promised body

  -- a majority that reported nothing
  quorum_promised : (d : Claim) (r : Option (Ballot Value)) (report : Option (Claim × Value))
      → is_building x.stage ≡ false
      → WaitedOrPromised (bodies.Promise d report) (on_quorum x d r)
  quorum_promised d None report none e =
      let same : d ≡ c = cc in inr (none, report, ap (λ c. bodies.Promise c report) same)
  quorum_promised d (Some b) report none e = absurd cc

  promise_waited : (enough : Quorums) (s : members.Stage Value) (from : ℕ) (d : Claim)
      (report : Option (Claim × Value)) → x.stage ≡ s
      → WaitedOrPromised (bodies.Promise d report) (on_promise enough x s
      (record { member = from; claim = d; report = report_of report }))
  promise_waited enough members.Closed from d report at = λ e. inl e
  promise_waited enough (members.Building b) from d report at = λ e. inl e
  promise_waited enough (members.Voting b S) from d report at = λ e. inl e
  promise_waited enough (members.Gathering b S k) from d report at =
      cond_both (claim_same d b) _ _ (WaitedOrPromised (bodies.Promise d report))
      (λ t. cond_both (enough (with_member S from)) _ _ (WaitedOrPromised (bodies.Promise d report))
      (λ u. subst (λ b. WaitedOrPromised (bodies.Promise d report) (on_quorum x b r))
      (claim_same_true d b t) (quorum_promised d r report (ap is_building at))) (λ u e. absurd cc))
      (λ t e. inl e)
    where
      r : Option (Ballot Value)
      r = kept_report k (report_of report)

  -- whatever message arrives
  message_waited : (enough : Quorums) (me from : ℕ) (body : Body Value)
      → WaitedOrPromised body (on_message enough me x (said from body))
  message_waited enough me from (bodies.Offer d) e = inl (offer_waited me d e)
  message_waited enough me from (bodies.Promise d report) e =
      promise_waited enough x.stage from d report refl e
  message_waited enough me from (bodies.Propose d v) e = inl (proposal_waited me _ e)
  message_waited enough me from (bodies.Vote d) e = inl (vote_waited enough x.stage from d e)
  message_waited enough me from (bodies.Nay d p) e = inl e
  message_waited enough me from (bodies.Agreed v) e = inl (agreed_waited x.held v e)
  message_waited enough me from bodies.Ask e = inl (ask_waited x.held e)

-- ---- the claim after a member's answer

-- the claim that waits for a build
abbrev waiting : ℕ → ℕ → Claim → OpenClaim
waiting u host c = record { unit = u; host = host; progress = Building c }

-- the open claim, if it waits for a build of the unit
is_waiting_claim : (u : ℕ) (claim : Option OpenClaim) (c : Claim)
    → nodes.stage_at (option_map claim_of claim) u ≡ members.Building c
    → claim ≡ Some (waiting u (host_in claim) c)
is_waiting_claim u None c e = absurd (let no : members.Closed ≡ members.Building c = e in cc)
is_waiting_claim u (Some q) c e = by_test (u == q.unit) refl e
  where
    by_progress : (p : Progress) → stage_of p ≡ members.Building c → p ≡ Building c
    by_progress (Gathering d joined k) e =
        absurd (let no : stage_of (Gathering d joined k) ≡ members.Building c = e in cc)
    by_progress (Building d) e = let same : d ≡ c = cc in ap Building same
    by_progress (Voting b joined) e =
        absurd (let no : stage_of (Voting b joined) ≡ members.Building c = e in cc)

    by_test : (b : Bool) → (u == q.unit) ≡ b
        → (if b then stage_of q.progress else members.Closed) ≡ members.Building c
        → Some q ≡ Some (waiting u q.host c)
    by_test true t e =
        let unit : q.unit ≡ u = sym (eqb-true u q.unit t) in
        let progress = by_progress q.progress e in
        λ i. Some (record { unit = unit i; host = q.host; progress = progress i })
    by_test false t e = absurd (let no : members.Closed ≡ members.Building c = e in cc)

-- a claim that remains after one is dropped was there before
dropped_was : (claim : Option OpenClaim) (u : ℕ) (p : OpenClaim) → dropped claim u ≡ Some p
    → claim ≡ Some p
dropped_was None u p e = e
dropped_was (Some q) u p e = by_test (u == q.unit) e
  where
    by_test : (b : Bool) → (if b then None else Some q) ≡ Some p → Some q ≡ Some p
    by_test true e = absurd (let no : None ≡ Some p = e in cc)
    by_test false e = e

-- If the outcome waits, the member waited before under that claim, for that host.
abbrev Waits : State → ℕ → ℕ → Outcome Value → Type 0
Waits s u host o =
    (c : Claim) → o.member.stage ≡ members.Building c
    → ((view s u).stage ≡ members.Building c) × (host ≡ host_in s.claim)

-- so the remaining claim was there before
stood_before : (s : State) (u host : ℕ) (o : Outcome Value) → Waits s u host o
    → (stage : members.Stage Value) → o.member.stage ≡ stage → (p : OpenClaim) (c : Claim)
    → claim_then s.claim u host (progress_of (length s.weights) stage) ≡ Some p
    → p.progress ≡ Building c → s.claim ≡ Some p
stood_before s u host o waits members.Closed at p c e is = dropped_was s.claim u p e
stood_before s u host o waits (members.Gathering d S k) at p c e is =
    let no = ap (λ q. (unwrap_or q p).progress) e ∙ is in absurd cc
stood_before s u host o waits (members.Voting b S) at p c e is =
    let no = ap (λ q. (unwrap_or q p).progress) e ∙ is in absurd cc
stood_before s u host o waits (members.Building d) at p c e is =
    let before = waits d at in
    is_waiting_claim u s.claim d before.0
    ∙ (ap (λ h. Some (waiting u h d)) (sym before.1) ∙ e)

-- ---- whatever is asked

asked_stood : (f : Refusal) (s : State) (u host : ℕ) (to : List ℕ) (o : Option (Outcome Value))
    (a : Answer) → IfSome o (Waits s u host) → answered_or f s u host to o ≡ Ok a
    → (p : OpenClaim) (c : Claim) → a.claim ≡ Some p → p.progress ≡ Building c → s.claim ≡ Some p
asked_stood f s u host to o a waits e p c left is =
    let made = by_outcome f s u host to o a e in
    let this = of_this (Waits s u host) o made.0 waits made.1 in
    stood_before s u host made.0 this made.0.member.stage refl p c
    (ap (λ (a : Answer). a.claim) made.2 ∙ left) is

-- an input that opens, builds or drops a claim doesn't make it wait
start_waits : (s : State) (u host : ℕ) (h : Option Value) (above : ℕ)
    → IfSome (on_start s.me (view s u) h above) (Waits s u host)
start_waits s u host (Some v) above = tt
start_waits s u host None above = λ c e. absurd cc

built_waits : (s : State) (u host : ℕ) (stage : members.Stage Value) (v : Value)
    → IfSome (on_built (view s u) stage v) (Waits s u host)
built_waits s u host members.Closed v = tt
built_waits s u host (members.Gathering d S k) v = tt
built_waits s u host (members.Building d) v = λ c e. absurd cc
built_waits s u host (members.Voting b S) v = tt

failed_waits : (s : State) (u host : ℕ) (stage : members.Stage Value)
    → IfSome (on_failed (view s u) stage) (Waits s u host)
failed_waits s u host members.Closed = tt
failed_waits s u host (members.Gathering d S k) = tt
failed_waits s u host (members.Building d) = λ c e. absurd cc
failed_waits s u host (members.Voting b S) = tt

inquiry_waits : (s : State) (u : ℕ) (h : Option Value)
    → IfSome (on_inquire (view s u) h) (Waits s u (host_in s.claim))
inquiry_waits s u (Some v) = tt
inquiry_waits s u None = λ c e. (e, refl)

built_stood : (s : State) (u : ℕ) (given : Given) (stage : members.Stage Value) (a : Answer)
    → builds_under s u (host_in s.claim) given stage ≡ Ok a
    → (p : OpenClaim) (c : Claim) → a.claim ≡ Some p → p.progress ≡ Building c → s.claim ≡ Some p
built_stood s u given members.Closed a e = absurd (let no : Err refusals.NoClaim ≡ Ok a = e in cc)
built_stood s u given (members.Gathering d S k) a e =
    absurd (let no : Err refusals.NoClaim ≡ Ok a = e in cc)
built_stood s u given (members.Voting b S) a e =
    absurd (let no : Err refusals.NoClaim ≡ Ok a = e in cc)
built_stood s u given (members.Building d) a e =
    let build = build_by s u (job_of s u (host_in s.claim) d) given in
    asked_stood refusals.NoClaim s u (host_in s.claim) (everyone s)
    (on_built (view s u) (view s u).stage build) a
    (built_waits s u (host_in s.claim) (view s u).stage build)
    (not_refused (files_refusal s u given build) _ a e).1

-- a nudge leaves the claim unchanged
nudge_stage : (x : members.Member Value) (s : members.Stage Value) (o : Outcome Value)
    → on_nudge x s ≡ Some o → o.member.stage ≡ x.stage
nudge_stage x members.Closed o e = absurd (let no : None ≡ Some o = e in cc)
nudge_stage x (members.Gathering c S k) o e = ap (λ q. (unwrap_or q o).member.stage) (sym e)
nudge_stage x (members.Building c) o e = ap (λ q. (unwrap_or q o).member.stage) (sym e)
nudge_stage x (members.Voting b S) o e = ap (λ q. (unwrap_or q o).member.stage) (sym e)

nudged_stood : (s : State) (claim : Option OpenClaim) (a : Answer) → s.claim ≡ claim
    → nudges s claim ≡ Ok a
    → (p : OpenClaim) (c : Claim) → a.claim ≡ Some p → p.progress ≡ Building c → s.claim ≡ Some p
nudged_stood s None a at e p c open_is waits =
    absurd (let no : Err refusals.NoClaim ≡ Ok a = e in cc)
nudged_stood s (Some o) a at e p c open_is waits =
    let given = without_job (job_again s o o.progress) _ a e in
    let outcome = on_nudge (view s o.unit) (view s o.unit).stage in
    let made = by_outcome refusals.NoClaim s o.unit o.host (silent s o.progress) outcome given.0
    given.1 in
    let stage = nudge_stage (view s o.unit) (view s o.unit).stage made.0 made.1 in
    let claim : given.0.claim ≡ a.claim = ap (λ (a : Answer). a.claim) given.2 in
    by_progress o.progress refl
    (ap (λ stage. claim_then s.claim o.unit o.host (progress_of (length s.weights) stage))
    (sym (stage ∙ stage_is s o at))
    ∙ (ap (λ (a : Answer). a.claim) made.2 ∙ (claim ∙ open_is)))
  where
    by_progress : (q : Progress) → o.progress ≡ q
        → claim_then s.claim o.unit o.host (progress_of (length s.weights) (stage_of q)) ≡ Some p
        → s.claim ≡ Some p
    by_progress (Gathering d joined k) is e =
        let no = ap (λ q. (unwrap_or q p).progress) e ∙ waits in absurd cc
    by_progress (Voting b joined) is e =
        let no = ap (λ q. (unwrap_or q p).progress) e ∙ waits in absurd cc
    by_progress (Building d) is e =
        at ∙ ((λ i. Some (record { unit = o.unit; host = o.host; progress = is i })) ∙ e)

-- The claim waited before, or began to wait because of a promise, and its job is given.
abbrev Comes : State → Input → Answer → OpenClaim → Claim → Type 0
Comes s input a p c =
    (s.claim ≡ Some p)
    ⊎ ((a.job ≡ Some (job_of s p.unit p.host c)) × IsPromiseOf s p.unit c input)

-- a message about the unit, for which the theory's member has this outcome
heard_comes : (s : State) (m : Message Value) (a : Answer) (u : ℕ)
    → number_named s.division m.path ≡ Some u → (o : Outcome Value)
    → ((c : Claim) → WaitedOrPromised (view s u) c m.body o)
    → (stage : members.Stage Value) → o.member.stage ≡ stage
    → a.job ≡ job_then s u (host_in s.claim) stage → (p : OpenClaim) (c : Claim)
    → claim_then s.claim u (host_in s.claim) (progress_of (length s.weights) stage) ≡ Some p
    → p.progress ≡ Building c → Comes s (inputs.Message m) a p c
heard_comes s m a u named o waits members.Closed at job p c e is =
    inl (dropped_was s.claim u p e)
heard_comes s m a u named o waits (members.Gathering d S k) at job p c e is =
    let no = ap (λ q. (unwrap_or q p).progress) e ∙ is in absurd cc
heard_comes s m a u named o waits (members.Voting b S) at job p c e is =
    let no = ap (λ q. (unwrap_or q p).progress) e ∙ is in absurd cc
heard_comes s m a u named o waits (members.Building d) at job p c e is =
    elim (waits d at) [
      | inl before ↦ inl (is_waiting_claim u s.claim d before ∙ ap (λ q. Some q) same)
      | inr promised ↦ inr (
        job ∙ (ap (λ b. if b then None else Some (job_of s u (host_in s.claim) d)) promised.0
            ∙ λ i. Some (job_of s ((same i).unit) ((same i).host) (claim i))),
        record {
          message = m;
          report = promised.1;
          is = refl;
          named = named ∙ ap (λ (q : OpenClaim). Some q.unit) same;
          body = promised.2 ∙ ap (λ c. bodies.Promise c promised.1) claim;
        },
      )
    ]
  where
    same : waiting u (host_in s.claim) d ≡ p
    same = ap (λ q. unwrap_or q p) e

    claim : d ≡ c
    claim = ap claim_in (ap (λ (q : OpenClaim). q.progress) same ∙ is)

by_input : (s : State) (letter : Letter) (input : Input) (a : Answer)
    → answer s letter input ≡ Ok a
    → (p : OpenClaim) (c : Claim) → a.claim ≡ Some p → p.progress ≡ Building c → Comes s input a p c
by_input s letter (inputs.Claim path host above) a e p c left is =
    let found = has_unit (stranger s path) (claims s letter host above) (unit_in s path) a e in
    let u = found.0 in
    inl (asked_stood refusals.Held s u host (everyone s)
    (on_start s.me (view s u) (view s u).held above) a
    (start_waits s u host (view s u).held above)
    (not_refused (claim_refusal s letter above u) _ a found.2).1 p c left is)
by_input s letter (inputs.Built path given) a e p c left is =
    let found = has_unit refusals.NoClaim (builds s given) (unit_in s path) a e in
    inl (built_stood s found.0 given (view s found.0).stage a found.2 p c left is)
by_input s letter (inputs.Failed path) a e p c left is =
    let found = has_unit refusals.NoClaim (fails s) (unit_in s path) a e in
    inl (asked_stood refusals.NoClaim s found.0 (host_in s.claim) []
    (on_failed (view s found.0) (view s found.0).stage) a
    (failed_waits s found.0 (host_in s.claim) (view s found.0).stage) found.2 p c left is)
by_input s letter inputs.Nudge a e p c left is =
    inl (nudged_stood s s.claim a refl e p c left is)
by_input s letter (inputs.Ask path) a e p c left is =
    let found = has_unit (stranger s path) (member_asks s) (unit_in s path) a e in
    inl (asked_stood refusals.Held s found.0 (host_in s.claim) (others s)
    (on_inquire (view s found.0) (view s found.0).held) a
    (inquiry_waits s found.0 (view s found.0).held) found.2 p c left is)
by_input s letter (inputs.Message m) a e p c left is =
    let members = m.sender ∷ members_of m.body in
    let tested = not_refused (header_refusal s m.tree members m.path) _ a e in
    let found = has_unit refusals.Unlisted (λ u. Ok (hears s u m.sender m.body))
    (number_named s.division m.path) a tested.1 in
    let u = found.0 in
    let same : hears s u m.sender m.body ≡ a = ap (answer_in a) found.2 in
    let outcome = outcome_of s u m.sender m.body in
    heard_comes s m a u found.1 outcome
    (λ d. message_waited (view s u) d (is_majority s.weights) s.me m.sender m.body)
    outcome.member.stage refl (ap (λ (a : Answer). a.job) (sym same)) p c
    (ap (λ (a : Answer). a.claim) same ∙ left) is

-- after an input that is not a message, the claim waited before
pub waited_before : (s : State) (letter : Letter) (input : Input) (a : Answer)
    → IsNoMessage input → answer s letter input ≡ Ok a
    → (p : OpenClaim) (c : Claim) → a.claim ≡ Some p → p.progress ≡ Building c → s.claim ≡ Some p
waited_before s letter input a none e p c left is =
    elim (by_input s letter input a e p c left is) [
      | inl before ↦ before
      | inr now ↦ absurd (subst IsNoMessage now.1.is none)
    ]

comes : (s : State) (input : Input) (a : Answer) (o : OpenClaim) (c : Claim)
    → Answers s input (Ok a) → a.claim ≡ Some o → o.progress ≡ Building c → Comes s input a o c
comes s input a o c answers left waits =
    by_input s answers.letter input a (sym answers.right) o c left waits

pub waiting_claims : WaitingClaimsHaveJobs
waiting_claims s input a o c is answers left waits =
    elim (comes s input a o c answers left waits) [
      | inl before ↦ inr before
      | inr now ↦ inl now.0
    ]

pub waits_once_promised : ClaimsWaitOncePromised
waits_once_promised s input a o c is answers left waits =
    elim (comes s input a o c answers left waits) [
      | inl before ↦ inr before
      | inr now ↦ inl now.1
    ]
