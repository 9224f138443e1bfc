-- A build is sent to all as the proposal of the claim that waits for it.
use Rattle.std.proofs.Common.{◌≡◌, ◌==◌, ℕ, Bool, true, false, Option, Some, None, Result}
use Rattle.std.proofs.Common.{Ok, Err, eqb-true, inl, inr, refl, sym, subst, ap}
use Rattle.std.proofs.Common.{◌∙◌, if◌then◌else◌}
use Rattle.std.specs.Prelude.{◌⊎◌, option_and_then, unwrap_or}
use Rattle.std.proofs.lemmas.Bool.{false≢true}
use Rattle.faults.specs.Answers.{unless_fault}
use Rattle.faults.specs.Bytes.{Text}
use Rattle.claims.specs.Member as members
use Rattle.claims.specs.Messages as messages
use Rattle.claims.specs.Quorums.{nobody}
use Rattle.claims.specs.Step.{Outcome, on_built, says}
use Rattle.claims.specs.Votes.{ballot}
use Rattle.claims.specs.declared.claim.Claim.{Claim}
use Rattle.claims.specs.Job.{Task}
use Rattle.engine.specs.declared.Letter.TheVariants as letters
use Rattle.ballots.specs.Support.{Support, of_nobody, set_of}
use Rattle.ballots.specs.declared.claimer.Claimer.TheVariants as claimers
use Rattle.ballots.specs.declared.message.Body.TheVariants as bodies
use Rattle.protocol.specs.Given.{Given}
use Rattle.protocol.specs.State.{OpenClaim, Progress, Gathering, Building, Voting, State, Value}
use Rattle.protocol.specs.InTheAgreement.{stage_of, view}
use Rattle.protocol.specs.Sends.{sent_to}
use Rattle.protocol.specs.Answers.{Answer, answered, everyone, message_of}
use Rattle.protocol.specs.Jobs.{build_by, job_of}
use Rattle.protocol.specs.Step.{answered_or, at_unit, builds, builds_under, files_refusal, host_in}
use Rattle.protocol.specs.Step.{job_again, made_by, proposes, unit_in, unless}
use Rattle.protocol.specs.declared.input.Input.TheVariants as inputs
use Rattle.protocol.specs.declared.refusal.Refusal.{Refusal}
use Rattle.protocol.specs.declared.refusal.Refusal.TheVariants as refusals
use Rattle.protocol.proofs.Asked.{stage_is}
use Rattle.member.specs.OpenClaims.{joined_in}
use Rattle.member.specs.Prepared.{IsChangeWeighedBy, Prepared, changed}
use Rattle.member.specs.inside.Steps.{IsPrepared, Makes}
use Rattle.member.specs.inside.Waiting.{job_at, waiting_for}
use Rattle.member.specs.declared.step.ClaimChange.TheVariants.{Becomes}
use Rattle.member.proofs.MadeBuild.{both}
use Rattle.member.proofs.Preparing.{made_so}

-- The open claim waits for the build of the unit that the path names, and this is its job.
record IsWaiting (s : State) (path : Text) (u : ℕ) (job : Task) : Type 0 where
  named : unit_in s path ≡ Some u
  claim : OpenClaim
  is_open : s.claim ≡ Some claim
  unit : u ≡ claim.unit
  under : Claim
  builds : claim.progress ≡ Building under
  is : job_of s claim.unit claim.host under ≡ job

is_waiting : (s : State) (path : Text) (u : ℕ) (job : Task) → waiting_for s path ≡ Some (u, job)
    → IsWaiting s path u job
is_waiting s path u job e = by_unit (unit_in s path) refl e
  where
    by_progress : (v : ℕ) (o : OpenClaim) → unit_in s path ≡ Some v → s.claim ≡ Some o
        → v ≡ o.unit → (p : Progress) → o.progress ≡ p
        → both v (job_again s o p) ≡ Some (u, job) → IsWaiting s path u job
    by_progress v o named at same (Gathering c joined k) p e =
        absurd (let no : None ≡ Some (u, job) = e in cc)
    by_progress v o named at same (Voting b joined) p e =
        absurd (let no : None ≡ Some (u, job) = e in cc)
    by_progress v o named at same (Building c) p e =
        let pair = ap (λ x. unwrap_or x (u, job)) e in
        let unit = ap (λ (x : ℕ × Task). x.0) pair in
        record {
          named = named ∙ ap (λ k. Some k) unit;
          claim = o;
          is_open = at;
          unit = sym unit ∙ same;
          under = c;
          builds = p;
          is = ap (λ (x : ℕ × Task). x.1) pair;
        }

    by_test : (v : ℕ) (o : OpenClaim) → unit_in s path ≡ Some v → s.claim ≡ Some o → (b : Bool)
        → (v == o.unit) ≡ b → both v (if b then job_again s o o.progress else None) ≡ Some (u, job)
        → IsWaiting s path u job
    by_test v o named at true t e =
        by_progress v o named at (eqb-true v o.unit t) o.progress refl e
    by_test v o named at false t e = absurd (let no : None ≡ Some (u, job) = e in cc)

    by_claim : (v : ℕ) → unit_in s path ≡ Some v → (claim : Option OpenClaim) → s.claim ≡ claim
        → both v (option_and_then
        (λ o. if v == o.unit then job_again s o o.progress else None) claim) ≡ Some (u, job)
        → IsWaiting s path u job
    by_claim v named None at e = absurd (let no : None ≡ Some (u, job) = e in cc)
    by_claim v named (Some o) at e = by_test v o named at (v == o.unit) refl e

    by_unit : (v : Option ℕ) → unit_in s path ≡ v
        → option_and_then (λ u. both u (job_at s u)) v ≡ Some (u, job) → IsWaiting s path u job
    by_unit None named e = absurd (let no : None ≡ Some (u, job) = e in cc)
    by_unit (Some v) named e = by_claim v named s.claim refl e

-- what the abstract member does with the build
abbrev proposed : State → ℕ → Claim → Value → Outcome Value
proposed s u c v =
    says (record (view s u) { stage = members.Voting (ballot c v) nobody })
    (messages.Propose (ballot c v))

module _ (s : State) (path : Text) (given : Given) (u : ℕ) (job : Task)
    (waits : waiting_for s path ≡ Some (u, job)) where
  claim_is : IsWaiting s path u job
  claim_is = is_waiting s path u job waits

  -- the build by the job
  abbrev build : Value
  build = build_by s u job given

  -- the answer to the build
  abbrev right : Result Answer Refusal
  right = at_unit refusals.NoClaim (builds s given) (unit_in s path)

  -- the answer if it is not refused
  abbrev agreeing : Value → Answer
  agreeing v =
      answered s u claim_is.claim.host (everyone s) (proposed s u claim_is.under v)

  job_is : job_of s u claim_is.claim.host claim_is.under ≡ job
  job_is =
      ap (λ v. job_of s v claim_is.claim.host claim_is.under) claim_is.unit ∙ claim_is.is

  stage_here : (view s u).stage ≡ members.Building claim_is.under
  stage_here =
      ap (λ v. (view s v).stage) claim_is.unit
      ∙ (stage_is s claim_is.claim claim_is.is_open ∙ ap stage_of claim_is.builds)

  right_is : right ≡ unless (files_refusal s u given build) (Ok (agreeing build))
  right_is =
      ap (at_unit refusals.NoClaim (builds s given)) claim_is.named
      ∙ (ap (builds_under s u (host_in s.claim) given) stage_here
      ∙ (ap (λ claim. proposes s u (host_in claim) given
      (build_by s u (job_of s u (host_in claim) claim_is.under) given)) claim_is.is_open
      ∙ (ap (λ j. proposes s u claim_is.claim.host given (build_by s u j given)) job_is
      ∙ ap (λ stage. unless (files_refusal s u given build)
      (answered_or refusals.NoClaim s u claim_is.claim.host (everyone s)
      (on_built (view s u) stage build))) stage_here)))

  -- files that don't make a build
  pub built_refused : (e : Refusal)
      → (e ≡ refusals.Memory) ⊎ (made_by s u job given ≡ Err e)
      → IsPrepared s (inputs.Built path given) (Err e)
  built_refused e why = record {
    answered = record {
      right = right;
      answers = record { letter = letters.T; shown = tt; right = refl };
      given = elim why [
        | inl memory ↦ inl memory
        | inr made ↦
            inr (right_is ∙ by_refusal (files_refusal s u given build) made)
      ];
    };
    weighed = tt;
  }
    where
      by_refusal : (r : Option Refusal) → unless_fault r build ≡ Err e
          → unless r (Ok (agreeing build)) ≡ Err e
      by_refusal None made = absurd (let no : Ok build ≡ Err e = made in cc)
      by_refusal (Some f) made =
          let known : ◌≡◌ {A = Result Value Refusal} (Err f) (Err e) = made in
          let same : f ≡ e = cc in
          ap (λ f. Err f) same

  -- files that make a build
  right_made : (v : Value) → made_by s u job given ≡ Ok v → right ≡ Ok (agreeing v)
  right_made v made = right_is ∙ by_refusal (files_refusal s u given build) made
    where
      by_refusal : (r : Option Refusal) → unless_fault r build ≡ Ok v
          → unless r (Ok (agreeing build)) ≡ Ok (agreeing v)
      by_refusal None made =
          let known : ◌≡◌ {A = Result Value Refusal} (Ok build) (Ok v) = made in
          let same : build ≡ v = cc in
          ap (λ w. Ok (agreeing w)) same
      by_refusal (Some f) made = absurd (let no : Err f ≡ Ok v = made in cc)

  pub built_said : (v : Value) (step : Prepared) (host : ℕ) (c : Claim) (t : Support)
      → made_by s u job given ≡ Ok v → host ≡ job.host → c ≡ job.claim → t ≡ of_nobody s.weights
      → step.note ≡ None
      → step.sends ≡ sent_to (Some (message_of s u (bodies.Propose c v))) (everyone s)
      → step.job ≡ None
      → step.change ≡ Becomes
      (record { unit = u; host = host; claimer = claimers.Voting c v t })
      → IsPrepared s (inputs.Built path given) (Ok step)
  built_said v step host c t made host_is c_is tally note sends none change =
      let here = host_is ∙ sym (ap (λ (j : Task). j.host) job_is) in
      let under = c_is ∙ sym (ap (λ (j : Task). j.claim) job_is) in
      let becomes =
      ap (λ ch. changed ch s.claim) change
      ∙ λ i. Some (record {
        unit = u;
        host = here i;
        progress = Voting (ballot (under i) v) (ap joined_in tally i);
      }) in
      let sent =
      sends ∙ ap (λ d. sent_to (Some (message_of s u (bodies.Propose d v))) (everyone s)) under in
      let makes : Makes s (agreeing v) step = record {
        is = λ i. record { note = note i; sends = sent i; job = none i; claim = becomes i };
        weighed = subst (λ ch. IsChangeWeighedBy s.weights ch s.claim) (sym change) (record {
          same = ap (λ (t : Support). t.weights) tally;
          within = λ k e.
              absurd (false≢true (sym (ap (λ (t : Support). set_of t k) tally) ∙ e));
        });
      } in
      let prepared = made_so s right (agreeing v) step (right_made v made) makes in
      record {
        answered = record {
          right = right;
          answers = record { letter = letters.T; shown = tt; right = refl };
          given = prepared.given;
        };
        weighed = prepared.weighed;
      }
