-- Jobs, and the claims for which they are given.
use Rattle.std.proofs.Common.{◌≡◌, ℕ, Bool, true, false, List, [], ◌∷◌, length, Option, None, Some}
use Rattle.std.proofs.Common.{Ok, Err, refl, sym, ap, subst, ◌∙◌, if◌then◌else◌}
use Rattle.std.specs.Prelude.{unwrap_or}
use Rattle.std.specs.Option.{ForSome}
use Rattle.claims.specs.Member as members
use Rattle.claims.specs.Step.{Outcome, on_built, on_nudge}
use Rattle.claims.specs.declared.claim.Claim.{Claim}
use Rattle.ballots.specs.InTheAgreement.{is_building}
use Rattle.claims.specs.Job.{Task}
use Rattle.engine.specs.declared.Letter.{Letter}
use Rattle.engine.specs.Division.{number_named}
use Rattle.engine.proofs.Kept.{unit_good}
use Rattle.protocol.specs.State.{OpenClaim, Progress, Gathering, Building, Voting, State, Value}
use Rattle.protocol.specs.State.{name_at}
use Rattle.protocol.specs.InTheAgreement.{progress_of, stage_of, view}
use Rattle.protocol.specs.Answers.{Answer, answered, claim_then, everyone, job_then}
use Rattle.protocol.specs.Jobs.{build_by, job_of, paths_at}
use Rattle.protocol.specs.Laws.{IsJobGiven, JobsAreOfOpenClaims, JobsStay}
use Rattle.protocol.specs.Step.{answer, answered_or, asks, builds, builds_under, claim_refusal}
use Rattle.protocol.specs.Step.{claims, fails, files_refusal, header_refusal, hears, host_in}
use Rattle.protocol.specs.Step.{job_again, members_of, nudges, outcome_of, receivers, unit_in}
use Rattle.protocol.specs.declared.input.Input.{Input}
use Rattle.protocol.specs.declared.input.Input.TheVariants as inputs
use Rattle.protocol.specs.Given.{Given}
use Rattle.protocol.specs.declared.refusal.Refusal.{Refusal}
use Rattle.protocol.specs.declared.refusal.Refusal.TheVariants as refusals
use Rattle.protocol.proofs.Answering.{answer_in, has_unit, not_refused}
use Rattle.protocol.proofs.Asked.{by_outcome, stage_is, without_job}
use Rattle.protocol.proofs.HeldRecords.{deps_stay}

-- ---- a job stays while its claim waits for a build

pub jobs_stay : JobsStay
jobs_stay s input a o c is answers open_is builds same =
    let good = is.claim o open_is in
    let made = unit_good s.division o.unit is.division good.unit in
    ap (λ deps. let task : Task =
    record {
      path = name_at s o.unit;
      packages = paths_at s o.unit;
      claim = c;
      host =
          o.host;
      deps = deps;
    } in task)
    (deps_stay s a o.unit is.division.tree made.needs.within good.ready)

-- ---- a job is that of the claim that stays open

-- no job is given
none_given : (P : Task → Type 0) → ForSome None P
none_given P job e = absurd (let no : None ≡ Some job = e in cc)

-- what holds of the job holds if it is given
this_given : (P : Task → Type 0) (job : Task) → P job → ForSome (Some job) P
this_given P job holds other e = subst P (ap (λ o. unwrap_or o job) e) holds

-- the claim begins to wait for a build
given_then : (s : State) (a : Answer) (u host : ℕ) (stage : members.Stage Value)
    → a.claim ≡ claim_then s.claim u host (progress_of (length s.weights) stage)
    → ForSome (job_then s u host stage) (IsJobGiven s a)
given_then s a u host members.Closed e = none_given (IsJobGiven s a)
given_then s a u host (members.Gathering c S k) e = none_given (IsJobGiven s a)
given_then s a u host (members.Voting b S) e = none_given (IsJobGiven s a)
given_then s a u host (members.Building c) e = by_test (is_building (view s u).stage)
  where
    by_test : (b : Bool) → ForSome (if b then None else Some (job_of s u host c)) (IsJobGiven s a)
    by_test true = none_given (IsJobGiven s a)
    by_test false =
        this_given (IsJobGiven s a) (job_of s u host c)
        (record {
          claim = record { unit = u; host = host; progress = Building c };
          is_open =
              e;
          builds = refl;
          is = refl;
        })

given_answered : (s : State) (u host : ℕ) (to : List ℕ) (o : Outcome Value)
    → ForSome (answered s u host to o).job (IsJobGiven s (answered s u host to o))
given_answered s u host to o = given_then s (answered s u host to o) u host o.member.stage refl

-- whatever is asked for a unit
given_or : (f : Refusal) (s : State) (u host : ℕ) (to : List ℕ) (o : Option (Outcome Value))
    (a : Answer) → answered_or f s u host to o ≡ Ok a
    → ForSome a.job (IsJobGiven s a)
given_or f s u host to o a e =
    let made = by_outcome f s u host to o a e in
    subst (λ (a : Answer). ForSome a.job (IsJobGiven s a)) made.2
    (given_answered s u host to made.0)

given_built : (s : State) (u : ℕ) (given : Given) (stage : members.Stage Value) (a : Answer)
    → builds_under s u (host_in s.claim) given stage ≡ Ok a → ForSome a.job (IsJobGiven s a)
given_built s u given members.Closed a e = absurd (let no : Err refusals.NoClaim ≡ Ok a = e in cc)
given_built s u given (members.Gathering c S k) a e =
    absurd (let no : Err refusals.NoClaim ≡ Ok a = e in cc)
given_built s u given (members.Voting b S) a e =
    absurd (let no : Err refusals.NoClaim ≡ Ok a = e in cc)
given_built s u given (members.Building c) a e =
    let build = build_by s u (job_of s u (host_in s.claim) c) given in
    given_or refusals.NoClaim s u (host_in s.claim) (everyone s)
    (on_built (view s u) (view s u).stage build) a
    (not_refused (files_refusal s u given build) _ a e).1

-- a nudge gives the job again
nudged_building : (x : members.Member Value) (c : Claim) (stage : members.Stage Value)
    (o : Outcome Value) → x.stage ≡ stage → stage ≡ members.Building c → on_nudge x stage ≡ Some o
    → o.member.stage ≡ members.Building c
nudged_building x c members.Closed o at is e = absurd (let no : None ≡ Some o = e in cc)
nudged_building x c (members.Gathering d S k) o at is e =
    absurd (let no : members.Gathering d S k ≡ members.Building c = is in cc)
nudged_building x c (members.Voting b S) o at is e =
    absurd (let no : members.Voting b S ≡ members.Building c = is in cc)
nudged_building x c (members.Building d) o at is e = ap (λ p. (unwrap_or p o).member.stage) (sym e)
    ∙ at ∙ is

given_again : (s : State) (o : OpenClaim) (b : Answer) (x : Outcome Value) → s.claim ≡ Some o
    → (p : Progress) → o.progress ≡ p
    → on_nudge (view s o.unit) (view s o.unit).stage ≡ Some x
    → b.claim ≡ claim_then s.claim o.unit o.host (progress_of (length s.weights) x.member.stage)
    → ForSome (job_again s o p) (IsJobGiven s (record b { job = job_again s o p }))
given_again s o b x open_is (Gathering c joined k) e ex claim =
    none_given (IsJobGiven s (record b { job = None }))
given_again s o b x open_is (Voting v joined) e ex claim =
    none_given (IsJobGiven s (record b { job = None }))
given_again s o b x open_is (Building c) e ex claim =
    let stage = nudged_building (view s o.unit) c (view s o.unit).stage x refl
    (stage_is s o open_is ∙ ap stage_of e) ex in
    this_given (IsJobGiven s (record b { job = Some (job_of s o.unit o.host c) }))
    (job_of s o.unit o.host c) (record {
      claim = record { unit = o.unit; host = o.host; progress = Building c };
      is_open = claim ∙ ap (λ stage. claim_then s.claim o.unit o.host
          (progress_of (length s.weights) stage)) stage;
      builds = refl;
      is = refl;
    })

given_nudged : (s : State) (claim : Option OpenClaim) (a : Answer) → s.claim ≡ claim
    → nudges s claim ≡ Ok a → ForSome a.job (IsJobGiven s a)
given_nudged s None a at e = absurd (let no : Err refusals.NoClaim ≡ Ok a = e in cc)
given_nudged s (Some o) a at e =
    let given = without_job (job_again s o o.progress) _ a e in
    let made = by_outcome _ s o.unit o.host _ _ given.0 given.1 in
    subst (λ (a : Answer). ForSome a.job (IsJobGiven s a)) given.2
    (given_again s o given.0 made.0 at o.progress refl made.1
    (ap (λ (a : Answer). a.claim) (sym made.2)))

given_by : (s : State) (letter : Letter) (input : Input) (a : Answer) → answer s letter input ≡ Ok a
    → ForSome a.job (IsJobGiven s a)
given_by s letter (inputs.Claim path host above) a e =
    let found = has_unit _ (claims s letter host above) (unit_in s path) a e in
    given_or _ s found.0 host _ _ a
    (not_refused (claim_refusal s letter above found.0) _ a found.2).1
given_by s letter (inputs.Built path given) a e =
    let found = has_unit _ (builds s given) (unit_in s path) a e in
    given_built s found.0 given (view s found.0).stage a found.2
given_by s letter (inputs.Failed path) a e =
    let found = has_unit _ (fails s) (unit_in s path) a e in
    given_or _ s found.0 (host_in s.claim) [] _ a found.2
given_by s letter inputs.Nudge a e = given_nudged s s.claim a refl e
given_by s letter (inputs.Ask path) a e =
    let found = has_unit _ (asks s) (unit_in s path) a e in
    given_or _ s found.0 (host_in s.claim) _ _ a found.2
given_by s letter (inputs.Message m) a e =
    let tested = not_refused (header_refusal s m.tree (m.sender ∷ members_of m.body) m.path) _ a e
    in
    let found = has_unit refusals.Unlisted (λ u. Ok (hears s u m.sender m.body))
    (number_named s.division m.path) a tested.1 in
    let same : hears s found.0 m.sender m.body ≡ a = ap (answer_in a) found.2 in
    subst (λ (a : Answer). ForSome a.job (IsJobGiven s a)) same
    (given_answered s found.0 (host_in s.claim) (receivers s m.sender m.body)
    (outcome_of s found.0 m.sender m.body))

pub jobs_are_of_claims : JobsAreOfOpenClaims
jobs_are_of_claims s input a is answers = given_by s answers.letter input a (sym answers.right)
