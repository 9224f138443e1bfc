-- The member's step. The theory (crate agreement) says what the member notes, what it says, and
-- what becomes of its claim. This file says which inputs are refused, in the order of the tests,
-- and who receives what is said.
use Rattle.std.specs.Prelude.{◌≡◌, ℕ, max, Bool, true, false, not, nat_le, nat_lt, List, [], ◌∷◌}
use Rattle.std.specs.Prelude.{Option, None, Some, is_none, is_some, length, option_and_then, option_map, Result, Ok}
use Rattle.std.specs.Prelude.{Err, if◌then◌else◌}
use Rattle.std.specs.List.{list_all}
use Rattle.std.specs.Str.{bytes_eq}
use Rattle.faults.specs.Answers.{IsRightUnless, first_that_applies, option_or, unless_fault}
use Rattle.faults.specs.Bytes.{Text}
use Rattle.claims.specs.Quorums.{is_majority}
use Rattle.claims.specs.Member as members
use Rattle.claims.specs.Member.{Facts, no_facts}
use Rattle.claims.specs.Step.{Outcome, on_built, on_failed, on_inquire, on_message, on_nudge}
use Rattle.claims.specs.Step.{on_start}
use Rattle.claims.specs.Claim.{greatest_round}
use Rattle.claims.specs.Job.{Task}
use Rattle.engine.specs.declared.Letter.{Letter}
use Rattle.engine.specs.declared.Letter.TheVariants as letters
use Rattle.engine.specs.Division.{number_found, number_named}
use Rattle.engine.specs.Tree.{position_of}
use Rattle.package_record.specs.Making.{build_fault}
use Rattle.ballots.specs.InTheAgreement.{said}
use Rattle.ballots.specs.declared.message.Body.{Body}
use Rattle.ballots.specs.declared.message.Body.TheVariants.{Offer, Promise, Propose, Vote, Agreed}
use Rattle.ballots.specs.declared.message.Body.TheVariants.{Ask, Nay}
use Rattle.ballots.specs.declared.message.Message.{Message}
use Rattle.ballots.specs.declared.message.Note.{Note}
use Rattle.protocol.specs.State.{HasLetter, OpenClaim, Progress, Gathering, Building, Voting, State}
use Rattle.protocol.specs.State.{Value, facts_at, is_held}
use Rattle.protocol.specs.InTheAgreement.{view}
use Rattle.protocol.specs.Given.{Given}
use Rattle.protocol.specs.Jobs.{are_given, build_by, job_of, paths_at}
use Rattle.protocol.specs.Answers.{Answer, after, answered, everyone, missing, others, tree_digest}
use Rattle.protocol.specs.declared.refusal.Refusal.{Refusal}
use Rattle.protocol.specs.declared.refusal.Refusal.TheVariants as refusals
use Rattle.protocol.specs.declared.input.Input.{Input}
use Rattle.protocol.specs.declared.sends.Send.{Send}
use Rattle.protocol.specs.declared.input.Input.TheVariants as inputs

-- ---- how a step is put together

-- the refusal if there is one, or else the answer
abbrev pub unless : Option Refusal → Result Answer Refusal → Result Answer Refusal
unless None answer = answer
unless (Some refusal) answer = Err refusal

-- the answer for the unit, or this refusal if there is no unit
abbrev pub at_unit : Refusal → (ℕ → Result Answer Refusal) → Option ℕ → Result Answer Refusal
at_unit refusal answer None = Err refusal
at_unit refusal answer (Some u) = answer u

-- the answer from the outcome of the theory's member, or this refusal if that member refuses
abbrev pub answered_or : Refusal → State → ℕ → ℕ → List ℕ → Option (Outcome Value)
    → Result Answer Refusal
answered_or refusal s u host to None = Err refusal
answered_or refusal s u host to (Some outcome) = Ok (answered s u host to outcome)

-- the host of the open claim; read only if one is open
abbrev pub host_in : Option OpenClaim → ℕ
host_in None = 0
host_in (Some o) = o.host

-- The unit that the path of an input names: by the unit's name, or else as one of its packages.
abbrev pub unit_in : State → Text → Option ℕ
unit_in s path = number_found s.division path

-- the refusal of a path that names no unit: it is ignored, or not listed
abbrev pub stranger : State → Text → Refusal
stranger s path = if is_some (position_of s.division.tree path) then refusals.Ignored else
    refusals.Unlisted

-- ---- Claim: open a claim in a new round, and offer it to all

-- Whether the letter means that the unit waits for what its build needs.
abbrev pub is_waiting : Letter → Bool
is_waiting letters.T = true
is_waiting _ = false

-- the first that applies: the unit is held, it waits, no round is left
abbrev pub claim_refusal : State → Letter → ℕ → ℕ → Option Refusal
claim_refusal s letter above u = first_that_applies (
    (is_held s u, refusals.Held)
    ∷ (is_waiting letter, refusals.Waiting)
    ∷ (nat_le greatest_round (max above (facts_at s u).opened), refusals.RoundsSpent)
    ∷ [])

-- opens a claim for the unit
abbrev pub claims : State → Letter → ℕ → ℕ → ℕ → Result Answer Refusal
claims s letter host above u =
    unless (claim_refusal s letter above u)
    (answered_or refusals.Held s u host (everyone s)
    (on_start s.me (view s u) (view s u).held above))

-- ---- Built and Failed, of a claim that waits for a build

-- the first that applies: the files are of other packages, a file's name is bad, the build is too
-- large
abbrev pub files_refusal : State → ℕ → Given → Value → Option Refusal
files_refusal s u given build = option_or
    (first_that_applies ((not (are_given (paths_at s u) given), refusals.OtherPackages) ∷ []))
    (option_map refusals.BadFiles (build_fault build))

-- the build of the unit by the job, or why the files don't make one
abbrev pub made_by : State → ℕ → Task → Given → Result Value Refusal
made_by s u job given =
    unless_fault (files_refusal s u given (build_by s u job given)) (build_by s u job given)

-- sends the build to all as the claim's proposal
abbrev pub proposes : State → ℕ → ℕ → Given → Value → Result Answer Refusal
proposes s u host given build =
    unless (files_refusal s u given build)
    (answered_or refusals.NoClaim s u host (everyone s)
    (on_built (view s u) (view s u).stage build))

-- proposes what the claim's job makes of these files; refused unless the claim waits for a build
abbrev pub builds_under : State → ℕ → ℕ → Given → members.Stage Value → Result Answer Refusal
builds_under s u host given (members.Building c) =
    proposes s u host given (build_by s u (job_of s u host c) given)
builds_under s u host given members.Closed = Err refusals.NoClaim
builds_under s u host given (members.Gathering c S k) = Err refusals.NoClaim
builds_under s u host given (members.Voting b S) = Err refusals.NoClaim

-- proposes the build of the unit
abbrev pub builds : State → Given → ℕ → Result Answer Refusal
builds s given u = builds_under s u (host_in s.claim) given (view s u).stage

-- drops the claim
abbrev pub fails : State → ℕ → Result Answer Refusal
fails s u = answered_or refusals.NoClaim s u (host_in s.claim) []
    (on_failed (view s u) (view s u).stage)

-- ---- Nudge: ask again for what the open claim waits for

-- the members that have not answered yet
abbrev pub silent : State → Progress → List ℕ
silent s (Gathering c joined k) = missing s joined
silent s (Building c) = []
silent s (Voting b joined) = missing s joined

-- the job again, if the claim waits for a build
abbrev pub job_again : State → OpenClaim → Progress → Option Task
job_again s o (Gathering c joined k) = None
job_again s o (Building c) = Some (job_of s o.unit o.host c)
job_again s o (Voting b joined) = None

-- the job of the open claim, if that waits for a build
abbrev pub job_of_claim : State → Option Task
job_of_claim s = option_and_then (λ o. job_again s o o.progress) s.claim

-- the answer, with this job
abbrev pub with_job : Option Task → Result Answer Refusal → Result Answer Refusal
with_job job (Err e) = Err e
with_job job (Ok a) = Ok (record a { job = job })

-- asks again for what the open claim waits for
abbrev pub nudges : State → Option OpenClaim → Result Answer Refusal
nudges s None = Err refusals.NoClaim
nudges s (Some o) =
    with_job (job_again s o o.progress)
    (answered_or refusals.NoClaim s o.unit o.host (silent s o.progress)
    (on_nudge (view s o.unit) (view s o.unit).stage))

-- ---- Ask

-- asks all others for the agreed build
abbrev pub asks : State → ℕ → Result Answer Refusal
asks s u = answered_or refusals.Held s u (host_in s.claim) (others s)
    (on_inquire (view s u) (view s u).held)

-- ---- messages

-- The members named by the claims in a body. Claims inside a record don't count.
abbrev pub members_of : Body Value → List ℕ
members_of (Offer c) = c.member ∷ []
members_of (Promise c None) = c.member ∷ []
members_of (Promise c (Some vote)) = c.member ∷ vote.0.member ∷ []
members_of (Propose c v) = c.member ∷ []
members_of (Vote c) = c.member ∷ []
members_of (Agreed v) = []
members_of Ask = []
members_of (Nay c promised) = c.member ∷ promised.member ∷ []

-- The first that applies: the sender has another tree, a number is not a member's, or the path is
-- not a unit's name.
abbrev pub header_refusal : State → List ℕ → List ℕ → Text → Option Refusal
header_refusal s tree named_members path = first_that_applies (
    (not (bytes_eq tree (tree_digest s.division.tree)), refusals.OtherTree)
    ∷ (not (list_all (λ k. nat_lt k (length s.weights)) named_members), refusals.NotAMember)
    ∷ (is_none (number_named s.division path), refusals.Unlisted)
    ∷ [])

-- The receivers of the answer to the message: the claim's member gets a promise or a vote, all get
-- a proposal, and all others, or the member that asked, get the agreed build.
abbrev pub receivers : State → ℕ → Body Value → List ℕ
receivers s from (Offer c) = c.member ∷ []
receivers s from (Promise c report) = everyone s
receivers s from (Propose c v) = c.member ∷ []
receivers s from (Vote c) = others s
receivers s from (Agreed v) = []
receivers s from Ask = from ∷ []
receivers s from (Nay c promised) = []

-- the outcome of the theory's member for the message
abbrev pub outcome_of : State → ℕ → ℕ → Body Value → Outcome Value
outcome_of s u from body = on_message (is_majority s.weights) s.me (view s u) (said from body)

-- the answer to the message about the unit
abbrev pub hears : State → ℕ → ℕ → Body Value → Answer
hears s u from body =
    answered s u (host_in s.claim) (receivers s from body) (outcome_of s u from body)

-- the answer to a message, or its refusal
abbrev pub heard : State → Message Value → Result Answer Refusal
heard s m =
    unless (header_refusal s m.tree (m.sender ∷ members_of m.body) m.path)
    (at_unit refusals.Unlisted (λ u. Ok (hears s u m.sender m.body))
    (number_named s.division m.path))

-- ---- the step

-- The answer or the refusal, given the letter of the unit that the input's path names. Only a claim
-- depends on the letter.
abbrev pub answer : State → Letter → Input → Result Answer Refusal
answer s letter (inputs.Claim path host above) =
    at_unit (stranger s path) (claims s letter host above) (unit_in s path)
answer s letter (inputs.Built path given) =
    at_unit refusals.NoClaim (builds s given) (unit_in s path)
answer s letter (inputs.Failed path) = at_unit refusals.NoClaim (fails s) (unit_in s path)
answer s letter inputs.Nudge = nudges s s.claim
answer s letter (inputs.Ask path) = at_unit (stranger s path) (asks s) (unit_in s path)
answer s letter (inputs.Message m) = heard s m

-- the unit whose letter an input depends on
abbrev pub unit_claimed : State → Input → Option ℕ
unit_claimed s (inputs.Claim path host above) = unit_in s path
unit_claimed s (inputs.Built path given) = None
unit_claimed s (inputs.Failed path) = None
unit_claimed s inputs.Nudge = None
unit_claimed s (inputs.Ask path) = None
unit_claimed s (inputs.Message m) = None

-- This is the letter of the unit, if there is a unit.
abbrev pub IsLetterOf : State → Option ℕ → Letter → Type 0
IsLetterOf s None letter = Unit {0}
IsLetterOf s (Some u) letter = HasLetter s u letter

-- The member answers the input with this answer or refusal.
pub record Answers (s : State) (input : Input) (a : Result Answer Refusal) : Type 0 where
  pub letter : Letter
  pub shown : IsLetterOf s (unit_claimed s input) letter
  pub right : a ≡ answer s letter input

-- A call returned the right answer or refusal, or ran out of memory.
pub record HasAnswered (s : State) (input : Input) (result : Result Answer Refusal) : Type 0 where
  pub right : Result Answer Refusal
  pub answers : Answers s input right
  pub given : IsRightUnless refusals.Memory result right

-- the output of a step: what is noted, what is sent, and what is to be built
abbrev pub Told : Type 0
Told = Option (Note Value) × List Send × Option Task

-- the output of this answer
abbrev pub told_by : Answer → Told
told_by a = (a.note, a.sends, a.job)

-- the output of an answer, or its refusal
abbrev pub told_right : Result Answer Refusal → Result Told Refusal
told_right (Ok a) = Ok (told_by a)
told_right (Err e) = Err e

-- the member after a call that may have taken the step returned this result
abbrev pub taken : State → Result Answer Refusal → Result Told Refusal → State
taken s (Ok a) (Ok t) = after s a
taken s (Ok a) (Err e) = s
taken s (Err f) t = s

-- A call that prepares a step and takes it either returned the right output and took that step, or
-- refused it and left the member unchanged.
pub record HasHandled (old new : State) (input : Input) (result : Result Told Refusal) : Type 0
  where
    pub right : Result Answer Refusal
    pub answers : Answers old input right
    pub given : IsRightUnless refusals.Memory result (told_right right)
    pub state : new ≡ taken old right result

-- what is known of the unit, or nothing if there is no unit
abbrev pub facts_of_unit : State → Option ℕ → Facts Value
facts_of_unit s None = no_facts
facts_of_unit s (Some u) = facts_at s u

-- what the member knows of the unit that the path names
abbrev pub facts_named : State → Text → Facts Value
facts_named s path = facts_of_unit s (unit_in s path)
