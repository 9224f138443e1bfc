-- If a member's step leaves a claim open for a unit, the claim was open before, or the unit was
-- queued when it was claimed.
use Rattle.std.proofs.Common.{◌≡◌, ◌==◌, ◌<◌, ℕ, Bool, true, false, List, [], ◌∷◌, Option, Some, None, Ok, Err, length, option_map, eqb-true, refl, sym, ap, subst, ◌∙◌, if◌then◌else◌}
use Rattle.std.specs.Prelude.{cond, unwrap_or}
use Rattle.std.proofs.lemmas.Bool.{cond_both}
use Rattle.claims.specs.Member as members
use Rattle.claims.specs.Nodes as nodes
use Rattle.claims.specs.Quorums.{is_majority, named_in}
use Rattle.claims.specs.Step.{Outcome, on_built, on_failed, on_inquire, on_nudge, on_start}
use Rattle.ballots.specs.InTheAgreement.{said}
use Rattle.ballots.specs.declared.message.Message.{Message}
use Rattle.engine.specs.Division.{number_named}
use Rattle.engine.specs.declared.Letter.{Letter}
use Rattle.faults.specs.Bytes.{Text}
use Rattle.protocol.specs.Answers.{Answer, claim_then, dropped, everyone, others}
use Rattle.protocol.specs.Given.{Given}
use Rattle.protocol.specs.InTheAgreement.{claim_of, progress_of, stage_of, view}
use Rattle.protocol.specs.Jobs.{build_by, job_of}
use Rattle.protocol.specs.Member.{IsMember, joined_so_far}
use Rattle.protocol.specs.State.{Building, Gathering, HasLetter, OpenClaim, Progress, State, Value, Voting, is_held}
use Rattle.protocol.specs.Step.{IsLetterOf, answer, answered_or, builds, builds_under, claim_refusal, claims, fails, files_refusal, header_refusal, heard, hears, host_in, is_waiting, job_again, members_of, nudges, outcome_of, silent, stranger, unit_claimed, unit_in}
use Rattle.protocol.specs.Step.{asks as member_asks}
use Rattle.protocol.specs.declared.input.Input.{Input}
use Rattle.protocol.specs.declared.input.Input.TheVariants as inputs
use Rattle.protocol.specs.declared.refusal.Refusal.{Refusal}
use Rattle.protocol.specs.declared.refusal.Refusal.TheVariants as refusals
use Rattle.protocol.proofs.Answering.{answer_in, has_unit, not_refused}
use Rattle.protocol.proofs.Asked.{by_outcome, of_this, unit_is_one, without_job}
use Rattle.protocol.proofs.GoodClaims.{IsGoodStage, built_good, failed_good, inquire_good, message_good, nudge_good}
use Rattle.protocol.proofs.StayingMembers.{nobody_is_short}
use Rattle.std.specs.Prelude.{IfSome}

-- a claim that remains after one is dropped was there before
dropped_was : (claim : Option OpenClaim) (u : ℕ) (p : OpenClaim) → dropped claim u ≡ Some p
    → claim ≡ Some p
dropped_was None u p e = e
dropped_was (Some q) u p e = by_test (u == q.unit) e
  where
    by_test : (b : Bool) → (if b then None else Some q) ≡ Some p → Some q ≡ Some p
    by_test true e = absurd (let no : None ≡ Some p = e in cc)
    by_test false e = e

-- the first tests of a claim
first_is_not : (b : Bool) (f : Refusal) (rest : Option Refusal) → cond b (Some f) rest ≡ None
    → (b ≡ false) × (rest ≡ None)
first_is_not true f rest e = absurd (let no : Some f ≡ None = e in cc)
first_is_not false f rest e = (refl, e)

-- P holds of each unit that is claimed when it is not held and does not wait, and of the unit of
-- the open claim.
module _ (s : State) (is : IsMember s) (P : ℕ → Type 0)
    (opens : (u : ℕ) (letter : Letter) → u < length s.division.units → HasLetter s u letter
    → is_held s u ≡ false → is_waiting letter ≡ false → P u)
    (stood : (o : OpenClaim) → s.claim ≡ Some o → P o.unit) where
  -- the claim at this stage is for a unit of which P holds
  abbrev Good : ℕ → members.Stage Value → Type 0
  Good u stage = IsGoodStage (λ c. P u) (is_majority s.weights) stage

  by_progress : (u : ℕ) (p : Progress) → P u
      → is_majority s.weights (named_in (joined_so_far p)) ≡ false → Good u (stage_of p)
  by_progress u (Gathering c joined k) own short = (own, short)
  by_progress u (Building c) own short = own
  by_progress u (Voting b joined) own short = (own, short)

  by_claim : (u : ℕ) (claim : Option OpenClaim) → s.claim ≡ claim
      → Good u (nodes.stage_at (option_map claim_of claim) u)
  by_claim u None at = tt
  by_claim u (Some o) at =
      cond_both (u == o.unit) (stage_of o.progress) members.Closed (Good u)
      (λ same. subst (λ v. Good v (stage_of o.progress)) (sym (eqb-true u o.unit same))
      (by_progress o.unit o.progress (stood o at) (is.claim o at).short))
      (λ other. tt)

  view_good : (u : ℕ) → Good u (view s u).stage
  view_good u = by_claim u s.claim refl

  -- so P holds of the unit of the remaining claim
  left_by : (u host : ℕ) (stage : members.Stage Value) → Good u stage → (p : OpenClaim)
      → claim_then s.claim u host (progress_of (length s.weights) stage) ≡ Some p → P p.unit
  left_by u host members.Closed good p e = stood p (dropped_was s.claim u p e)
  left_by u host (members.Gathering c S k) good p e =
      subst P (ap (λ q. (unwrap_or q p).unit) e) good.0
  left_by u host (members.Building c) good p e = subst P (ap (λ q. (unwrap_or q p).unit) e) good
  left_by u host (members.Voting b S) good p e =
      subst P (ap (λ q. (unwrap_or q p).unit) e) good.0

  -- what is asked for a unit
  asked_left : (f : Refusal) (u host : ℕ) (to : List ℕ) (o : Option (Outcome Value)) (a : Answer)
      → ((x : Outcome Value) → o ≡ Some x → Good u x.member.stage)
      → answered_or f s u host to o ≡ Ok a
      → (p : OpenClaim) → a.claim ≡ Some p → P p.unit
  asked_left f u host to o a good e p left =
      let made = by_outcome f s u host to o a e in
      left_by u host made.0.member.stage (good made.0 made.1) p
      (ap (λ (a : Answer). a.claim) made.2 ∙ left)

  good_of : (u : ℕ) (o : Option (Outcome Value)) (x : Outcome Value)
      → IfSome o (λ o. Good u o.member.stage) → o ≡ Some x → Good u x.member.stage
  good_of u o x good e = of_this (λ (o : Outcome Value). Good u o.member.stage) o x good e

  -- ---- a claim

  start_good : (u above : ℕ) (h : Option Value) (x : Outcome Value) → P u
      → on_start s.me (view s u) h above ≡ Some x → Good u x.member.stage
  start_good u above (Some v) x own e = absurd (let no : None ≡ Some x = e in cc)
  start_good u above None x own e =
      subst (λ (o : Outcome Value). Good u o.member.stage) (ap (λ p. unwrap_or p x) e)
      (own, nobody_is_short s.weights)

  claim_left : (letter : Letter) (path : Text) (host above u : ℕ) (a : Answer)
      → unit_in s path ≡ Some u → IsLetterOf s (Some u) letter
      → claims s letter host above u ≡ Ok a
      → (p : OpenClaim) → a.claim ≡ Some p → P p.unit
  claim_left letter path host above u a found shown e =
      let tested = not_refused (claim_refusal s letter above u) _ a e in
      let free = first_is_not (is_held s u) refusals.Held _ tested.0 in
      let waits = first_is_not (is_waiting letter) refusals.Waiting _ free.1 in
      let own = opens u letter (unit_is_one s path u found) shown free.0 waits.0 in
      asked_left refusals.Held u host (everyone s) (on_start s.me (view s u) (view s u).held above)
      a (λ x ex. start_good u above (view s u).held x own ex) tested.1

  -- ---- the other inputs

  build_left : (given : Given) (u : ℕ) (a : Answer) (stage : members.Stage Value)
      → builds_under s u (host_in s.claim) given stage ≡ Ok a
      → (p : OpenClaim) → a.claim ≡ Some p → P p.unit
  build_left given u a members.Closed e =
      absurd (let no : Err refusals.NoClaim ≡ Ok a = e in cc)
  build_left given u a (members.Gathering c S k) e =
      absurd (let no : Err refusals.NoClaim ≡ Ok a = e in cc)
  build_left given u a (members.Voting b S) e =
      absurd (let no : Err refusals.NoClaim ≡ Ok a = e in cc)
  build_left given u a (members.Building c) e =
      let build = build_by s u (job_of s u (host_in s.claim) c) given in
      let tested = not_refused (files_refusal s u given build) _ a e in
      let good = view_good u in
      asked_left refusals.NoClaim u (host_in s.claim) (everyone s)
      (on_built (view s u) (view s u).stage build) a
      (λ x ex. good_of u _ x
      (built_good (λ c. P u) (is_majority s.weights) (nobody_is_short s.weights) (view s u) good
      (view s u).stage build good) ex)
      tested.1

  failure_left : (u : ℕ) (a : Answer) → fails s u ≡ Ok a
      → (p : OpenClaim) → a.claim ≡ Some p → P p.unit
  failure_left u a e =
      asked_left refusals.NoClaim u (host_in s.claim) [] (on_failed (view s u) (view s u).stage) a
      (λ x ex. good_of u _ x
      (failed_good (λ c. P u) (is_majority s.weights) (nobody_is_short s.weights) (view s u)
      (view_good u) (view s u).stage) ex)
      e

  question_left : (u : ℕ) (a : Answer) → member_asks s u ≡ Ok a
      → (p : OpenClaim) → a.claim ≡ Some p → P p.unit
  question_left u a e =
      asked_left refusals.Held u (host_in s.claim) (others s)
      (on_inquire (view s u) (view s u).held) a
      (λ x ex. good_of u _ x
      (inquire_good (λ c. P u) (is_majority s.weights) (nobody_is_short s.weights) (view s u)
      (view_good u) (view s u).held) ex)
      e

  nudge_left : (claim : Option OpenClaim) (a : Answer) → nudges s claim ≡ Ok a
      → (p : OpenClaim) → a.claim ≡ Some p → P p.unit
  nudge_left None a e p left = absurd (let no : Err refusals.NoClaim ≡ Ok a = e in cc)
  nudge_left (Some o) a e p left =
      let given = without_job (job_again s o o.progress) _ a e in
      asked_left refusals.NoClaim o.unit o.host (silent s o.progress)
      (on_nudge (view s o.unit) (view s o.unit).stage) given.0
      (λ x ex. good_of o.unit _ x
      (nudge_good (λ c. P o.unit) (is_majority s.weights) (nobody_is_short s.weights)
      (view s o.unit) (view_good o.unit) (view s o.unit).stage) ex)
      given.1 p (ap (λ (a : Answer). a.claim) given.2 ∙ left)

  message_left : (m : Message Value) (a : Answer) → heard s m ≡ Ok a
      → (p : OpenClaim) → a.claim ≡ Some p → P p.unit
  message_left m a e p left =
      let tested = not_refused (header_refusal s m.tree (m.sender ∷ members_of m.body) m.path) _ a
      e in
      let found = has_unit refusals.Unlisted (λ u. Ok (hears s u m.sender m.body))
      (number_named s.division m.path) a tested.1 in
      let u = found.0 in
      let same : hears s u m.sender m.body ≡ a = ap (answer_in a) found.2 in
      left_by u (host_in s.claim) (outcome_of s u m.sender m.body).member.stage
      (message_good (λ c. P u) (is_majority s.weights) (nobody_is_short s.weights) (view s u)
      (view_good u) s.me (said m.sender m.body)) p
      (ap (λ (a : Answer). a.claim) same ∙ left)

  -- This holds whatever the member is asked.
  pub claim_that_is_left : (letter : Letter) (input : Input) (a : Answer)
      → IsLetterOf s (unit_claimed s input) letter → answer s letter input ≡ Ok a
      → (p : OpenClaim) → a.claim ≡ Some p → P p.unit
  claim_that_is_left letter (inputs.Claim path host above) a shown e =
      let found = has_unit (stranger s path) (claims s letter host above) (unit_in s path) a e in
      claim_left letter path host above found.0 a found.1
      (subst (λ u. IsLetterOf s u letter) found.1 shown) found.2
  claim_that_is_left letter (inputs.Built path given) a shown e =
      let found = has_unit refusals.NoClaim (builds s given) (unit_in s path) a e in
      build_left given found.0 a (view s found.0).stage found.2
  claim_that_is_left letter (inputs.Failed path) a shown e =
      let found = has_unit refusals.NoClaim (fails s) (unit_in s path) a e in
      failure_left found.0 a found.2
  claim_that_is_left letter inputs.Nudge a shown e = nudge_left s.claim a e
  claim_that_is_left letter (inputs.Ask path) a shown e =
      let found = has_unit (stranger s path) (member_asks s) (unit_in s path) a e in
      question_left found.0 a found.2
  claim_that_is_left letter (inputs.Message m) a shown e = message_left m a e
