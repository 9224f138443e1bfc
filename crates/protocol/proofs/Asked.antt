-- An input that is not a message and is not refused is answered as in the theory.
use Rattle.std.proofs.Common.{◌≡◌, ◌==◌, ◌<◌, ◌&&◌, ◌+◌, ◌*◌, not, ℕ, suc, Bool, true, false, List}
use Rattle.std.proofs.Common.{[], ◌∷◌, Option, Some, None, Result, Ok, Err, arith, eqb-true, refl}
use Rattle.std.proofs.Common.{sym, subst, ap, ◌∙◌, if◌then◌else◌, filter, length, nat_le}
use Rattle.std.proofs.Common.{option_map, sum, IfSome}
use Rattle.std.proofs.lemmas.Bool.{and_parts, cond-true, eq-eqb, false≢true, leb-true, ltb-false}
use Rattle.claims.specs.Quorums.{Members, Quorums, is_majority, named_in, weight}
use Rattle.claims.specs.Member as members
use Rattle.claims.specs.Member.{no_facts}
use Rattle.claims.specs.Step.{Outcome, on_built, on_failed, on_inquire, on_nudge, on_start}
use Rattle.claims.specs.Step as theory
use Rattle.claims.specs.declared.claim.Claim.{Claim}
use Rattle.claims.specs.Noted.{IsNoted}
use Rattle.claims.proofs.Restored.{answer_noted}
use Rattle.claims.specs.Nodes as nodes
use Rattle.ballots.specs.Weights.{AreWeights, is_weight}
use Rattle.std.proofs.lemmas.List.Sums.{sum_by-cons}
use Rattle.std.proofs.lemmas.Map.Views.{any-filter_same}
use Rattle.std.proofs.lemmas.List.Quantifiers.{position-Some}
use Rattle.std.specs.Prelude.{option_and_then}
use Rattle.std.specs.List.{list_all, list_any}
use Rattle.std.specs.Str.{bytes_eq}
use Rattle.faults.specs.Answers.{option_or}
use Rattle.faults.specs.Bytes.{Text}
use Rattle.engine.specs.Division.{no_unit, number_named, number_of}
use Rattle.engine.specs.Units.{is_in}
use Rattle.engine.proofs.Lists.{in_range}
use Rattle.engine.proofs.Names.{name_is_found}
use Rattle.engine.specs.Tree.{position_of}
use Rattle.protocol.specs.State.{OpenClaim, Progress, Gathering, Building, Voting, State, Value}
use Rattle.protocol.specs.State.{name_at, unit_with}
use Rattle.protocol.specs.InTheAgreement.{claim_of, stage_of, view}
use Rattle.protocol.specs.Member.{IsMember, IsOpen, joined_so_far}
use Rattle.protocol.specs.Answers.{Answer, answered, everyone, missing, others}
use Rattle.protocol.specs.Laws.{AnswersAsked, AnswersInput, GoesOut, IsNoMessage, IsOutcome, asked}
use Rattle.protocol.specs.Laws.{built_at, for_unit, nudged}
use Rattle.protocol.specs.Step.{answer, answered_or, at_unit, builds, builds_under, claim_refusal}
use Rattle.protocol.specs.Step.{claims, fails, files_refusal, host_in, job_again, nudges, silent}
use Rattle.protocol.specs.Step.{stranger, unit_in, with_job}
use Rattle.protocol.specs.Step.{asks as member_asks}
use Rattle.claims.specs.Job.{Task}
use Rattle.protocol.specs.declared.input.Input.{Input}
use Rattle.protocol.specs.Given.{Given}
use Rattle.protocol.specs.Jobs.{build_by, job_of}
use Rattle.protocol.specs.declared.input.Input.TheVariants as inputs
use Rattle.protocol.specs.declared.refusal.Refusal.TheVariants as refusals
use Rattle.engine.specs.declared.Letter.{Letter}
use Rattle.protocol.specs.declared.refusal.Refusal.{Refusal}
use Rattle.protocol.proofs.Heard.{IsFit}
use Rattle.protocol.proofs.TheTheory.{IsSaidByAny, IsWithin, outcome_is}
use Rattle.protocol.proofs.Answering.{all_are_some, answer_in, has_unit, is_quiet, loud_goes}
use Rattle.protocol.proofs.Answering.{not_refused, quiet_is_out, seen_by}

-- it is not a delivery, which identifies a message by the number of messages sent after it
abbrev pub IsLocal : theory.Input Value → Type 0
IsLocal (theory.Deliver k) = ⊥
IsLocal (theory.Start above) = Unit {0}
IsLocal (theory.Built v) = Unit {0}
IsLocal theory.Failed = Unit {0}
IsLocal theory.Nudge = Unit {0}
IsLocal theory.Inquire = Unit {0}

module _ (n me : ℕ) (x : members.Member Value) (up : x.up ≡ true) where
  -- opening a claim
  start_fits : (h : Option Value) (above : ℕ) → IfSome (on_start me x h above) (IsFit n me)
  start_fits (Some v) above = tt
  start_fits None above = record { up = up; within = λ m e. absurd (false≢true e); by = tt }

  -- a build
  built_fits : (stage : members.Stage Value) (v : Value) → IfSome (on_built x stage v) (IsFit n me)
  built_fits members.Closed v = tt
  built_fits (members.Gathering c S k) v = tt
  built_fits (members.Building c) v =
      record { up = up; within = λ m e. absurd (false≢true e); by = tt }
  built_fits (members.Voting b S) v = tt

  -- dropping a claim
  failed_fits : (stage : members.Stage Value) → IfSome (on_failed x stage) (IsFit n me)
  failed_fits members.Closed = tt
  failed_fits (members.Gathering c S k) = tt
  failed_fits (members.Building c) = record { up = up; within = tt; by = tt }
  failed_fits (members.Voting b S) = tt

  -- a nudge
  nudge_fits : (stage : members.Stage Value) → IsWithin n x.stage
      → IfSome (on_nudge x stage) (IsFit n me)
  nudge_fits members.Closed w = tt
  nudge_fits (members.Gathering c S k) w = record { up = up; within = w; by = tt }
  nudge_fits (members.Building c) w = record { up = up; within = w; by = tt }
  nudge_fits (members.Voting b S) w = record { up = up; within = w; by = tt }

  -- a question
  inquire_fits : (h : Option Value) → IsWithin n x.stage → IfSome (on_inquire x h) (IsFit n me)
  inquire_fits (Some v) w = tt
  inquire_fits None w = record { up = up; within = w; by = tt }

  -- whatever is asked, except a delivery
  pub asked_fits : (enough : Quorums) (asks : theory.Input Value) → IsWithin n x.stage
      → IsLocal asks → IfSome (theory.answer enough me x [] asks) (IsFit n me)
  asked_fits enough (theory.Start above) w local = start_fits x.held above
  asked_fits enough (theory.Built v) w local = built_fits x.stage v
  asked_fits enough theory.Failed w local = failed_fits x.stage
  asked_fits enough theory.Nudge w local = nudge_fits x.stage w
  asked_fits enough (theory.Deliver k) w local = absurd local
  asked_fits enough theory.Inquire w local = inquire_fits x.held w

-- what holds of an optional outcome holds of the outcome that is there
pub of_this : {X : Type 0} (P : X → Type 0) (o : Option X) (x : X) → IfSome o P → o ≡ Some x → P x
of_this P None x h e = absurd (let no : None ≡ Some x = e in cc)
of_this P (Some y) x h e = subst (λ o. IfSome o P) e h

-- An input for a unit is answered as in the theory, whoever the receivers are.
pub asked_is : (s : State) (u host : ℕ) (to : List ℕ) (asks : theory.Input Value)
    (o : Outcome Value)
    → IsMember s → u < length s.facts → number_named s.division (name_at s u) ≡ Some u
    → IsLocal asks
    → theory.answer (is_majority s.weights) s.me (view s u) [] asks ≡ Some o
    → IsOutcome s u o (answered s u host to o)
asked_is s u host to asks o is lt named local e =
    let seen = seen_by s u s.claim refl is.claim in
    let fit = of_this (IsFit (length s.weights) s.me) _ o
    (asked_fits (length s.weights) s.me (view s u) refl (is_majority s.weights) asks seen.within
    local) e in
    let noted = of_this (IsNoted Value (view s u)) _ o
    (answer_noted Value (is_majority s.weights) (view s u) seen.closed s.me [] asks) e in
    outcome_is s u host to o lt named noted.facts fit.up fit.within fit.by

-- ---- the law

-- an answer comes from an outcome
pub by_outcome : (f : Refusal) (s : State) (u host : ℕ) (to : List ℕ) (o : Option (Outcome Value))
    (a : Answer) → answered_or f s u host to o ≡ Ok a
    → (outcome : Outcome Value) × (o ≡ Some outcome) × (answered s u host to outcome ≡ a)
by_outcome f s u host to None a e = absurd (let no : Err f ≡ Ok a = e in cc)
by_outcome f s u host to (Some o) a e = (o, refl, ap (answer_in a) e)

-- a unit that an input names exists
pub unit_is_one : (s : State) (path : Text) (u : ℕ) → unit_in s path ≡ Some u
    → u < length s.division.units
unit_is_one s path u e = by_name (number_named s.division path) refl e
  where
    by_name : (v : Option ℕ) → number_named s.division path ≡ v
        → option_or v (unit_with s.division path) ≡ Some u → u < length s.division.units
    by_name (Some v) is same =
        (position-Some (λ x. bytes_eq x.name path) s.division.units u no_unit (is ∙ same)).0
    by_name None is same = by_place (position_of s.division.tree path) same
      where
        by_place : (p : Option ℕ) → option_and_then (number_of s.division) p ≡ Some u
            → u < length s.division.units
        by_place None e = absurd (let none : None ≡ Some u = e in cc)
        by_place (Some p) found =
            (position-Some (λ x. is_in x.packages p) s.division.units u no_unit found).0

-- The answer to what is asked for the unit, by its outcome.
asked_by : (s : State) (f : Refusal) (u host : ℕ) (to : List ℕ) (asks : theory.Input Value)
    (a : Answer)
    → IsMember s → u < length s.division.units → IsLocal asks
    → ((o : Outcome Value) → theory.answer (is_majority s.weights) s.me (view s u) [] asks ≡ Some o
    → IsSaidByAny s.me o.send → GoesOut s o (answered s u host to o))
    → answered_or f s u host to (theory.answer (is_majority s.weights) s.me (view s u) [] asks) ≡ Ok
    a → AnswersAsked s u asks a
asked_by s f u host to asks a is lt local out e =
    let made = by_outcome f s u host to _ a e in
    let seen = seen_by s u s.claim refl is.claim in
    let fit = of_this (IsFit (length s.weights) s.me) _ made.0
    (asked_fits (length s.weights) s.me (view s u) refl (is_majority s.weights) asks seen.within
    local) made.1 in
    let known : u < length s.facts = subst (λ n. u < n) (sym is.each) lt in
    subst (AnswersAsked s u asks) made.2 (record {
      outcome = made.0;
      answers = made.1;
      is = asked_is s u host to asks made.0 is known (name_is_found s.division u is.division lt)
          local made.1;
      out = out made.0 made.1 fit.by;
    })

-- a claim
claim_is_answered : (s : State) (letter : Letter) (path : Text) (host above u : ℕ) (a : Answer)
    → IsMember s → unit_in s path ≡ Some u
    → claims s letter host above u ≡ Ok a → AnswersAsked s u (theory.Start above) a
claim_is_answered s letter path host above u a is found e =
    let tested = not_refused (claim_refusal s letter above u) _ a e in
    let some : 0 < length s.weights = let me = is.one_of_them in omega (arith, me) in
    asked_by s _ u host (everyone s) (theory.Start above) a is (unit_is_one s path u found) tt
    (λ o eo by. loud_goes s u host (everyone s) o by (all_are_some (length s.weights) some))
    tested.1

-- a build, by the stage of the claim
build_is_answered : (s : State) (path : Text) (given : Given) (u : ℕ) (a : Answer)
    (stage : members.Stage Value) → IsMember s → unit_in s path ≡ Some u → (view s u).stage ≡ stage
    → builds_under s u (host_in s.claim) given stage ≡ Ok a
    → AnswersAsked s u (theory.Built (built_at s u given stage)) a
build_is_answered s path given u a members.Closed is found at e =
    absurd (let no : Err refusals.NoClaim ≡ Ok a = e in cc)
build_is_answered s path given u a (members.Gathering c S k) is found at e =
    absurd (let no : Err refusals.NoClaim ≡ Ok a = e in cc)
build_is_answered s path given u a (members.Voting b S) is found at e =
    absurd (let no : Err refusals.NoClaim ≡ Ok a = e in cc)
build_is_answered s path given u a (members.Building c) is found at e =
    let tested = not_refused
    (files_refusal s u given (build_by s u (job_of s u (host_in s.claim) c) given)) _ a e in
    let some : 0 < length s.weights = let me = is.one_of_them in omega (arith, me) in
    asked_by s _ u (host_in s.claim) (everyone s)
    (theory.Built (build_by s u (job_of s u (host_in s.claim) c) given)) a is
    (unit_is_one s path u found) tt
    (λ o eo by. loud_goes s u (host_in s.claim) (everyone s) o by
    (all_are_some (length s.weights) some)) tested.1

-- nothing is sent when a claim is dropped
failed_is_quiet : (x : members.Member Value) (stage : members.Stage Value)
    → IfSome (on_failed x stage) (λ o. is_quiet o.send ≡ true)
failed_is_quiet x members.Closed = tt
failed_is_quiet x (members.Gathering c S k) = tt
failed_is_quiet x (members.Building c) = refl
failed_is_quiet x (members.Voting b S) = tt

-- a question goes to all others, of which there may be none
inquire_is_quiet : (x : members.Member Value) (h : Option Value)
    → IfSome (on_inquire x h) (λ o. is_quiet o.send ≡ true)
inquire_is_quiet x None = refl
inquire_is_quiet x (Some v) = tt

-- dropping a claim
failure_is_answered : (s : State) (path : Text) (u : ℕ) (a : Answer) → IsMember s
    → unit_in s path ≡ Some u → fails s u ≡ Ok a → AnswersAsked s u theory.Failed a
failure_is_answered s path u a is found e =
    asked_by s _ u (host_in s.claim) [] theory.Failed a is (unit_is_one s path u found) tt
    (λ o eo by. quiet_is_out s u (host_in s.claim) [] o
    (of_this (λ o. is_quiet o.send ≡ true) _ o (failed_is_quiet (view s u) (view s u).stage)
    eo)) e

-- a question
question_is_answered : (s : State) (path : Text) (u : ℕ) (a : Answer) → IsMember s
    → unit_in s path ≡ Some u → member_asks s u ≡ Ok a → AnswersAsked s u theory.Inquire a
question_is_answered s path u a is found e =
    asked_by s _ u (host_in s.claim) (others s) theory.Inquire a is (unit_is_one s path u found) tt
    (λ o eo by. quiet_is_out s u (host_in s.claim) (others s) o
    (of_this (λ o. is_quiet o.send ≡ true) _ o (inquire_is_quiet (view s u) (view s u).held)
    eo)) e

-- the answer without the job that is given again
pub without_job : (job : Option Task) (r : Result Answer Refusal) (a : Answer)
    → with_job job r ≡ Ok a → (b : Answer) × (r ≡ Ok b) × (record b { job = job } ≡ a)
without_job job (Err f) a e = absurd (let no : Err f ≡ Ok a = e in cc)
without_job job (Ok b) a e = (b, refl, ap (answer_in a) e)

-- the theory doesn't see jobs
with_a_job : (s : State) (u : ℕ) (b : Answer) (job : Option Task) → AnswersAsked s u theory.Nudge b
    → AnswersAsked s u theory.Nudge (record b { job = job })
with_a_job s u b job h = record {
  outcome = h.outcome;
  answers = h.answers;
  is = record { node = h.is.node; note = h.is.note; noted = h.is.noted; sends = h.is.sends };
  out = h.out;
}

-- ---- a nudge has a receiver

-- a set that contains all members has the total weight
all_weigh : (ws : List ℕ) (S : Members) → ((k : ℕ) → k < length ws → S k ≡ true)
    → weight ws S ≡ sum ws
all_weigh [] S each = refl
all_weigh (w ∷ ws) S each =
    let rest = all_weigh ws (λ k. S (suc k)) (λ k lt. each (suc k) (omega (arith, lt))) in
    let first : (if S 0 then w else 0) ≡ w = cond-true (S 0) w 0 (each 0 (omega arith)) in
    let total : sum (w ∷ ws) ≡ w + sum ws = sum_by-cons (λ x. x) w ws in
    omega (arith, first, rest, total)

-- the total weight isn't zero
they_weigh : (s : State) → IsMember s → 0 < sum s.weights
they_weigh s is = by s.weights is.weights
  where
    by : (ws : List ℕ) → AreWeights ws → 0 < sum ws
    by [] e = absurd (false≢true e)
    by (w ∷ ws) e =
        let each = (and_parts _ (list_all is_weight (w ∷ ws)) e).1 in
        let first = leb-true 1 w (and_parts (nat_le 1 w) _ (and_parts (is_weight w) _ each).0).0 in
        let total : sum (w ∷ ws) ≡ w + sum ws = sum_by-cons (λ x. x) w ws in
        omega (arith, first, total)

-- if the negation is false, the test is true; and of two tests that are not both true, the first is
-- false if the second is true
true_by : (b : Bool) → not b ≡ false → b ≡ true
true_by true e = refl
true_by false e = absurd (false≢true (sym e))

not_both : (a b : Bool) → false ≡ (a && b) → b ≡ true → a ≡ false
not_both true b never t = absurd (false≢true (never ∙ t))
not_both false b never t = refl

-- an element that passes is in the filtered list
none_kept : (S : ℕ → Bool) (xs : List ℕ) (k : ℕ) → filter S xs ≡ []
    → list_any (λ j. j == k) xs ≡ true → S k ≡ false
none_kept S xs k none among =
    let kept = any-filter_same (λ j. j == k) S (S k) (λ j t. ap S (eqb-true j k t)) xs in
    let no : false ≡ (S k && list_any (λ j. j == k) xs) = sym (ap (list_any (λ j. j == k)) none)
    ∙ kept in
    not_both (S k) _ no among

-- those that joined are not a majority, so some member is missing
some_are_missing : (s : State) (joined : List ℕ) → IsMember s
    → is_majority s.weights (named_in joined) ≡ false → missing s joined ≡ [] → ⊥
some_are_missing s joined is short none =
    let each : (k : ℕ) → k < length s.weights → named_in joined k ≡ true =
    λ k lt. true_by (named_in joined k)
    (none_kept (λ k. not (named_in joined k)) (everyone s) k none
    (in_range 0 (length s.weights) k (omega arith) (omega (arith, lt)))) in
    let all = all_weigh s.weights (named_in joined) each in
    let some = they_weigh s is in
    let less = ltb-false (sum s.weights) (2 * weight s.weights (named_in joined)) short in
    omega (arith, all, some, less)

-- a nudge says nothing while the claim waits for a build
building_is_quiet : (x : members.Member Value) (c : Claim) (stage : members.Stage Value)
    → stage ≡ members.Building c → IfSome (on_nudge x stage) (λ o. is_quiet o.send ≡ true)
building_is_quiet x c stage e =
    let P : members.Stage Value
    → Type 0 = λ stage. IfSome (on_nudge x stage) (λ o. is_quiet o.send ≡ true) in
    subst P (sym e) refl

-- the stage of the open claim's unit
pub stage_is : (s : State) (o : OpenClaim) → s.claim ≡ Some o
    → (view s o.unit).stage ≡ stage_of o.progress
stage_is s o e =
    ap (λ claim. nodes.stage_at (option_map claim_of claim) o.unit) e
    ∙ cond-true (o.unit == o.unit) _ _ (eq-eqb o.unit o.unit refl)

-- a nudge has a receiver, if it says something that must be sent
nudge_goes : (s : State) (o : OpenClaim) → IsMember s → IsOpen s o → s.claim ≡ Some o
    → (p : Progress) → o.progress ≡ p → (x : Outcome Value)
    → on_nudge (view s o.unit) (view s o.unit).stage ≡ Some x → IsSaidByAny s.me x.send
    → GoesOut s x (answered s o.unit o.host (silent s p) x)
nudge_goes s o is good at (Gathering c joined k) e x ex by =
    loud_goes s o.unit o.host (missing s joined) x by
    (some_are_missing s joined is
    (ap (λ p. is_majority s.weights (named_in (joined_so_far p))) (sym e) ∙ good.short))
nudge_goes s o is good at (Voting b joined) e x ex by =
    loud_goes s o.unit o.host (missing s joined) x by
    (some_are_missing s joined is
    (ap (λ p. is_majority s.weights (named_in (joined_so_far p))) (sym e) ∙ good.short))
nudge_goes s o is good at (Building c) e x ex by =
    let stage = stage_is s o at ∙ ap stage_of e in
    quiet_is_out s o.unit o.host [] x
    (of_this (λ o. is_quiet o.send ≡ true) _ x
    (building_is_quiet (view s o.unit) c (view s o.unit).stage stage) ex)

-- an input for a unit that is named
by_unit : (s : State) (input : Input) (f : Refusal) (g : ℕ → Result Answer Refusal) (path : Text)
    (asks : ℕ → theory.Input Value) (a : Answer)
    → asked s input ≡ for_unit (unit_in s path) asks
    → ((u : ℕ) → unit_in s path ≡ Some u → g u ≡ Ok a → AnswersAsked s u (asks u) a)
    → at_unit f g (unit_in s path) ≡ Ok a → AnswersInput s input a
by_unit s input f g path asks a is_for answered e =
    let found = has_unit f g (unit_in s path) a e in
    record {
      unit = found.0;
      within = unit_is_one s path found.0 found.1;
      asks = asks found.0;
      is_asked = is_for ∙ ap (λ v. for_unit v asks) found.1;
      answers = answered found.0 found.1 found.2;
    }

-- a nudge of the open claim
nudge_is_answered : (s : State) (claim : Option OpenClaim) (a : Answer) → IsMember s
    → s.claim ≡ claim → nudges s claim ≡ Ok a → AnswersInput s inputs.Nudge a
nudge_is_answered s None a is at e = absurd (let no : Err refusals.NoClaim ≡ Ok a = e in cc)
nudge_is_answered s (Some o) a is at e =
    let given = without_job (job_again s o o.progress) _ a e in
    let good = is.claim o at in
    let plain = asked_by s _ o.unit o.host (silent s o.progress) theory.Nudge given.0 is good.unit
    tt
    (λ x ex by. nudge_goes s o is good at o.progress refl x ex by) given.1 in
    record {
      unit = o.unit;
      within = good.unit;
      asks = theory.Nudge;
      is_asked = ap (option_map nudged) at;
      answers = subst (AnswersAsked s o.unit theory.Nudge) given.2
          (with_a_job s o.unit given.0 (job_again s o o.progress) plain);
    }

-- whatever the input is
pub input_is : (s : State) (letter : Letter) (input : Input) (a : Answer) → IsMember s
    → IsNoMessage input → answer s letter input ≡ Ok a → AnswersInput s input a
input_is s letter (inputs.Claim path host above) a is other e =
    by_unit s (inputs.Claim path host above) (stranger s path) (claims s letter host above) path
    (λ u. theory.Start above) a refl
    (λ u found given. claim_is_answered s letter path host above u a is found given) e
input_is s letter (inputs.Built path given) a is other e =
    by_unit s (inputs.Built path given) refusals.NoClaim (builds s given) path
    (λ u. theory.Built (built_at s u given (view s u).stage)) a refl
    (λ u found at. build_is_answered s path given u a (view s u).stage is found refl at) e
input_is s letter (inputs.Failed path) a is other e =
    by_unit s (inputs.Failed path) refusals.NoClaim (fails s) path (λ u. theory.Failed) a refl
    (λ u found given. failure_is_answered s path u a is found given) e
input_is s letter inputs.Nudge a is other e = nudge_is_answered s s.claim a is refl e
input_is s letter (inputs.Ask path) a is other e =
    by_unit s (inputs.Ask path) (stranger s path) (member_asks s) path (λ u. theory.Inquire) a refl
    (λ u found given. question_is_answered s path u a is found given) e
input_is s letter (inputs.Message m) a is other e = absurd other
