-- Members stay valid, whatever they are asked.
use Rattle.std.proofs.Common.{◌≡◌, ◌<◌, ◌≤◌, ◌&&◌, ℕ, suc, max, Bool, true, false, All, List, []}
use Rattle.std.proofs.Common.{◌∷◌, Option, Some, None, Ok, Err, IfSome, arith, refl, sym, subst, ap}
use Rattle.std.proofs.Common.{length, nat_le}
use Rattle.std.specs.Prelude.{cond, unwrap_or}
use Rattle.std.specs.List.{list_all}
use Rattle.std.proofs.lemmas.Bool.{and_parts, leb-false, leb-true}
use Rattle.claims.specs.Noted.{IsNoted}
use Rattle.claims.specs.Quorums.{is_majority}
use Rattle.claims.specs.Member as members
use Rattle.claims.specs.Step.{Outcome, on_built, on_failed, on_inquire, on_nudge, on_start}
use Rattle.claims.specs.Step as theory
use Rattle.claims.proofs.Restored.{answer_noted, message_noted}
use Rattle.claims.specs.Claim.{greatest_round}
use Rattle.engine.specs.declared.Letter.{Letter}
use Rattle.faults.specs.Bytes.{Text}
use Rattle.ballots.specs.InTheAgreement.{said}
use Rattle.ballots.specs.Weights.{AreWeights, is_weight}
use Rattle.ballots.specs.declared.message.Message.{Message}
use Rattle.engine.specs.Division.{number_named, unit_at}
use Rattle.protocol.specs.Given.{Given}
use Rattle.protocol.specs.State.{OpenClaim, State, Value, facts_at, holds_package, is_held}
use Rattle.protocol.specs.InTheAgreement.{view}
use Rattle.protocol.specs.Member.{IsInput, IsMember}
use Rattle.protocol.specs.Answers.{Answer, everyone, others}
use Rattle.protocol.specs.Jobs.{build_by, job_of}
use Rattle.protocol.specs.Laws.{ClaimsWereReady, MembersStayMembers}
use Rattle.protocol.specs.Step.{IsLetterOf, answer, answered_or, builds, builds_under}
use Rattle.protocol.specs.Step.{claim_refusal, claims, fails, files_refusal, header_refusal, heard}
use Rattle.protocol.specs.Step.{hears, host_in, is_waiting, job_again, members_of, nudges}
use Rattle.protocol.specs.Step.{outcome_of, receivers, silent, stranger, unit_claimed, unit_in}
use Rattle.protocol.specs.Step.{asks as member_asks}
use Rattle.protocol.specs.declared.input.Input.{Input}
use Rattle.protocol.specs.declared.input.Input.TheVariants as inputs
use Rattle.protocol.specs.declared.refusal.Refusal.{Refusal}
use Rattle.protocol.specs.declared.refusal.Refusal.TheVariants as refusals
use Rattle.protocol.proofs.Answering.{answer_in, fits, from_header, has_unit, named_is, not_refused}
use Rattle.protocol.proofs.Answering.{seen_by}
use Rattle.protocol.proofs.Asked.{IsLocal, asked_fits, by_outcome, of_this, unit_is_one}
use Rattle.protocol.proofs.Asked.{without_job}
use Rattle.protocol.proofs.GoodClaims.{built_good, failed_good, inquire_good, message_good}
use Rattle.protocol.proofs.GoodClaims.{nudge_good}
use Rattle.protocol.proofs.Heard.{IsFit}
use Rattle.protocol.proofs.Ready.{ready_by_letter}
use Rattle.protocol.proofs.StayingMembers.{IsGood, IsLeft, IsOwn, nobody_is_short, left_so}
use Rattle.protocol.proofs.StayingMembers.{view_is_good}

-- ---- inputs for a unit

-- an input for a unit leaves a valid member, if the claim that it leaves satisfies the invariant
asked_stays : (s : State) (f : Refusal) (u host : ℕ) (to : List ℕ) (asks : theory.Input Value)
    (a : Answer)
    → IsMember s → u < length s.division.units → IsLocal asks
    → ((o : Outcome Value) → theory.answer (is_majority s.weights) s.me (view s u) [] asks ≡ Some o
    → IsGood s u host o.member.stage)
    → answered_or f s u host to (theory.answer (is_majority s.weights) s.me (view s u) [] asks) ≡ Ok
    a → IsLeft s a
asked_stays s f u host to asks a is lt local good e =
    let made = by_outcome f s u host to _ a e in
    let seen = seen_by s u s.claim refl is.claim in
    let fit = of_this (IsFit (length s.weights) s.me) _ made.0
    (asked_fits (length s.weights) s.me (view s u) refl (is_majority s.weights) asks seen.within
    local) made.1 in
    let noted = of_this (IsNoted Value (view s u)) _ made.0
    (answer_noted Value (is_majority s.weights) (view s u) seen.closed s.me [] asks) made.1 in
    subst (IsLeft s) made.2
    (left_so s u host to made.0 is lt noted fit (good made.0 made.1))

-- the claim in an outcome satisfies the invariant
good_of : (s : State) (u : ℕ) (o : Option (Outcome Value)) (x : Outcome Value)
    → IfSome o (λ o. IsGood s u (host_in s.claim) o.member.stage) → o ≡ Some x
    → IsGood s u (host_in s.claim) x.member.stage
good_of s u o x good e =
    of_this (λ (o : Outcome Value). IsGood s u (host_in s.claim) o.member.stage) o x good e

-- ---- a claim

-- no member's number is nine or more
me_is_a_member : (ws : List ℕ) (me : ℕ) → AreWeights ws → me < length ws → me < 9
me_is_a_member ws me are lt =
    let sized = and_parts (nat_le 1 (length ws) && nat_le (length ws) 9) (list_all is_weight ws) are
    in
    let few = leb-true (length ws) 9 (and_parts (nat_le 1 (length ws)) _ sized.0).1 in
    omega (arith, lt, few)

-- the first tests of a claim
first_is_not : (b : Bool) (f : Refusal) (rest : Option Refusal) → cond b (Some f) rest ≡ None
    → (b ≡ false) × (rest ≡ None)
first_is_not true f rest e = absurd (let no : Some f ≡ None = e in cc)
first_is_not false f rest e = (refl, e)

-- the claim that is opened is in range and the member's own, and its build is ready
opened_good : (s : State) (u host above : ℕ) (o : Outcome Value) (h : Option Value) → IsMember s
    → host ≤ 65535
    → All (λ p. holds_package s p ≡ true) (unit_at s.division u).build
    → nat_le greatest_round (max above (facts_at s u).opened) ≡ false
    → on_start s.me (view s u) h above ≡ Some o → IsGood s u host o.member.stage
opened_good s u host above o (Some v) is in_range ready left e =
    absurd (let no : None ≡ Some o = e in cc)
opened_good s u host above o None is in_range ready left e =
    let round = suc (max above (facts_at s u).opened) in
    let own : IsOwn s u host (record { round = round; member = s.me }) = record {
      host = in_range;
      claim = record {
        round = (
          omega arith,
          let below =
              leb-false greatest_round (max above (facts_at s u).opened) left in
              omega (arith, below),
        );
        member = me_is_a_member s.weights s.me is.weights is.one_of_them;
      };
      own = refl;
      ready = ready;
    } in
    subst (λ (o : Outcome Value). IsGood s u host o.member.stage) (ap (λ p. unwrap_or p o) e)
    (own, nobody_is_short s.weights)

claim_stays : (s : State) (letter : Letter) (path : Text) (host above u : ℕ) (a : Answer)
    → IsMember s → host ≤ 65535 → unit_in s path ≡ Some u
    → IsLetterOf s (Some u) letter → claims s letter host above u ≡ Ok a → IsLeft s a
claim_stays s letter path host above u a is in_range found shown e =
    let tested = not_refused (claim_refusal s letter above u) _ a e in
    let lt = unit_is_one s path u found in
    let free = first_is_not (is_held s u) refusals.Held _ tested.0 in
    let waits = first_is_not (is_waiting letter) refusals.Waiting _ free.1 in
    let rounds = first_is_not (nat_le greatest_round (max above (facts_at s u).opened))
    refusals.RoundsSpent _ waits.1 in
    let ready = ready_by_letter s u is lt letter shown free.0 waits.0 in
    asked_stays s refusals.Held u host (everyone s) (theory.Start above) a is lt tt
    (λ o eo. opened_good s u host above o (view s u).held is in_range ready rounds.0 eo) tested.1

-- ---- the other inputs

build_stays : (s : State) (path : Text) (given : Given) (u : ℕ) (a : Answer)
    (stage : members.Stage Value) → IsMember s → unit_in s path ≡ Some u
    → builds_under s u (host_in s.claim) given stage ≡ Ok a → IsLeft s a
build_stays s path given u a members.Closed is found e =
    absurd (let no : Err refusals.NoClaim ≡ Ok a = e in cc)
build_stays s path given u a (members.Gathering c S k) is found e =
    absurd (let no : Err refusals.NoClaim ≡ Ok a = e in cc)
build_stays s path given u a (members.Voting b S) is found e =
    absurd (let no : Err refusals.NoClaim ≡ Ok a = e in cc)
build_stays s path given u a (members.Building c) is found e =
    let build = build_by s u (job_of s u (host_in s.claim) c) given in
    let tested = not_refused (files_refusal s u given build) _ a e in
    let good = view_is_good s u is in
    asked_stays s refusals.NoClaim u (host_in s.claim) (everyone s) (theory.Built build) a is
    (unit_is_one s path u found) tt
    (λ o eo. good_of s u _ o
    (built_good (IsOwn s u (host_in s.claim)) (is_majority s.weights)
    (nobody_is_short s.weights) (view s u) good (view s u).stage build good) eo)
    tested.1

failure_stays : (s : State) (path : Text) (u : ℕ) (a : Answer) → IsMember s
    → unit_in s path ≡ Some u → fails s u ≡ Ok a → IsLeft s a
failure_stays s path u a is found e =
    let good = view_is_good s u is in
    asked_stays s refusals.NoClaim u (host_in s.claim) [] theory.Failed a is
    (unit_is_one s path u found) tt
    (λ o eo. good_of s u _ o
    (failed_good (IsOwn s u (host_in s.claim)) (is_majority s.weights)
    (nobody_is_short s.weights) (view s u) good (view s u).stage) eo) e

question_stays : (s : State) (path : Text) (u : ℕ) (a : Answer) → IsMember s
    → unit_in s path ≡ Some u → member_asks s u ≡ Ok a → IsLeft s a
question_stays s path u a is found e =
    let good = view_is_good s u is in
    asked_stays s refusals.Held u (host_in s.claim) (others s) theory.Inquire a is
    (unit_is_one s path u found) tt
    (λ o eo. good_of s u _ o
    (inquire_good (IsOwn s u (host_in s.claim)) (is_majority s.weights)
    (nobody_is_short s.weights) (view s u) good (view s u).held) eo) e

nudge_stays : (s : State) (claim : Option OpenClaim) (a : Answer) → IsMember s → s.claim ≡ claim
    → nudges s claim ≡ Ok a → IsLeft s a
nudge_stays s None a is at e = absurd (let no : Err refusals.NoClaim ≡ Ok a = e in cc)
nudge_stays s (Some o) a is at e =
    let given = without_job (job_again s o o.progress) _ a e in
    let host : host_in s.claim ≡ o.host = ap host_in at in
    let good = view_is_good s o.unit is in
    let stays = asked_stays s refusals.NoClaim o.unit o.host (silent s o.progress) theory.Nudge
    given.0 is (is.claim o at).unit tt
    (λ x ex. subst (λ k. IsGood s o.unit k x.member.stage) host
    (good_of s o.unit _ x
    (nudge_good (IsOwn s o.unit (host_in s.claim)) (is_majority s.weights)
    (nobody_is_short s.weights) (view s o.unit) good (view s o.unit).stage) ex)) given.1 in
    subst (IsLeft s) given.2 (record { member = stays.member; ready = stays.ready })

message_stays : (s : State) (m : Message Value) (a : Answer) → IsMember s → heard s m ≡ Ok a
    → IsLeft s a
message_stays s m a is e =
    let tested = not_refused (header_refusal s m.tree (m.sender ∷ members_of m.body) m.path) _ a e
    in
    let found = has_unit refusals.Unlisted (λ u. Ok (hears s u m.sender m.body))
    (number_named s.division m.path) a tested.1 in
    let u = found.0 in
    let from = from_header (length s.weights) m _ _ (members_of m.body) _ _ _ tested.0 in
    let same : hears s u m.sender m.body ≡ a = ap (answer_in a) found.2 in
    let seen = seen_by s u s.claim refl is.claim in
    let noted = message_noted Value (is_majority s.weights) (view s u) seen.closed s.me
    (said m.sender m.body) in
    let good = message_good (IsOwn s u (host_in s.claim)) (is_majority s.weights)
    (nobody_is_short s.weights) (view s u) (view_is_good s u is) s.me (said m.sender m.body) in
    subst (IsLeft s) same
    (left_so s u (host_in s.claim) (receivers s m.sender m.body)
    (outcome_of s u m.sender m.body) is (named_is s u m.path found.1).0 noted
    (fits s m u is found.1 from) good)

-- ---- the law

stays_by : (s : State) (letter : Letter) (input : Input) (a : Answer) → IsMember s → IsInput input
    → IsLetterOf s (unit_claimed s input) letter
    → answer s letter input ≡ Ok a → IsLeft s a
stays_by s letter (inputs.Claim path host above) a is in_range shown e =
    let found = has_unit (stranger s path) (claims s letter host above) (unit_in s path) a e in
    claim_stays s letter path host above found.0 a is in_range found.1
    (subst (λ u. IsLetterOf s u letter) found.1 shown) found.2
stays_by s letter (inputs.Built path given) a is in_range shown e =
    let found = has_unit refusals.NoClaim (builds s given) (unit_in s path) a e in
    build_stays s path given found.0 a (view s found.0).stage is found.1 found.2
stays_by s letter (inputs.Failed path) a is in_range shown e =
    let found = has_unit refusals.NoClaim (fails s) (unit_in s path) a e in
    failure_stays s path found.0 a is found.1 found.2
stays_by s letter inputs.Nudge a is in_range shown e = nudge_stays s s.claim a is refl e
stays_by s letter (inputs.Ask path) a is in_range shown e =
    let found = has_unit (stranger s path) (member_asks s) (unit_in s path) a e in
    question_stays s path found.0 a is found.1 found.2
stays_by s letter (inputs.Message m) a is in_range shown e = message_stays s m a is e

pub members_stay : MembersStayMembers
members_stay s input a is in_range answers =
    (stays_by s answers.letter input a is in_range answers.shown (sym answers.right)).member

pub claims_were_ready : ClaimsWereReady
claims_were_ready s input a is in_range answers =
    (stays_by s answers.letter input a is in_range answers.shown (sym answers.right)).ready
