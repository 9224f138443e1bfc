-- Each answer of a member can be encoded.
use Rattle.std.proofs.Common.{◌≡◌, ◌==◌, ◌&&◌, ◌<◌, ◌≤◌, ℕ, Bool, true, false, not, nat_le, nat_lt, All, List, [], ◌∷◌, Option, Some, None, Result, Ok, Err, arith, suc, eqb-true, refl, sym, subst, ap, length, option_map, max, leb-true, leb-false, ltb-true, if◌then◌else◌}
use Rattle.std.specs.Prelude.{IfSome}
use Rattle.std.specs.List.{list_all}
use Rattle.std.specs.Option.{ForSome}
use Rattle.std.proofs.lemmas.Bool.{and_parts, cond_both}
use Rattle.std.proofs.lemmas.List.{get_or_default}
use Rattle.std.proofs.lemmas.List.Elements.{All-map, All-nil}
use Rattle.sha2.proofs.Facts256.{length-sha256}
use Rattle.faults.specs.Answers.{first_that_applies, option_or}
use Rattle.faults.specs.Bytes.{Text}
use Rattle.claims.specs.Quorums.{is_majority, nobody}
use Rattle.claims.specs.Votes.{Ballot, ballot}
use Rattle.claims.specs.Member as members
use Rattle.claims.specs.Member.{facts_of}
use Rattle.claims.specs.Messages as messages
use Rattle.claims.specs.Nodes as nodes
use Rattle.claims.specs.Step.{Outcome, on_built, on_failed, on_inquire, on_nudge, on_start}
use Rattle.claims.specs.declared.claim.Claim.{Claim}
use Rattle.claims.specs.Claim.{IsClaim, IsRound, greatest_round, most_members}
use Rattle.engine.specs.declared.Letter.{Letter}
use Rattle.package_record.specs.Build.{IsBuild}
use Rattle.package_record.specs.Making.{build_fault}
use Rattle.ballots.specs.InTheAgreement.{said}
use Rattle.ballots.specs.Weights.{is_weight}
use Rattle.ballots.specs.declared.message.Body.{Body}
use Rattle.ballots.specs.declared.message.Body.TheVariants as bodies
use Rattle.ballots.specs.declared.message.Message.{Message}
use Rattle.engine.specs.Division.{number_named}
use Rattle.engine.proofs.Kept.{unit_good}
use Rattle.engine.proofs.Names.{name_is_found}
use Rattle.protocol.specs.Answers.{Answer, answered, dropped, everyone, claim_then, message_of, note_at, others, sends_of}
use Rattle.protocol.specs.Given.{Given}
use Rattle.protocol.specs.InTheAgreement.{body_in, claim_of, fact_in, pair_of, progress_of, stage_of, view}
use Rattle.protocol.specs.Jobs.{are_given, build_by, job_of, paths_at}
use Rattle.protocol.specs.Member.{IsMember, IsOpen, claim_in}
use Rattle.protocol.specs.Sends.{sent_to}
use Rattle.protocol.specs.State.{Gathering, Building, OpenClaim, Progress, State, Value, Voting, facts_at, is_held, name_at}
use Rattle.protocol.specs.Step.{answered_or, builds, builds_under, claim_refusal, claims, fails, files_refusal, header_refusal, heard, hears, host_in, is_waiting, job_again, members_of, nudges, outcome_of, receivers, silent, stranger, unit_in}
use Rattle.protocol.specs.Step.{asks as member_asks}
use Rattle.protocol.specs.declared.input.Input.TheVariants as inputs
use Rattle.protocol.specs.declared.refusal.Refusal.{Refusal}
use Rattle.protocol.specs.declared.refusal.Refusal.TheVariants as refusals
use Rattle.protocol.proofs.Answering.{has_unit, named_is, not_refused}
use Rattle.protocol.proofs.Asked.{by_outcome, of_this, unit_is_one, without_job}
use Rattle.protocol.proofs.MadeBuilds.{builds_are_of_units}
use Rattle.protocol.proofs.StayingMembers.{IsGood, IsOwn, view_is_good}
use Rattle.wire.specs.Messages.{IsBody, IsBuildOf, IsFact, IsGoodBody, IsMessage, IsNote}
use Rattle.node.specs.Ranges.{AnswersCanBeWritten, AreFactsOf, CanBeWritten, IsClaimOf, IsInRange, IsOutcomeOf, IsProgressOf, IsSayable, IsStageOf, IsTold, IsVoteFor}
use Rattle.node.proofs.ranges.Outcomes as outcomes
use Rattle.node.proofs.ranges.Outcomes.{for_none, for_this, notes_and_says_of, says_of, still_of}

-- ---- what the member knows of a unit, and the progress of its claim

facts_in : (s : State) (u : ℕ) → IsInRange s → u < length s.division.units → AreFactsOf (name_at s u) (facts_of (view s u))
facts_in s u is lt = let are = is.facts u lt in record { opened = are.opened; promised = are.promised; voted = are.voted; held = are.held }

open_stage : (name : Text) (p : Progress) → IsClaim (claim_in p) → IsProgressOf name p → IsStageOf name (stage_of p)
open_stage name (Gathering c joined None) claim is = (claim, for_none (IsVoteFor name))
open_stage name (Gathering c joined (Some b)) claim is = (claim, for_this (IsVoteFor name) b is)
open_stage name (Building c) claim is = claim
open_stage name (Voting b joined) claim is = (claim, is)

stage_by : (s : State) (u : ℕ) (claim : Option OpenClaim) → ForSome claim (IsOpen s) → IsClaimOf s claim → IsStageOf (name_at s u) (nodes.stage_at (option_map claim_of claim) u)
stage_by s u None is are = tt
stage_by s u (Some o) is are =
    cond_both (u == o.unit) (stage_of o.progress) members.Closed (IsStageOf (name_at s u))
    (λ same. subst (λ v. IsStageOf (name_at s v) (stage_of o.progress)) (sym (eqb-true u o.unit same)) (open_stage (name_at s o.unit) o.progress (is o refl).claim (are o refl)))
    (λ other. tt)

stage_in : (s : State) (u : ℕ) → IsMember s → IsInRange s → IsStageOf (name_at s u) (view s u).stage
stage_in s u is are = stage_by s u s.claim is.claim are.claim

-- ---- an answer made of such an outcome

few_members : (s : State) → IsMember s → length s.weights ≤ most_members
few_members s is =
    let sized = and_parts (nat_le 1 (length s.weights) && nat_le (length s.weights) 9) (list_all is_weight s.weights) is.weights in
    leb-true (length s.weights) 9 (and_parts (nat_le 1 (length s.weights)) _ sized.0).1

me_in_range : (s : State) → IsMember s → s.me < most_members
me_in_range s is = let few = few_members s is in let me = is.one_of_them in omega (arith, me, few)

body_written : (name : Text) (y : messages.Message Value) → IsSayable name y → IsBody name (body_in y)
body_written name (messages.Offer c) is = is
body_written name (messages.Promise p) is = reported p.report is.1
  where
    reported : (r : Option (Ballot Value)) → ForSome r (IsVoteFor name) → IsBody name (bodies.Promise p.claim (option_map pair_of r))
    reported None none = (is.0, tt)
    reported (Some b) vote = (is.0, vote b refl)
body_written name (messages.Propose b) is = is
body_written name (messages.Vote m c) is = is
body_written name (messages.Nay m c None) is = (is.0, is.0)
body_written name (messages.Nay m c (Some p)) is = (is.0, is.1 p refl)
body_written name (messages.Agreed v) is = is
body_written name messages.Ask is = tt

fact_written : (name : Text) (n : members.Note Value) → IsTold name n → IsFact name (fact_in n)
fact_written name (members.Opened round) is = is
fact_written name (members.Promised c) is = is
fact_written name (members.Voted b) is = is
fact_written name (members.Held v) is = is

note_written : (s : State) (u : ℕ) (n : Option (members.Note Value)) → IsMember s → u < length s.division.units → ForSome n (IsTold (name_at s u)) → ForSome (option_map (note_at s u) n) IsNote
note_written s u None is lt told = for_none IsNote
note_written s u (Some n) is lt told =
    for_this IsNote (note_at s u n) (record { path = (unit_good s.division u is.division lt).named.name; fact = fact_written (name_at s u) n (told n refl) })

note_named : (s : State) (u : ℕ) (n : Option (members.Note Value)) → IsMember s → u < length s.division.units
    → ForSome (option_map (note_at s u) n) (λ x. (v : ℕ) × (number_named s.division x.path ≡ Some v))
note_named s u None is lt = for_none (λ x. (v : ℕ) × (number_named s.division x.path ≡ Some v))
note_named s u (Some n) is lt = for_this (λ x. (v : ℕ) × (number_named s.division x.path ≡ Some v)) (note_at s u n) (u, name_is_found s.division u is.division lt)

all_get : (m : Message Value) (to : List ℕ) → IsMessage m → All (λ x. IsMessage x.message) (sent_to (Some m) to)
all_get m to is = All-map (λ x. IsMessage x.message) (λ k. record { to = k; message = m }) to (λ k d lt. is)

sends_written : (s : State) (u : ℕ) (to : List ℕ) (y : Option (messages.Message Value)) → IsMember s → u < length s.division.units → ForSome y (IsSayable (name_at s u))
    → All (λ x. IsMessage x.message) (sends_of s u to y)
sends_written s u to None is lt sayable = All-nil (λ x. IsMessage x.message)
sends_written s u to (Some y) is lt sayable =
    all_get (message_of s u (body_in y)) to (record {
      sender = me_in_range s is;
      tree = length-sha256 _;
      path = (unit_good s.division u is.division lt).named.name;
      body = body_written (name_at s u) y (sayable y refl);
    })

dropped_written : (s : State) (claim : Option OpenClaim) (u : ℕ) → IsClaimOf s claim → IsClaimOf s (dropped claim u)
dropped_written s None u are = are
dropped_written s (Some o) u are = cond_both (u == o.unit) None (Some o) (IsClaimOf s) (λ same. for_none _) (λ other. are)

claim_written : (s : State) (u host n : ℕ) (stage : members.Stage Value) → IsClaimOf s s.claim → IsStageOf (name_at s u) stage → IsClaimOf s (claim_then s.claim u host (progress_of n stage))
claim_written s u host n members.Closed are is = dropped_written s s.claim u are
claim_written s u host n (members.Gathering c S None) are is = for_this _ _ tt
claim_written s u host n (members.Gathering c S (Some b)) are is = for_this _ _ (is.1 b refl)
claim_written s u host n (members.Building c) are is = for_this _ _ tt
claim_written s u host n (members.Voting b S) are is = for_this _ _ is.1

answer_written : (s : State) (u host : ℕ) (to : List ℕ) (o : Outcome Value) → IsMember s → IsInRange s → u < length s.division.units → IsOutcomeOf (name_at s u) o
    → CanBeWritten s (answered s u host to o)
answer_written s u host to o is are lt out = record {
  note = note_written s u o.note is lt out.note;
  named = note_named s u o.note is lt;
  sends = sends_written s u to o.send is lt out.send;
  claim = claim_written s u host (length s.weights) o.member.stage are.claim out.stage;
}

or_written : (f : Refusal) (s : State) (u host : ℕ) (to : List ℕ) (o : Option (Outcome Value)) (a : Answer) → IsMember s → IsInRange s → u < length s.division.units
    → IfSome o (IsOutcomeOf (name_at s u)) → answered_or f s u host to o ≡ Ok a → CanBeWritten s a
or_written f s u host to o a is are lt out e =
    let made = by_outcome f s u host to o a e in
    subst (CanBeWritten s) made.2 (answer_written s u host to made.0 is are lt (of_this (IsOutcomeOf (name_at s u)) o made.0 out made.1))

-- ---- each input

first_is_not : (b : Bool) (f : Refusal) (rest : Option Refusal) → (if b then Some f else rest) ≡ None → (b ≡ false) × (rest ≡ None)
first_is_not true f rest e = absurd (let no : Some f ≡ None = e in cc)
first_is_not false f rest e = (refl, e)

start_of : (name : Text) (i : ℕ) (x : members.Member Value) (h : Option Value) (above : ℕ) → IsStageOf name x.stage → i < most_members → max above x.opened < greatest_round
    → IfSome (on_start i x h above) (IsOutcomeOf name)
start_of name i x (Some v) above is me below = tt
start_of name i x None above is me below =
    let round = suc (max above x.opened) in
    let c : Claim = record { round = round; member = i } in
    let claim : IsClaim c = record { round = (omega arith, omega (arith, below)); member = me } in
    notes_and_says_of name (record x { opened = round; stage = members.Gathering c nobody None }) (members.Opened round) (messages.Offer c)
    (claim, for_none (IsVoteFor name)) claim.round claim

claim_is_written : (s : State) (letter : Letter) (host above u : ℕ) (a : Answer) → IsMember s → IsInRange s → u < length s.division.units
    → claims s letter host above u ≡ Ok a → CanBeWritten s a
claim_is_written s letter host above u a is are lt e =
    let tested = not_refused (claim_refusal s letter above u) _ a e in
    let free = first_is_not (is_held s u) refusals.Held _ tested.0 in
    let waits = first_is_not (is_waiting letter) refusals.Waiting _ free.1 in
    let rounds = first_is_not (nat_le greatest_round (max above (facts_at s u).opened)) refusals.RoundsSpent _ waits.1 in
    let below = leb-false greatest_round (max above (facts_at s u).opened) rounds.0 in
    or_written refusals.Held s u host (everyone s) (on_start s.me (view s u) (view s u).held above) a is are lt
    (start_of (name_at s u) s.me (view s u) (view s u).held above (stage_in s u is are) (me_in_range s is) below) tested.1

held_are_builds : (s : State) → IsMember s → IsInRange s → All (λ f. ForSome f.held IsBuild) s.facts
held_are_builds s is are k d lt =
    subst (λ (f : members.Facts Value). ForSome f.held IsBuild) (get_or_default s.facts k members.no_facts d lt)
    (λ v e. ((are.facts k (let each = is.each in omega (arith, lt, each))).held v e).build_is)

no_bad_file : (b : Bool) (f : Option Refusal) (g : Refusal) → option_or (first_that_applies ((b, g) ∷ [])) f ≡ None → f ≡ None
no_bad_file true f g e = absurd (let no : Some g ≡ None = e in cc)
no_bad_file false f g e = e

no_fault_of : {X : Type 0} (f : X → Refusal) (o : Option X) → option_map f o ≡ None → o ≡ None
no_fault_of f None e = refl
no_fault_of f (Some x) e = absurd (let no : Some (f x) ≡ None = e in cc)

built_of : (name : Text) (x : members.Member Value) (stage : members.Stage Value) (v : Value) → IsStageOf name stage → IsBuildOf name v → IfSome (on_built x stage v) (IsOutcomeOf name)
built_of name x members.Closed v is is_v = tt
built_of name x (members.Gathering c S k) v is is_v = tt
built_of name x (members.Building c) v is is_v = says_of name (record x { stage = members.Voting (ballot c v) nobody }) (messages.Propose (ballot c v)) (is, is_v) (is, is_v)
built_of name x (members.Voting b S) v is is_v = tt

build_is_written : (s : State) (given : Given) (u : ℕ) (a : Answer) (stage : members.Stage Value) → IsMember s → IsInRange s → u < length s.division.units → (view s u).stage ≡ stage
    → builds_under s u (host_in s.claim) given stage ≡ Ok a → CanBeWritten s a
build_is_written s given u a members.Closed is are lt at e = absurd (let no : Err refusals.NoClaim ≡ Ok a = e in cc)
build_is_written s given u a (members.Gathering c S k) is are lt at e = absurd (let no : Err refusals.NoClaim ≡ Ok a = e in cc)
build_is_written s given u a (members.Voting b S) is are lt at e = absurd (let no : Err refusals.NoClaim ≡ Ok a = e in cc)
build_is_written s given u a (members.Building c) is are lt at e =
    let host = host_in s.claim in
    let build = build_by s u (job_of s u host c) given in
    let tested = not_refused (files_refusal s u given build) _ a e in
    let no_fault = no_fault_of refusals.BadFiles (build_fault build) (no_bad_file (not (are_given (paths_at s u) given)) _ refusals.OtherPackages tested.0) in
    let own : IsOwn s u host c = subst (IsGood s u host) at (view_is_good s u is) in
    let good = builds_are_of_units s u host c given is lt own.host own.claim (held_are_builds s is are) no_fault in
    or_written refusals.NoClaim s u host (everyone s) (on_built (view s u) (view s u).stage build) a is are lt
    (built_of (name_at s u) (view s u) (view s u).stage build (stage_in s u is are) (record { build_is = good.0; unit = good.1 })) tested.1

failed_of : (name : Text) (x : members.Member Value) (stage : members.Stage Value) → IfSome (on_failed x stage) (IsOutcomeOf name)
failed_of name x members.Closed = tt
failed_of name x (members.Gathering c S k) = tt
failed_of name x (members.Building c) = still_of name (record x { stage = members.Closed }) tt
failed_of name x (members.Voting b S) = tt

nudge_of : (name : Text) (x : members.Member Value) (stage : members.Stage Value) → IsStageOf name x.stage → IsStageOf name stage → IfSome (on_nudge x stage) (IsOutcomeOf name)
nudge_of name x members.Closed is is_stage = tt
nudge_of name x (members.Gathering c S k) is is_stage = says_of name x (messages.Offer c) is is_stage.0
nudge_of name x (members.Building c) is is_stage = still_of name x is
nudge_of name x (members.Voting b S) is is_stage = says_of name x (messages.Propose b) is is_stage

inquire_of : (name : Text) (x : members.Member Value) (h : Option Value) → IsStageOf name x.stage → IfSome (on_inquire x h) (IsOutcomeOf name)
inquire_of name x (Some v) is = tt
inquire_of name x None is = says_of name x messages.Ask is tt

nudge_is_written : (s : State) (claim : Option OpenClaim) (a : Answer) → IsMember s → IsInRange s → s.claim ≡ claim → nudges s claim ≡ Ok a → CanBeWritten s a
nudge_is_written s None a is are at e = absurd (let no : Err refusals.NoClaim ≡ Ok a = e in cc)
nudge_is_written s (Some o) a is are at e =
    let given = without_job (job_again s o o.progress) _ a e in
    let stage = stage_in s o.unit is are in
    let plain = or_written refusals.NoClaim s o.unit o.host (silent s o.progress) (on_nudge (view s o.unit) (view s o.unit).stage) given.0 is are (is.claim o at).unit
    (nudge_of (name_at s o.unit) (view s o.unit) (view s o.unit).stage stage stage) given.1 in
    subst (CanBeWritten s) given.2 (record { note = plain.note; named = plain.named; sends = plain.sends; claim = plain.claim })

-- ---- a received message

claim_is_one : (n : ℕ) (c : Claim) → IsRound c.round → n ≤ most_members → nat_lt c.member n ≡ true → IsClaim c
claim_is_one n c round few lt = let below = ltb-true c.member n lt in record { round = round; member = omega (arith, below, few) }

sayable : (n from : ℕ) (name : Text) (body : Body Value) → n ≤ most_members → list_all (λ k. nat_lt k n) (members_of body) ≡ true → IsGoodBody name body → IsSayable name (said from body)
sayable n from name (bodies.Offer c) few all good = claim_is_one n c good few (and_parts (nat_lt c.member n) _ all).0
sayable n from name (bodies.Promise c None) few all good = (claim_is_one n c good.0 few (and_parts (nat_lt c.member n) _ all).0, for_none (IsVoteFor name))
sayable n from name (bodies.Promise c (Some vote)) few all good =
    let parts = and_parts (nat_lt c.member n) _ all in
    let rest = and_parts (nat_lt vote.0.member n) _ parts.1 in
    (claim_is_one n c good.0 few parts.0, for_this (IsVoteFor name) (ballot vote.0 vote.1) (claim_is_one n vote.0 good.1.0 few rest.0, good.1.1))
sayable n from name (bodies.Propose c v) few all good = (claim_is_one n c good.0 few (and_parts (nat_lt c.member n) _ all).0, good.1)
sayable n from name (bodies.Vote c) few all good = claim_is_one n c good few (and_parts (nat_lt c.member n) _ all).0
sayable n from name (bodies.Agreed v) few all good = good
sayable n from name bodies.Ask few all good = tt
sayable n from name (bodies.Nay c p) few all good =
    let parts = and_parts (nat_lt c.member n) _ all in
    let rest = and_parts (nat_lt p.member n) _ parts.1 in
    (claim_is_one n c good.0 few parts.0, for_this IsClaim p (claim_is_one n p good.1 few rest.0))

not_not : (b : Bool) → not b ≡ false → b ≡ true
not_not true e = refl
not_not false e = absurd (let no : true ≡ false = e in cc)

abbrev answer_in : Answer → Result Answer Refusal → Answer
answer_in d (Ok a) = a
answer_in d (Err e) = d

message_is_written : (s : State) (m : Message Value) (a : Answer) → IsMember s → IsInRange s → IsGoodBody m.path m.body → heard s m ≡ Ok a → CanBeWritten s a
message_is_written s m a is are good e =
    let tested = not_refused (header_refusal s m.tree (m.sender ∷ members_of m.body) m.path) _ a e in
    let found = has_unit refusals.Unlisted (λ u. Ok (hears s u m.sender m.body)) _ a tested.1 in
    let u = found.0 in
    let named = named_is s u m.path found.1 in
    let later = (first_is_not _ refusals.OtherTree _ tested.0).1 in
    let all = not_not _ (first_is_not _ refusals.NotAMember _ later).0 in
    let rest = (and_parts (nat_lt m.sender (length s.weights)) _ all).1 in
    let few : length s.weights ≤ most_members = few_members s is in
    let said_so : IsSayable (name_at s u) (said m.sender m.body) =
    subst (λ name. IsSayable name (said m.sender m.body)) (sym named.1) (sayable (length s.weights) m.sender m.path m.body few rest good) in
    let same : hears s u m.sender m.body ≡ a = ap (answer_in a) found.2 in
    subst (CanBeWritten s) same
    (answer_written s u (host_in s.claim) (receivers s m.sender m.body) (outcome_of s u m.sender m.body) is are named.0
    (outcomes.message_of (name_at s u) (is_majority s.weights) s.me (view s u) (said m.sender m.body) (facts_in s u are named.0) (stage_in s u is are) said_so))

-- ---- the law

pub answers_written : AnswersCanBeWritten
answers_written s letter (inputs.Claim path host above) a is are good e =
    let found = has_unit (stranger s path) (claims s letter host above) (unit_in s path) a e in
    claim_is_written s letter host above found.0 a is are (unit_is_one s path found.0 found.1) found.2
answers_written s letter (inputs.Built path given) a is are good e =
    let found = has_unit refusals.NoClaim (builds s given) (unit_in s path) a e in
    build_is_written s given found.0 a (view s found.0).stage is are (unit_is_one s path found.0 found.1) refl found.2
answers_written s letter (inputs.Failed path) a is are good e =
    let found = has_unit refusals.NoClaim (fails s) (unit_in s path) a e in
    or_written refusals.NoClaim s found.0 (host_in s.claim) [] (on_failed (view s found.0) (view s found.0).stage) a is are (unit_is_one s path found.0 found.1)
    (failed_of (name_at s found.0) (view s found.0) (view s found.0).stage) found.2
answers_written s letter inputs.Nudge a is are good e = nudge_is_written s s.claim a is are refl e
answers_written s letter (inputs.Ask path) a is are good e =
    let found = has_unit (stranger s path) (member_asks s) (unit_in s path) a e in
    or_written refusals.Held s found.0 (host_in s.claim) (others s) (on_inquire (view s found.0) (view s found.0).held) a is are (unit_is_one s path found.0 found.1)
    (inquire_of (name_at s found.0) (view s found.0) (view s found.0).held (stage_in s found.0 is are)) found.2
answers_written s letter (inputs.Message m) a is are good e = message_is_written s m a is are good e
