-- A message that is not refused is answered as in the theory.
use Rattle.std.proofs.Common.{◌≡◌, ◌==◌, ◌<◌, ◌+◌, not, ℕ, zero, suc, Bool, true, false, Any, List}
use Rattle.std.proofs.Common.{[], ◌∷◌, Option, Some, None, Result, Ok, Err, refl, sym, subst, ap}
use Rattle.std.proofs.Common.{◌∙◌, ⊎_elim, arith, eqb-true, if◌then◌else◌, length, nat_lt}
use Rattle.std.proofs.Common.{option_map}
use Rattle.std.proofs.lemmas.Bool.{and_parts, cond_both, false≢true, ltb-true, or_cases}
use Rattle.std.proofs.lemmas.List.Elements.{All-get_or}
use Rattle.std.proofs.lemmas.List.Quantifiers.{position-Some}
use Rattle.std.proofs.lemmas.Map.Views.{any-filter_same}
use Rattle.std.proofs.lemmas.Slice.Eq.{bytes_eq-Decides}
use Rattle.std.specs.List.{list_all, list_any, range_with_len}
use Rattle.std.specs.Str.{bytes_eq}
use Rattle.faults.specs.Answers.{first_that_applies}
use Rattle.faults.specs.Bytes.{Text}
use Rattle.claims.specs.Quorums.{Members, Quorums, is_majority, named_in, with_member}
use Rattle.claims.specs.Member as members
use Rattle.claims.specs.Member.{Facts, facts_of, no_facts}
use Rattle.claims.specs.Messages as messages
use Rattle.claims.specs.Claims.{claim_same}
use Rattle.claims.specs.declared.claim.Claim.{Claim}
use Rattle.claims.specs.Step.{Outcome, on_agreed, on_ask, on_vote}
use Rattle.claims.specs.Noted.{IsClosedWhereHeld}
use Rattle.claims.proofs.Restored.{message_noted}
use Rattle.ballots.specs.InTheAgreement.{said}
use Rattle.ballots.specs.Pledge.{HasPromised}
use Rattle.ballots.specs.declared.message.Body.{Body}
use Rattle.ballots.specs.declared.message.Body.TheVariants.{Offer, Promise, Propose, Vote, Agreed}
use Rattle.ballots.specs.declared.message.Body.TheVariants.{Ask, Nay}
use Rattle.ballots.specs.declared.message.Message.{Message}
use Rattle.engine.specs.Division.{number_named, unit_at}
use Rattle.protocol.specs.State.{OpenClaim, Progress, Gathering, Building, Voting, State, Value}
use Rattle.protocol.specs.State.{facts_at, name_at}
use Rattle.protocol.specs.InTheAgreement.{body_in, claim_of, members_in, progress_of, stage_of}
use Rattle.protocol.specs.InTheAgreement.{view}
use Rattle.protocol.specs.Member.{IsMember, IsOpen}
use Rattle.protocol.specs.Answers.{Answer, answered, everyone, message_of, others, sends_of}
use Rattle.protocol.specs.Step.{at_unit, header_refusal, heard, hears, host_in, members_of}
use Rattle.protocol.specs.Step.{outcome_of, receivers, unless}
use Rattle.protocol.specs.Laws.{AnswersMessage, GoesOut, IsOutcome, must_go_out}
use Rattle.protocol.specs.declared.refusal.Refusal.{Refusal}
use Rattle.protocol.proofs.Heard.{IsFit, IsFrom, message_fits}
use Rattle.protocol.proofs.TheTheory.{IsSaidBy, IsSaidByAny, IsWithin, outcome_is, said_again}

-- an element of a range from a on is below a plus the length
below_range : (a n k : ℕ) → list_any (λ j. j == k) (range_with_len a n) ≡ true → k < a + n
below_range a zero k e = absurd (false≢true e)
below_range a (suc n) k e =
    ⊎_elim
    (λ same. let is : a ≡ k = eqb-true a k same in omega (arith, is))
    (λ rest. let below = below_range (a + 1) n k rest in omega (arith, below))
    (or_cases (a == k) _ e)

-- members in a list of n by number are below n
members_below : (n : ℕ) (S : Members) (k : ℕ) → named_in (members_in n S) k ≡ true → k < n
members_below n S k e =
    let found = sym (any-filter_same (λ j. j == k) S (S k) (λ j t. ap S (eqb-true j k t))
    (range_with_len 0 n)) ∙ e in
    let below = below_range 0 n k (and_parts (S k) _ found).1 in
    omega (arith, below)

-- the members that a claim counts
abbrev joined_of : Option Progress → List ℕ
joined_of None = []
joined_of (Some (Gathering c joined k)) = joined
joined_of (Some (Building c)) = []
joined_of (Some (Voting b joined)) = joined

-- an open claim counts only members below n
progress_within : (n : ℕ) (p : Progress) → progress_of n (stage_of p) ≡ Some p
    → IsWithin n (stage_of p)
progress_within n (Gathering c joined k) e =
    λ m t. members_below n (named_in joined) m (ap (λ xs. named_in xs m) (ap joined_of e) ∙ t)
progress_within n (Building c) e = tt
progress_within n (Voting b joined) e =
    λ m t. members_below n (named_in joined) m (ap (λ xs. named_in xs m) (ap joined_of e) ∙ t)

-- a member's view of a unit, as far as its claim goes
pub record IsSeen (s : State) (u : ℕ) : Type 0 where
  pub within : IsWithin (length s.weights) (view s u).stage
  pub closed : IsClosedWhereHeld (view s u).held (view s u).stage

-- a member either doesn't hold, or has no open claim
closed_by : {V : Type 0} (h : Option V) → h ≡ None → (stage : members.Stage V)
    → IsClosedWhereHeld h stage
closed_by {V} h e stage = let P : Option V
    → Type 0 = λ h. IsClosedWhereHeld h stage in subst P (sym e) tt

closed_closed : {V : Type 0} (h : Option V) → IsClosedWhereHeld h members.Closed
closed_closed None = tt
closed_closed (Some v) = refl

-- for an open claim, for this unit or another
pub seen_by : (s : State) (u : ℕ) (claim : Option OpenClaim) → s.claim ≡ claim
    → ((o : OpenClaim) → s.claim ≡ Some o → IsOpen s o) → IsSeen s u
seen_by s u None e holds =
    let P : Option OpenClaim
    → Type 0 = λ claim. IsWithin (length s.weights)
    (Rattle.claims.specs.Nodes.stage_at (option_map claim_of claim) u) × IsClosedWhereHeld
    (facts_at s u).held (Rattle.claims.specs.Nodes.stage_at (option_map claim_of claim) u) in
    let both = subst P (sym e) (tt, closed_closed (facts_at s u).held) in
    record { within = both.0; closed = both.1 }
seen_by s u (Some o) e holds =
    let P : Option OpenClaim
    → Type 0 = λ claim. IsWithin (length s.weights)
    (Rattle.claims.specs.Nodes.stage_at (option_map claim_of claim) u) × IsClosedWhereHeld
    (facts_at s u).held (Rattle.claims.specs.Nodes.stage_at (option_map claim_of claim) u) in
    let Q : members.Stage Value
    → Type 0 = λ stage. IsWithin (length s.weights) stage × IsClosedWhereHeld
    (facts_at s u).held stage in
    let is = holds o e in
    let both = subst P (sym e) (cond_both (u == o.unit) _ _ Q
    (λ same. (
      progress_within (length s.weights) o.progress is.joined,
      closed_by (facts_at s u).held
          (ap (λ v. (facts_at s v).held) (eqb-true u o.unit same) ∙ is.not_held)
          (stage_of o.progress),
    ))
    (λ other. (tt, closed_closed (facts_at s u).held))) in
    record { within = both.0; closed = both.1 }

-- a name that is found is the unit's
pub named_is : (s : State) (u : ℕ) (path : Text) → number_named s.division path ≡ Some u
    → (u < length s.division.units) × (name_at s u ≡ path)
named_is s u path e =
    let at = position-Some (λ x. bytes_eq x.name path) s.division.units u
    Rattle.engine.specs.Division.no_unit e in
    (at.0, (bytes_eq-Decides (name_at s u) path).0 at.1)

-- the sender is a member, if the message names it
from_member : (n from : ℕ) → from < n → (body : Body Value) → IsFrom n (said from body)
from_member n from lt (Offer c) = tt
from_member n from lt (Promise c report) = lt
from_member n from lt (Propose c v) = tt
from_member n from lt (Vote c) = lt
from_member n from lt (Agreed v) = tt
from_member n from lt Ask = tt
from_member n from lt (Nay c promised) = tt

-- the outcome of the theory's member for a message from a member about a unit
pub fits : (s : State) (m : Message Value) (u : ℕ) → IsMember s
    → number_named s.division m.path ≡ Some u → m.sender < length s.weights
    → IsFit (length s.weights) s.me (outcome_of s u m.sender m.body)
fits s m u is named from =
    let at = named_is s u m.path named in
    let seen = seen_by s u s.claim refl is.claim in
    let lt : u < length s.facts = subst (λ n. u < n) (sym is.each) at.0 in
    message_fits (length s.weights) s.me (view s u) refl seen.within
    (All-get_or (λ (f : Facts Value). HasPromised f.promised f.voted) s.facts u no_facts lt
    is.pledged) (is_majority s.weights) (said m.sender m.body)
    (from_member (length s.weights) m.sender from m.body)

-- the answer to a message from a member about a unit
pub heard_is : (s : State) (m : Message Value) (u : ℕ) → IsMember s
    → number_named s.division m.path ≡ Some u → m.sender < length s.weights
    → IsOutcome s u (outcome_of s u m.sender m.body) (hears s u m.sender m.body)
heard_is s m u is named from =
    let at = named_is s u m.path named in
    let seen = seen_by s u s.claim refl is.claim in
    let lt : u < length s.facts = subst (λ n. u < n) (sym is.each) at.0 in
    let x = view s u in
    let fit = fits s m u is named from in
    outcome_is s u (host_in s.claim) (receivers s m.sender m.body) (outcome_of s u m.sender m.body)
    lt
    (ap (number_named s.division) at.1 ∙ named)
    (message_noted Value (is_majority s.weights) x seen.closed s.me (said m.sender m.body)).facts
    fit.up fit.within fit.by

-- ---- from an answer to the tests that passed

-- if there is an answer, nothing was refused
pub not_refused : (r : Option Refusal) (x : Result Answer Refusal) (a : Answer) → unless r x ≡ Ok a
    → (r ≡ None) × (x ≡ Ok a)
not_refused None x a e = (refl, e)
not_refused (Some f) x a e = absurd (let no : Err f ≡ Ok a = e in cc)

-- if there is an answer, there is a unit
pub has_unit : (f : Refusal) (g : ℕ → Result Answer Refusal) (u : Option ℕ) (a : Answer)
    → at_unit f g u ≡ Ok a → (v : ℕ) × (u ≡ Some v) × (g v ≡ Ok a)
has_unit f g None a e = absurd (let no : Err f ≡ Ok a = e in cc)
has_unit f g (Some v) a e = (v, refl, e)

-- the answer in a result; read only if it is an answer
abbrev pub answer_in : Answer → Result Answer Refusal → Answer
answer_in a (Ok b) = b
answer_in a (Err e) = a

-- if no test of a table applies, the first doesn't, and none of the rest does
no_first : (b : Bool) (f : Refusal) (rest : Option Refusal) → (if b then Some f else rest) ≡ None
    → (b ≡ false) × (rest ≡ None)
no_first true f rest e = absurd (let no : Some f ≡ None = e in cc)
no_first false f rest e = (refl, e)

-- if the negation is false, the test is true
not_not : (b : Bool) → not b ≡ false → b ≡ true
not_not true e = refl
not_not false e = absurd (false≢true (sym e))

-- ---- what is sent

-- what is said has a receiver, if the list of receivers isn't empty
gets : (s : State) (u : ℕ) (y : messages.Message Value) → IsSaidBy s.me y → (to : List ℕ)
    → (to ≡ [] → ⊥)
    → Any (λ x. said s.me x.message.body ≡ y) (sends_of s u to (Some y))
gets s u y by [] some = absurd (some refl)
gets s u y by (k ∷ ks) some = (
  0,
  record { to = k; message = message_of s u (body_in y) },
  omega arith,
  refl,
  said_again s.me
      y by,
)

-- if there is a member, the list of all members isn't empty
pub all_are_some : (n : ℕ) → 0 < n → range_with_len 0 n ≡ [] → ⊥
all_are_some zero lt e = omega (arith, lt)
all_are_some (suc n) lt e = let no : 0 ∷ range_with_len 1 n ≡ [] = e in cc

-- Whether nothing is said, or only what may have no receiver.
abbrev pub is_quiet : Option (messages.Message Value) → Bool
is_quiet None = true
is_quiet (Some y) = not (must_go_out y)

-- then there is nothing that must be sent
quiet_goes : (said : Option (messages.Message Value)) (y : messages.Message Value)
    → is_quiet said ≡ true → said ≡ Some y → must_go_out y ≡ true → ⊥
quiet_goes said y quiet e must =
    let loud = sym quiet ∙ (ap is_quiet e ∙ ap not must) in false≢true (sym loud)

-- votes, questions, agreed values and rejections are answered quietly
vote_is_quiet : (enough : Quorums) (x : members.Member Value) (stage : members.Stage Value) (m : ℕ)
    (c : Claim) → is_quiet (on_vote enough x stage m c).send ≡ true
vote_is_quiet enough x members.Closed m c = refl
vote_is_quiet enough x (members.Gathering d S k) m c = refl
vote_is_quiet enough x (members.Building d) m c = refl
vote_is_quiet enough x (members.Voting b S) m c =
    let P : Outcome Value → Type 0 = λ o. is_quiet o.send ≡ true in
    cond_both (claim_same c b.claim) _ _ P
    (λ t. cond_both (enough (with_member S m)) _ _ P (λ q. refl) (λ q. refl)) (λ f. refl)

agreed_is_quiet : (x : members.Member Value) (h : Option Value) (v : Value)
    → is_quiet (on_agreed x h v).send ≡ true
agreed_is_quiet x None v = refl
agreed_is_quiet x (Some u) v = refl

ask_is_quiet : (x : members.Member Value) (h : Option Value) → is_quiet (on_ask x h).send ≡ true
ask_is_quiet x None = refl
ask_is_quiet x (Some v) = refl

-- what is said, if anything, is said by the member
said_some : (m : ℕ) (said : Option (messages.Message Value)) (y : messages.Message Value)
    → said ≡ Some y → IsSaidByAny m said → IsSaidBy m y
said_some m said y e by = subst (IsSaidByAny m) e by

-- what must be sent is sent, if there is a receiver
pub loud_goes : (s : State) (u host : ℕ) (to : List ℕ) (o : Outcome Value) → IsSaidByAny s.me o.send
    → (to ≡ [] → ⊥) → GoesOut s o (answered s u host to o)
loud_goes s u host to o by some y e must =
    let P : Option (messages.Message Value)
    → Type 0 = λ send. Any (λ x. said s.me x.message.body ≡ y) (sends_of s u to send) in
    subst P (sym e) (gets s u y (said_some s.me o.send y e by) to some)

-- this holds trivially if nothing must be sent
pub quiet_is_out : (s : State) (u host : ℕ) (to : List ℕ) (o : Outcome Value)
    → is_quiet o.send ≡ true → GoesOut s o (answered s u host to o)
quiet_is_out s u host to o quiet y e must = absurd (quiet_goes o.send y quiet e must)

-- so it holds for each message
goes_out : (s : State) (u from : ℕ) → 0 < length s.weights → (body : Body Value)
    → IsSaidByAny s.me (outcome_of s u from body).send
    → GoesOut s (outcome_of s u from body) (hears s u from body)
goes_out s u from some (Offer c) by =
    loud_goes s u (host_in s.claim) (c.member ∷ []) (outcome_of s u from (Offer c)) by
    (λ e. let no : c.member ∷ [] ≡ [] = e in cc)
goes_out s u from some (Promise c report) by =
    loud_goes s u (host_in s.claim) (everyone s) (outcome_of s u from (Promise c report)) by
    (all_are_some (length s.weights) some)
goes_out s u from some (Propose c v) by =
    loud_goes s u (host_in s.claim) (c.member ∷ []) (outcome_of s u from (Propose c v)) by
    (λ e. let no : c.member ∷ [] ≡ [] = e in cc)
goes_out s u from some (Vote c) by =
    quiet_is_out s u (host_in s.claim) (others s) (outcome_of s u from (Vote c))
    (vote_is_quiet (is_majority s.weights) (view s u) (view s u).stage from c)
goes_out s u from some (Agreed v) by =
    quiet_is_out s u (host_in s.claim) [] (outcome_of s u from (Agreed v))
    (agreed_is_quiet (view s u) (view s u).held v)
goes_out s u from some Ask by =
    quiet_is_out s u (host_in s.claim) (from ∷ []) (outcome_of s u from Ask)
    (ask_is_quiet (view s u) (view s u).held)
goes_out s u from some (Nay c promised) by =
    quiet_is_out s u (host_in s.claim) [] (outcome_of s u from (Nay c promised)) refl

-- ---- the law

-- of the tests of the header, what matters is that the sender is a member
pub from_header : (n : ℕ) (m : Message Value) (a b : Bool) (rest : List ℕ) (x y z : Refusal)
    → first_that_applies ((a, x) ∷ (not (list_all (λ k. nat_lt k n) (m.sender ∷ rest)), y) ∷ (b, z)
    ∷ []) ≡ None → m.sender < n
from_header n m a b rest x y z e =
    let later = (no_first a x _ e).1 in
    let all = not_not _ (no_first _ y _ later).0 in
    ltb-true m.sender n (and_parts _ _ all).0

-- a message that is answered is about a unit, and answered as the theory's member does
pub message_is : (s : State) (m : Message Value) (a : Answer) → IsMember s → heard s m ≡ Ok a
    → AnswersMessage s m a
message_is s m a is e =
    let tested = not_refused (header_refusal s m.tree (m.sender ∷ members_of m.body) m.path) _ a e
    in
    let found = has_unit _ (λ u. Ok (hears s u m.sender m.body)) (number_named s.division m.path) a
    tested.1 in
    let u = found.0 in
    let from = from_header (length s.weights) m _ _ (members_of m.body) _ _ _ tested.0 in
    let same : hears s u m.sender m.body ≡ a = ap (answer_in a) found.2 in
    let outcome = heard_is s m u is found.1 from in
    let some : 0 < length s.weights = let me = is.one_of_them in omega (arith, me) in
    subst (AnswersMessage s m) same (record {
      unit = u;
      named = found.1;
      within = (named_is s u m.path found.1).0;
      is = outcome;
      out = goes_out s u m.sender some m.body (fits s m u is found.1 from).by;
    })
