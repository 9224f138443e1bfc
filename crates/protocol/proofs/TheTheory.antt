-- A member's answer is what the theory's node does.
use Rattle.std.proofs.Common.{◌≡◌, ◌==◌, ◌&&◌, ◌<◌, ℕ, Bool, true, false, List, [], ◌∷◌, Option}
use Rattle.std.proofs.Common.{Some, None, refl, sym, ap, ap₂, ◌∙◌, inl, inr, arith, eqb-true}
use Rattle.std.proofs.Common.{if◌then◌else◌, length, option_map}
use Rattle.std.proofs.lemmas.Bool.{cases_Bool, cond-true, cond-false, eqb-false}
use Rattle.std.proofs.lemmas.List.{get_or-set_same, get_or-set_other}
use Rattle.std.proofs.lemmas.List.Elements.{All-cons, All-nil}
use Rattle.std.proofs.lemmas.Map.Views.{any-filter_same}
use Rattle.std.specs.List.{list_any, range_with_len, slice_index_or}
use Rattle.std.specs.Prelude.{All, slice_set}
use Rattle.std.specs.Option.{ForSome}
use Rattle.faults.specs.Bytes.{Text}
use Rattle.ballots.specs.declared.message.Note.{Note}
use Rattle.claims.specs.Quorums.{Members, named_in}
use Rattle.claims.specs.Member as members
use Rattle.claims.specs.Member.{Facts, facts_of, no_facts, noted, noted_any}
use Rattle.claims.specs.Messages as messages
use Rattle.claims.specs.Nodes as nodes
use Rattle.claims.specs.Step.{Outcome}
use Rattle.claims.specs.World.{put}
use Rattle.claims.specs.Votes.{Ballot, report_of}
use Rattle.ballots.specs.InTheAgreement.{note_of, said}
use Rattle.engine.specs.Division.{number_named}
use Rattle.engine.proofs.Lists.{in_range}
use Rattle.protocol.specs.State.{OpenClaim, State, Value, facts_at, facts_then, name_at, noted_at}
use Rattle.protocol.specs.InTheAgreement.{body_in, claim_of, fact_in, members_in, node_of, pair_of}
use Rattle.protocol.specs.InTheAgreement.{progress_of}
use Rattle.protocol.specs.Answers.{after, answered, claim_then, dropped, note_at, sends_of}
use Rattle.protocol.specs.Laws.{IsOutcome, Says}

-- if the members of a set are below n, listing it keeps its members
pub named : (n : ℕ) (S : Members) → ((k : ℕ) → S k ≡ true → k < n) → (k : ℕ)
    → named_in (members_in n S) k ≡ S k
named n S within k =
    let same = any-filter_same (λ j. j == k) S (S k) (λ j e. ap S (eqb-true j k e))
    (range_with_len 0 n) in
    elim (cases_Bool (S k)) [
      | inl t ↦ same ∙ ap₂ (λ a b. a && b) t
          (in_range 0 n k (omega (arith)) (let below = within k t in omega (arith, below))) ∙ sym t
      | inr f ↦ same ∙ ap (λ a. a && list_any (λ j. j == k) (range_with_len 0 n)) f ∙ sym f
    ]

-- the set counted at a stage has only members below n
abbrev pub IsWithin : ℕ → members.Stage Value → Type 0
IsWithin n members.Closed = Unit {0}
IsWithin n (members.Gathering c S k) = (m : ℕ) → S m ≡ true → m < n
IsWithin n (members.Building c) = Unit {0}
IsWithin n (members.Voting b S) = (m : ℕ) → S m ≡ true → m < n

-- after the claim for u, if there is one, is dropped
dropped_is : (old : Option OpenClaim) (u : ℕ)
    → option_map claim_of (dropped old u) ≡ nodes.claim_then (option_map claim_of old) u
    members.Closed
dropped_is None u = refl
dropped_is (Some o) u = by_test (u == o.unit)
  where
    by_test : (b : Bool) → option_map claim_of (if b then None else Some o) ≡
        (if b then None else Some (claim_of o))
    by_test true = refl
    by_test false = refl

-- the claim at this stage is the theory's
claim_is : (old : Option OpenClaim) (u host n : ℕ) (stage : members.Stage Value) → IsWithin n stage
    → option_map claim_of (claim_then old u host (progress_of n stage)) ≡ nodes.claim_then
    (option_map claim_of old) u stage
claim_is old u host n members.Closed within = dropped_is old u
claim_is None u host n (members.Gathering c S k) within =
    ap (λ T. Some (record { path = u; stage = members.Gathering c T k }))
    (λ i m. named n S within m i)
claim_is (Some o) u host n (members.Gathering c S k) within =
    ap (λ T. Some (record { path = u; stage = members.Gathering c T k }))
    (λ i m. named n S within m i)
claim_is None u host n (members.Building c) within = refl
claim_is (Some o) u host n (members.Building c) within = refl
claim_is None u host n (members.Voting b S) within =
    ap (λ T. Some (record { path = u; stage = members.Voting b T })) (λ i m. named n S within m i)
claim_is (Some o) u host n (members.Voting b S) within =
    ap (λ T. Some (record { path = u; stage = members.Voting b T })) (λ i m. named n S within m i)

-- a note is restored from its fact
note_again : (note : members.Note Value) → note_of (fact_in note) ≡ note
note_again (members.Opened round) = refl
note_again (members.Promised c) = refl
note_again (members.Voted b) = refl
note_again (members.Held v) = refl

-- setting the element at u agrees with the theory
set_is_put : (facts : List (Facts Value)) (u q : ℕ) (f : Facts Value) → u < length facts
    → slice_index_or (slice_set facts u f) q no_facts ≡ put (λ p. slice_index_or facts p no_facts) u
    f q
set_is_put facts u q f lt =
    elim (cases_Bool (q == u)) [
      | inl t ↦ ap (λ p. slice_index_or (slice_set facts u f) p no_facts) (eqb-true q u t)
          ∙ get_or-set_same facts u f no_facts lt ∙ sym (cond-true (q == u) _ _ t)
      | inr e ↦ get_or-set_other facts u q f no_facts (eqb-false q u e)
          ∙ sym (cond-false (q == u) _ _ e)
    ]

-- putting what is there changes nothing
put_same : (facts : ℕ → Facts Value) (u q : ℕ) (f : Facts Value) → f ≡ facts u
    → facts q ≡ put facts u f q
put_same facts u q f e =
    elim (cases_Bool (q == u)) [
      | inl t ↦ ap facts (eqb-true q u t) ∙ sym e ∙ sym (cond-true (q == u) _ _ t)
      | inr n ↦ sym (cond-false (q == u) _ _ n)
    ]

-- the facts after a step's note are the theory's
pub facts_are : (s : State) (u q : ℕ) (f : Facts Value) (note : Option (members.Note Value))
    → u < length s.facts → number_named s.division (name_at s u) ≡ Some u
    → f ≡ noted_any (facts_at s u) note
    → slice_index_or (facts_then s.division s.facts (option_map (note_at s u) note)) q no_facts ≡
    put (facts_at s) u f q
facts_are s u q f None lt named e = put_same (facts_at s) u q f e
facts_are s u q f (Some n) lt named e =
    ap (λ v. slice_index_or (noted_then v) q no_facts) named
    ∙ set_is_put s.facts u q _ lt
    ∙ ap (λ g. put (facts_at s) u g q) (ap (noted (facts_at s u)) (note_again n) ∙ sym e)
  where
    noted_then : Option ℕ → List (Facts Value)
    noted_then v = noted_at v s.facts (note_at s u n)

-- so the member after the answer is the theory's node
pub node_is : (s : State) (u host : ℕ) (to : List ℕ) (o : Outcome Value)
    → u < length s.facts → number_named s.division (name_at s u) ≡ Some u
    → facts_of o.member ≡ noted_any (facts_at s u) o.note → o.member.up ≡ true
    → IsWithin (length s.weights) o.member.stage
    → node_of (after s (answered s u host to o)) ≡ nodes.node_with (node_of s) u o.member
node_is s u host to o lt named noted_is up within = λ i. record {
  facts = λ q. facts_are s u q (facts_of o.member) o.note lt named noted_is i;
  up = sym up i;
  claim = claim_is s.claim u host (length s.weights) o.member.stage within i;
}

-- ---- what is said

-- Whether member m can say this: the member named in a promise, vote or rejection is m, and a
-- rejection comes with a promise.
abbrev pub IsSaidBy : ℕ → messages.Message Value → Type 0
IsSaidBy m (messages.Promise p) = p.member ≡ m
IsSaidBy m (messages.Vote k c) = k ≡ m
IsSaidBy m (messages.Nay k c None) = ⊥
IsSaidBy m (messages.Nay k c (Some promised)) = k ≡ m
IsSaidBy m (messages.Offer c) = Unit {0}
IsSaidBy m (messages.Propose b) = Unit {0}
IsSaidBy m (messages.Agreed v) = Unit {0}
IsSaidBy m messages.Ask = Unit {0}

-- a report is restored from its pair
report_again : (r : Option (Ballot Value)) → report_of (option_map pair_of r) ≡ r
report_again None = refl
report_again (Some b) = refl

-- what the member says is restored from its body
pub said_again : (m : ℕ) (y : messages.Message Value) → IsSaidBy m y → said m (body_in y) ≡ y
said_again m (messages.Promise p) by =
    ap₂ (λ k r. messages.Promise (record { member = k; claim = p.claim; report = r })) (sym by)
    (report_again p.report)
said_again m (messages.Vote k c) by = ap (λ j. messages.Vote j c) (sym by)
said_again m (messages.Nay k c None) by = absurd by
said_again m (messages.Nay k c (Some promised)) by =
    ap (λ j. messages.Nay j c (Some promised)) (sym by)
said_again m (messages.Offer c) by = refl
said_again m (messages.Propose b) by = refl
said_again m (messages.Agreed v) by = refl
said_again m messages.Ask by = refl

-- each of the messages says it
all_say : (s : State) (u : ℕ) (y : messages.Message Value) → IsSaidBy s.me y → (to : List ℕ)
    → All (λ x. Says s u (Some y) x.message) (sends_of s u to (Some y))
all_say s u y by [] = All-nil (λ x. Says s u (Some y) x.message)
all_say s u y by (k ∷ ks) =
    All-cons (λ x. Says s u (Some y) x.message) _ _
    (record {
      sender = refl;
      tree = refl;
      path = refl;
      body =
          ap (λ z. Some z) (sym (said_again s.me y by));
    })
    (all_say s u y by ks)

-- what is said, if anything, is said by the member
abbrev pub IsSaidByAny : ℕ → Option (messages.Message Value) → Type 0
IsSaidByAny m None = Unit {0}
IsSaidByAny m (Some y) = IsSaidBy m y

-- this holds for all messages of a step
all_say_any : (s : State) (u : ℕ) (to : List ℕ) (said : Option (messages.Message Value))
    → IsSaidByAny s.me said
    → All (λ x. Says s u said x.message) (sends_of s u to said)
all_say_any s u to None by = All-nil (λ x. Says s u None x.message)
all_say_any s u to (Some y) by = all_say s u y by to

-- the fact of the note is what is noted
noted_again : (s : State) (u : ℕ) (n : Option (members.Note Value))
    → option_map (λ x. note_of x.fact) (option_map (note_at s u) n) ≡ n
noted_again s u None = refl
noted_again s u (Some n) = ap (λ x. Some x) (note_again n)

-- the note is about the unit
note_named : (s : State) (u : ℕ) (n : Option (members.Note Value))
    → ForSome (option_map (note_at s u) n) (λ x. x.path ≡ name_at s u)
note_named s u None = λ x e. absurd (let none : None ≡ Some x = e in cc)
note_named s u (Some n) = λ x e. sym (ap path_in e)
  where
    path_in : Option (Note Value) → Text
    path_in None = []
    path_in (Some x) = x.path

-- An answer corresponds to the outcome from which it is made.
pub outcome_is : (s : State) (u host : ℕ) (to : List ℕ) (o : Outcome Value)
    → u < length s.facts → number_named s.division (name_at s u) ≡ Some u
    → facts_of o.member ≡ noted_any (facts_at s u) o.note → o.member.up ≡ true
    → IsWithin (length s.weights) o.member.stage
    → IsSaidByAny s.me o.send → IsOutcome s u o (answered s u host to o)
outcome_is s u host to o lt named noted_is up within by = record {
  node = node_is s u host to o lt named noted_is up within;
  note = noted_again s u o.note;
  noted = note_named s u o.note;
  sends = all_say_any s u to o.send by;
}
