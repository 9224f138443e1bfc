-- The claims that a member notes and says are of members, and what it proposes is under its own
-- claim.
use Rattle.std.proofs.Common.{◌≡◌, ◌<◌, ◌&&◌, not, ℕ, List, [], ◌∷◌, Option, None, Some, max, refl, sym, subst, suc}
use Rattle.std.specs.Prelude.{All}
use Rattle.std.specs.Option.{ForSome}
use Rattle.std.proofs.lemmas.Bool.{cond_both}
use Rattle.std.proofs.lemmas.List.Elements.{All-cons, All-head, All-nil, All-tail}
use Rattle.claims.specs.Claims.{claim_same, is_above, is_below, is_promised}
use Rattle.claims.specs.Member as members
use Rattle.claims.specs.Member.{Facts, Member, Stage, facts_of, first, greater, noted}
use Rattle.claims.specs.Messages as messages
use Rattle.claims.specs.Quorums.{Quorums, nobody, with_member}
use Rattle.claims.specs.Step as theory
use Rattle.claims.specs.Step.{Outcome, notes_and_says, on_agreed, on_ask, on_built, on_failed, on_inquire, on_message, on_nudge, on_offer, on_promise, on_propose, on_quorum, on_start, on_vote, says, still}
use Rattle.claims.specs.Votes.{Ballot, PromiseOf, ballot, is_voted, kept_report}
use Rattle.claims.specs.declared.claim.Claim.{Claim}
use Rattle.ballots.specs.InTheAgreement.{said}
use Rattle.ballots.specs.declared.message.Body.{Body}
use Rattle.ballots.specs.declared.message.Body.TheVariants as bodies
use Rattle.protocol.specs.State.{Value}
use Rattle.protocol.specs.Step.{members_of}

-- what holds of a value holds of it as an option
pub for_this : {X : Type 0} (P : X → Type 0) (x : X) → P x → ForSome (Some x) P
for_this P x holds y e = subst P (let same : x ≡ y = cc in same) holds

pub for_none : {X : Type 0} (P : X → Type 0) → ForSome None P
for_none P y e = absurd (let no : None ≡ Some y = e in cc)

-- the claim is that of one of n members
abbrev pub IsNamed : ℕ → Claim → Type 0
IsNamed n c = c.member < n

-- the ballot is under such a claim
abbrev pub IsNamedIn : ℕ → Ballot Value → Type 0
IsNamedIn n b = b.claim.member < n

-- the claims that are known are of members
pub record AreNamed (n : ℕ) (f : Facts Value) : Type 0 where
  pub promised : ForSome f.promised (IsNamed n)
  pub voted : ForSome f.voted (IsNamedIn n)

-- the claim in a note is of a member
abbrev pub Notes : ℕ → members.Note Value → Type 0
Notes n (members.Opened round) = Unit {0}
Notes n (members.Promised c) = IsNamed n c
Notes n (members.Voted b) = IsNamedIn n b
Notes n (members.Held v) = Unit {0}

-- the claims in what is said are of members, and a proposal is under the speaker's own claim
abbrev pub Tells : ℕ → ℕ → messages.Message Value → Type 0
Tells n i (messages.Offer c) = IsNamed n c
Tells n i (messages.Promise p) = IsNamed n p.claim × ForSome p.report (IsNamedIn n)
Tells n i (messages.Propose b) = b.claim.member ≡ i
Tells n i (messages.Vote k c) = IsNamed n c
Tells n i (messages.Nay k c p) = IsNamed n c × ForSome p (IsNamed n)
Tells n i (messages.Agreed v) = Unit {0}
Tells n i messages.Ask = Unit {0}

-- the claims in what arrives are of members
abbrev pub Comes : ℕ → messages.Message Value → Type 0
Comes n (messages.Offer c) = IsNamed n c
Comes n (messages.Propose b) = IsNamedIn n b
Comes n (messages.Promise p) = Unit {0}
Comes n (messages.Vote k c) = Unit {0}
Comes n (messages.Nay k c p) = Unit {0}
Comes n (messages.Agreed v) = Unit {0}
Comes n messages.Ask = Unit {0}

-- the open claim is the member's own
abbrev pub IsOwnStage : ℕ → Stage Value → Type 0
IsOwnStage i members.Closed = Unit {0}
IsOwnStage i (members.Gathering c S k) = c.member ≡ i
IsOwnStage i (members.Building c) = c.member ≡ i
IsOwnStage i (members.Voting b S) = b.claim.member ≡ i

-- an outcome that satisfies this
pub record IsNaming (n i : ℕ) (o : Outcome Value) : Type 0 where
  pub note : ForSome o.note (Notes n)
  pub send : ForSome o.send (Tells n i)

-- ---- what is known

noted_named : (n : ℕ) (f : Facts Value) (note : members.Note Value) → AreNamed n f → Notes n note
    → AreNamed n (noted f note)
noted_named n f (members.Opened round) are is =
    record { promised = are.promised; voted = are.voted }
noted_named n f (members.Promised c) are is = record {
  promised = cond_both (is_above c f.promised) (Some c) f.promised
      (λ (o : Option Claim). ForSome o (IsNamed n)) (λ t. for_this (IsNamed n) c is)
      (λ f. are.promised);
  voted = are.voted;
}
noted_named n f (members.Voted b) are is = record {
  promised = cond_both (is_above b.claim f.promised) (Some b.claim) f.promised
      (λ (o : Option Claim). ForSome o (IsNamed n)) (λ t. for_this (IsNamed n) b.claim is)
      (λ f. are.promised);
  voted = for_this (IsNamedIn n) b is;
}
noted_named n f (members.Held v) are is = record { promised = are.promised; voted = are.voted }

-- notes that name members restore facts that name members
pub restored_named : (n : ℕ) (notes : List (members.Note Value)) → All (Notes n) notes
    → AreNamed n (members.restored notes)
restored_named n [] are = record { promised = for_none (IsNamed n); voted = for_none (IsNamedIn n) }
restored_named n (x ∷ xs) are = noted_named n (members.restored xs) x
    (restored_named n xs (All-tail (Notes n) x xs are)) (All-head (Notes n) x xs are)

-- ---- what a member does

module _ (n i : ℕ) (x : Member Value) (known : AreNamed n (facts_of x))
    (own : IsOwnStage i x.stage) where
  nothing : (y : Member Value) → IsNaming n i (still y)
  nothing y = record { note = for_none (Notes n); send = for_none (Tells n i) }

  telling : (y : Member Value) (m : messages.Message Value) → Tells n i m → IsNaming n i (says y m)
  telling y m is = record { note = for_none (Notes n); send = for_this (Tells n i) m is }

  noting : (y : Member Value) (note : members.Note Value) (m : messages.Message Value)
      → Notes n note → Tells n i m → IsNaming n i (notes_and_says y note m)
  noting y note m is told =
      record { note = for_this (Notes n) note is; send = for_this (Tells n i) m told }

  offer_names : (c : Claim) → IsNamed n c → IsNaming n i (on_offer i x c)
  offer_names c is =
      cond_both (is_above c x.promised) _ _ (IsNaming n i)
      (λ t. noting _ (members.Promised c) _ is (is, known.voted))
      (λ f. cond_both (is_promised c x.promised && not (is_voted c x.voted)) _ _ (IsNaming n i)
      (λ t. telling x _ (is, known.voted)) (λ g. telling x _ (is, known.promised)))

  proposal_names : (b : Ballot Value) → IsNamedIn n b → IsNaming n i (on_propose i x b)
  proposal_names b is =
      cond_both (not (is_below b.claim x.promised) && not (is_voted b.claim x.voted)) _ _
      (IsNaming n i) (λ t. noting _ (members.Voted b) _ is is)
      (λ f. cond_both (is_voted b.claim x.voted && is_promised b.claim x.promised) _ _
      (IsNaming n i)
      (λ t. telling x _ is) (λ g. telling x _ (is, known.promised)))

  quorum_names : (c : Claim) (k : Option (Ballot Value)) → c.member ≡ i
      → IsNaming n i (on_quorum x c k)
  quorum_names c None is = nothing _
  quorum_names c (Some b) is = telling _ (messages.Propose (ballot c b.value)) is

  promise_names : (enough : Quorums) (s : Stage Value) (p : PromiseOf Value) → IsOwnStage i s
      → IsNaming n i (on_promise enough x s p)
  promise_names enough members.Closed p is = nothing x
  promise_names enough (members.Gathering c S k) p is =
      cond_both (claim_same p.claim c) _ _ (IsNaming n i)
      (λ t. cond_both (enough (with_member S p.member)) _ _ (IsNaming n i)
      (λ q. quorum_names c (kept_report k p.report) is) (λ q. nothing _))
      (λ f. nothing x)
  promise_names enough (members.Building c) p is = nothing x
  promise_names enough (members.Voting b S) p is = nothing x

  vote_names : (enough : Quorums) (s : Stage Value) (m : ℕ) (c : Claim)
      → IsNaming n i (on_vote enough x s m c)
  vote_names enough members.Closed m c = nothing x
  vote_names enough (members.Gathering d S k) m c = nothing x
  vote_names enough (members.Building d) m c = nothing x
  vote_names enough (members.Voting b S) m c =
      cond_both (claim_same c b.claim) _ _ (IsNaming n i)
      (λ t. cond_both (enough (with_member S m)) _ _ (IsNaming n i)
      (λ q. noting _ (members.Held b.value) (messages.Agreed b.value) tt tt) (λ q. nothing _))
      (λ f. nothing x)

  agreed_names : (h : Option Value) (v : Value) → IsNaming n i (on_agreed x h v)
  agreed_names None v =
      record { note = for_this (Notes n) (members.Held v) tt; send = for_none (Tells n i) }
  agreed_names (Some u) v = nothing x

  ask_names : (h : Option Value) → IsNaming n i (on_ask x h)
  ask_names None = nothing x
  ask_names (Some v) = telling x (messages.Agreed v) tt

  -- when it receives a message that names members
  pub message_names : (enough : Quorums) (m : messages.Message Value) → Comes n m
      → IsNaming n i (on_message enough i x m)
  message_names enough (messages.Offer c) is = offer_names c is
  message_names enough (messages.Promise p) is = promise_names enough x.stage p own
  message_names enough (messages.Propose b) is = proposal_names b is
  message_names enough (messages.Vote m c) is = vote_names enough x.stage m c
  message_names enough (messages.Nay m c p) is = nothing x
  message_names enough (messages.Agreed v) is = agreed_names x.held v
  message_names enough messages.Ask is = ask_names x.held

  start_names : i < n → (h : Option Value) (above : ℕ) (o : Outcome Value)
      → on_start i x h above ≡ Some o → IsNaming n i o
  start_names lt (Some v) above o e = absurd (let no : None ≡ Some o = e in cc)
  start_names lt None above o e =
      let round = suc (max above x.opened) in
      let c : Claim = record { round = round; member = i } in
      subst (IsNaming n i) (outcome_same _ o e)
      (noting (record x { opened = round; stage = members.Gathering c nobody None })
      (members.Opened round) (messages.Offer c) tt lt)
    where
      outcome_same : (a b : Outcome Value) → Some a ≡ Some b → a ≡ b
      outcome_same a b e = cc

  built_names : (s : Stage Value) (v : Value) (o : Outcome Value) → IsOwnStage i s
      → on_built x s v ≡ Some o → IsNaming n i o
  built_names members.Closed v o is e = absurd (let no : None ≡ Some o = e in cc)
  built_names (members.Gathering c S k) v o is e = absurd (let no : None ≡ Some o = e in cc)
  built_names (members.Building c) v o is e =
      subst (IsNaming n i) (outcome_same _ o e)
      (telling (record x { stage = members.Voting (ballot c v) nobody })
      (messages.Propose (ballot c v)) is)
    where
      outcome_same : (a b : Outcome Value) → Some a ≡ Some b → a ≡ b
      outcome_same a b e = cc
  built_names (members.Voting b S) v o is e = absurd (let no : None ≡ Some o = e in cc)

  failed_names : (s : Stage Value) (o : Outcome Value) → on_failed x s ≡ Some o → IsNaming n i o
  failed_names members.Closed o e = absurd (let no : None ≡ Some o = e in cc)
  failed_names (members.Gathering c S k) o e = absurd (let no : None ≡ Some o = e in cc)
  failed_names (members.Building c) o e =
      subst (IsNaming n i) (outcome_same _ o e) (nothing (record x { stage = members.Closed }))
    where
      outcome_same : (a b : Outcome Value) → Some a ≡ Some b → a ≡ b
      outcome_same a b e = cc
  failed_names (members.Voting b S) o e = absurd (let no : None ≡ Some o = e in cc)

  nudge_names : i < n → (s : Stage Value) (o : Outcome Value) → IsOwnStage i s
      → on_nudge x s ≡ Some o → IsNaming n i o
  nudge_names lt members.Closed o is e = absurd (let no : None ≡ Some o = e in cc)
  nudge_names lt (members.Gathering c S k) o is e =
      subst (IsNaming n i) (outcome_same _ o e)
      (telling x (messages.Offer c) (subst (λ k. k < n) (sym is) lt))
    where
      outcome_same : (a b : Outcome Value) → Some a ≡ Some b → a ≡ b
      outcome_same a b e = cc
  nudge_names lt (members.Building c) o is e = subst (IsNaming n i) (outcome_same _ o e) (nothing x)
    where
      outcome_same : (a b : Outcome Value) → Some a ≡ Some b → a ≡ b
      outcome_same a b e = cc
  nudge_names lt (members.Voting b S) o is e =
      subst (IsNaming n i) (outcome_same _ o e) (telling x (messages.Propose b) is)
    where
      outcome_same : (a b : Outcome Value) → Some a ≡ Some b → a ≡ b
      outcome_same a b e = cc

  inquire_names : (h : Option Value) (o : Outcome Value) → on_inquire x h ≡ Some o → IsNaming n i o
  inquire_names (Some v) o e = absurd (let no : None ≡ Some o = e in cc)
  inquire_names None o e = subst (IsNaming n i) (outcome_same _ o e) (telling x messages.Ask tt)
    where
      outcome_same : (a b : Outcome Value) → Some a ≡ Some b → a ≡ b
      outcome_same a b e = cc

  -- when it takes an input that is not a delivery
  pub input_names : i < n → (enough : Quorums) (input : theory.Input Value) (o : Outcome Value)
      → theory.answer enough i x [] input ≡ Some o → IsNaming n i o
  input_names lt enough (theory.Start above) o e = start_names lt x.held above o e
  input_names lt enough (theory.Built v) o e = built_names x.stage v o own e
  input_names lt enough theory.Failed o e = failed_names x.stage o e
  input_names lt enough theory.Nudge o e = nudge_names lt x.stage o own e
  input_names lt enough (theory.Deliver k) o e = absurd (let no : None ≡ Some o = e in cc)
  input_names lt enough theory.Inquire o e = inquire_names x.held o e

-- ---- as bodies

-- the body of a message that is said names members
pub body_names : (n i : ℕ) → i < n → (body : Body Value) → Tells n i (said i body)
    → All (λ k. k < n) (members_of body)
body_names n i lt (bodies.Offer c) is = All-cons (λ k. k < n) c.member [] is (All-nil (λ k. k < n))
body_names n i lt (bodies.Promise c None) is =
    All-cons (λ k. k < n) c.member [] is.0 (All-nil (λ k. k < n))
body_names n i lt (bodies.Promise c (Some vote)) is =
    All-cons (λ k. k < n) c.member (vote.0.member ∷ []) is.0
    (All-cons (λ k. k < n) vote.0.member [] (is.1 _ refl) (All-nil (λ k. k < n)))
body_names n i lt (bodies.Propose c v) is =
    All-cons (λ k. k < n) c.member [] (subst (λ k. k < n) (sym is) lt) (All-nil (λ k. k < n))
body_names n i lt (bodies.Vote c) is = All-cons (λ k. k < n) c.member [] is (All-nil (λ k. k < n))
body_names n i lt (bodies.Agreed v) is = All-nil (λ k. k < n)
body_names n i lt bodies.Ask is = All-nil (λ k. k < n)
body_names n i lt (bodies.Nay c p) is =
    All-cons (λ k. k < n) c.member (p.member ∷ []) is.0
    (All-cons (λ k. k < n) p.member [] (is.1 p refl) (All-nil (λ k. k < n)))

-- a body that names members is a message that does
pub body_comes : (n i : ℕ) (body : Body Value) → All (λ k. k < n) (members_of body)
    → Comes n (said i body)
body_comes n i (bodies.Offer c) are = All-head (λ k. k < n) c.member [] are
body_comes n i (bodies.Promise c r) are = tt
body_comes n i (bodies.Propose c v) are = All-head (λ k. k < n) c.member [] are
body_comes n i (bodies.Vote c) are = tt
body_comes n i (bodies.Agreed v) are = tt
body_comes n i bodies.Ask are = tt
body_comes n i (bodies.Nay c p) are = tt
