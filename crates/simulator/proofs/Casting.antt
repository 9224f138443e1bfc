-- A member that sends a vote notes it, or has noted it.
use Rattle.std.proofs.Common.{◌≡◌, ◌⊎◌, ◌&&◌, ℕ, true, not, List, Option, None, Some, max, suc, slice_get, option_map, refl, sym, subst, ◌∙◌, inl, inr, true≢false}
use Rattle.std.proofs.lemmas.Bool.{and_parts, cond_both}
use Rattle.claims.specs.Claims.{claim_same, is_above, is_below, is_promised}
use Rattle.claims.specs.Member as members
use Rattle.claims.specs.Member.{Member, Stage}
use Rattle.claims.specs.Messages as messages
use Rattle.claims.specs.Quorums.{Quorums, nobody, with_member}
use Rattle.claims.specs.Step as theory
use Rattle.claims.specs.Step.{Outcome, notes, notes_and_says, on_agreed, on_ask, on_built, on_failed, on_inquire, on_message, on_nudge, on_offer, on_promise, on_propose, on_quorum, on_start, on_vote, says, still}
use Rattle.claims.specs.Votes.{Ballot, PromiseOf, ballot, is_voted, kept_report}
use Rattle.claims.specs.declared.claim.Claim.{Claim}
use Rattle.claims.proofs.Order.{claim_same_true}
use Rattle.protocol.specs.State.{Value}

-- the message of a vote
abbrev pub vote_of : ℕ → Claim → messages.Message Value
vote_of k c = messages.Vote k c

pub votes_same : (a c : Claim) (i j : ℕ) → Some (vote_of i a) ≡ Some (vote_of j c)
    → (j ≡ i) × (a ≡ c)
votes_same a c i j e = (cc, cc)

-- The member notes the vote, or it is the last one that it noted.
abbrev pub IsNoted : Member Value → Outcome Value → Ballot Value → Type 0
IsNoted x o b = (o.note ≡ Some (members.Voted b)) ⊎ ((o.note ≡ None) × (x.voted ≡ Some b))

-- The vote that is sent is the member's own, and it is noted.
pub record IsNotedVote (i : ℕ) (x : Member Value) (o : Outcome Value) (j : ℕ) (c : Claim) :
    Type 0 where
  pub own : j ≡ i
  pub ballot : Ballot Value
  pub claim : ballot.claim ≡ c
  pub noted : IsNoted x o ballot

-- Each vote that is sent is noted.
pub record VotesAreNoted (i : ℕ) (x : Member Value) (o : Outcome Value) : Type 0 where
  pub each : (j : ℕ) (c : Claim) → o.send ≡ Some (vote_of j c) → IsNotedVote i x o j c

-- the message is not a vote
abbrev IsNoVote : messages.Message Value → Type 0
IsNoVote (messages.Offer c) = Unit {0}
IsNoVote (messages.Promise p) = Unit {0}
IsNoVote (messages.Propose b) = Unit {0}
IsNoVote (messages.Vote k c) = ⊥
IsNoVote (messages.Nay k c p) = Unit {0}
IsNoVote (messages.Agreed v) = Unit {0}
IsNoVote messages.Ask = Unit {0}

message_same : (a b : messages.Message Value) → Some a ≡ Some b → a ≡ b
message_same a b e = cc

outcome_same : (a b : Outcome Value) → Some a ≡ Some b → a ≡ b
outcome_same a b e = cc

-- a last vote under the claim exists
last_vote : (c : Claim) (o : Option (Ballot Value)) → is_voted c o ≡ true
    → (b : Ballot Value) × (o ≡ Some b) × (b.claim ≡ c)
last_vote c None e = absurd (true≢false (sym e))
last_vote c (Some b) e = (b, refl, sym (claim_same_true c b.claim e))

module _ (i : ℕ) (x : Member Value) where
  silent : (y : Member Value) → VotesAreNoted i x (still y)
  silent y = record { each = λ j c e. absurd (let wrong : None ≡ Some (vote_of j c) = e in cc) }

  noting : (y : Member Value) (n : members.Note Value) → VotesAreNoted i x (notes y n)
  noting y n = record { each = λ j c e. absurd (let wrong : None ≡ Some (vote_of j c) = e in cc) }

  telling : (y : Member Value) (m : messages.Message Value) → IsNoVote m
      → VotesAreNoted i x (says y m)
  telling y m other =
      record { each = λ j c e. absurd (subst IsNoVote (message_same m (vote_of j c) e) other) }

  both : (y : Member Value) (n : members.Note Value) (m : messages.Message Value) → IsNoVote m
      → VotesAreNoted i x (notes_and_says y n m)
  both y n m other =
      record { each = λ j c e. absurd (subst IsNoVote (message_same m (vote_of j c) e) other) }

  -- a vote that is cast now
  cast : (y : Member Value) (b : Ballot Value)
      → VotesAreNoted i x (notes_and_says y (members.Voted b) (vote_of i b.claim))
  cast y b = record {
    each = λ j c e. let same = votes_same b.claim c i j e in record {
      own = same.0;
      ballot = b;
      claim = same.1;
      noted = inl refl;
    };
  }

  -- and one that is sent again
  again : (b : Ballot Value) → is_voted b.claim x.voted ≡ true
      → VotesAreNoted i x (says x (vote_of i b.claim))
  again b is = record {
    each = λ j c e. let same = votes_same b.claim c i j e in
        let last = last_vote b.claim x.voted is in record {
          own = same.0;
          ballot = last.0;
          claim = last.2 ∙ same.1;
          noted = inr (refl, last.1);
        };
  }

  on_offers : (c : Claim) → VotesAreNoted i x (on_offer i x c)
  on_offers c =
      cond_both (is_above c x.promised) _ _ (VotesAreNoted i x)
      (λ t. both _ (members.Promised c) _ tt)
      (λ f. cond_both (is_promised c x.promised && not (is_voted c x.voted)) _ _
      (VotesAreNoted i x) (λ t. telling x _ tt) (λ g. telling x _ tt))

  on_proposals : (b : Ballot Value) → VotesAreNoted i x (on_propose i x b)
  on_proposals b =
      cond_both (not (is_below b.claim x.promised) && not (is_voted b.claim x.voted)) _ _
      (VotesAreNoted i x) (λ t. cast _ b)
      (λ f. cond_both (is_voted b.claim x.voted && is_promised b.claim x.promised) _ _
      (VotesAreNoted i x)
      (λ t. again b (and_parts (is_voted b.claim x.voted) (is_promised b.claim x.promised) t).0)
      (λ g. telling x _ tt))

  on_quorums : (c : Claim) (k : Option (Ballot Value)) → VotesAreNoted i x (on_quorum x c k)
  on_quorums c None = silent _
  on_quorums c (Some b) = telling _ (messages.Propose (ballot c b.value)) tt

  on_promises : (enough : Quorums) (s : Stage Value) (p : PromiseOf Value)
      → VotesAreNoted i x (on_promise enough x s p)
  on_promises enough members.Closed p = silent x
  on_promises enough (members.Gathering c S k) p =
      cond_both (claim_same p.claim c) _ _ (VotesAreNoted i x)
      (λ t. cond_both (enough (with_member S p.member)) _ _ (VotesAreNoted i x)
      (λ q. on_quorums c (kept_report k p.report)) (λ q. silent _))
      (λ f. silent x)
  on_promises enough (members.Building c) p = silent x
  on_promises enough (members.Voting b S) p = silent x

  on_votes : (enough : Quorums) (s : Stage Value) (m : ℕ) (c : Claim)
      → VotesAreNoted i x (on_vote enough x s m c)
  on_votes enough members.Closed m c = silent x
  on_votes enough (members.Gathering d S k) m c = silent x
  on_votes enough (members.Building d) m c = silent x
  on_votes enough (members.Voting b S) m c =
      cond_both (claim_same c b.claim) _ _ (VotesAreNoted i x)
      (λ t. cond_both (enough (with_member S m)) _ _ (VotesAreNoted i x)
      (λ q. both _ (members.Held b.value) (messages.Agreed b.value) tt) (λ q. silent _))
      (λ f. silent x)

  on_agreeds : (h : Option Value) (v : Value) → VotesAreNoted i x (on_agreed x h v)
  on_agreeds None v = noting _ (members.Held v)
  on_agreeds (Some u) v = silent x

  on_asks : (h : Option Value) → VotesAreNoted i x (on_ask x h)
  on_asks None = silent x
  on_asks (Some v) = telling x (messages.Agreed v) tt

  -- the member receives a message
  on_messages : (enough : Quorums) (m : messages.Message Value)
      → VotesAreNoted i x (on_message enough i x m)
  on_messages enough (messages.Offer c) = on_offers c
  on_messages enough (messages.Promise p) = on_promises enough x.stage p
  on_messages enough (messages.Propose b) = on_proposals b
  on_messages enough (messages.Vote m c) = on_votes enough x.stage m c
  on_messages enough (messages.Nay m c p) = silent x
  on_messages enough (messages.Agreed v) = on_agreeds x.held v
  on_messages enough messages.Ask = on_asks x.held

  deliveries : (enough : Quorums) (m : Option (messages.Message Value)) (o : Outcome Value)
      → option_map (on_message enough i x) m ≡ Some o → VotesAreNoted i x o
  deliveries enough None o e = absurd (let wrong : None ≡ Some o = e in cc)
  deliveries enough (Some m) o e = subst (VotesAreNoted i x)
      (outcome_same (on_message enough i x m) o e) (on_messages enough m)

  starts : (h : Option Value) (above : ℕ) (o : Outcome Value) → on_start i x h above ≡ Some o
      → VotesAreNoted i x o
  starts (Some v) above o e = absurd (let wrong : None ≡ Some o = e in cc)
  starts None above o e =
      let round = suc (max above x.opened) in
      let c : Claim = record { round = round; member = i } in
      subst (VotesAreNoted i x) (outcome_same _ o e)
      (both (record x { opened = round; stage = members.Gathering c nobody None })
      (members.Opened round) (messages.Offer c) tt)

  builds : (s : Stage Value) (v : Value) (o : Outcome Value) → on_built x s v ≡ Some o
      → VotesAreNoted i x o
  builds members.Closed v o e = absurd (let wrong : None ≡ Some o = e in cc)
  builds (members.Gathering c S k) v o e = absurd (let wrong : None ≡ Some o = e in cc)
  builds (members.Building c) v o e =
      subst (VotesAreNoted i x) (outcome_same _ o e)
      (telling (record x { stage = members.Voting (ballot c v) nobody })
      (messages.Propose (ballot c v)) tt)
  builds (members.Voting b S) v o e = absurd (let wrong : None ≡ Some o = e in cc)

  failures : (s : Stage Value) (o : Outcome Value) → on_failed x s ≡ Some o → VotesAreNoted i x o
  failures members.Closed o e = absurd (let wrong : None ≡ Some o = e in cc)
  failures (members.Gathering c S k) o e = absurd (let wrong : None ≡ Some o = e in cc)
  failures (members.Building c) o e =
      subst (VotesAreNoted i x) (outcome_same _ o e) (silent (record x { stage = members.Closed }))
  failures (members.Voting b S) o e = absurd (let wrong : None ≡ Some o = e in cc)

  nudges : (s : Stage Value) (o : Outcome Value) → on_nudge x s ≡ Some o → VotesAreNoted i x o
  nudges members.Closed o e = absurd (let wrong : None ≡ Some o = e in cc)
  nudges (members.Gathering c S k) o e =
      subst (VotesAreNoted i x) (outcome_same _ o e) (telling x (messages.Offer c) tt)
  nudges (members.Building c) o e = subst (VotesAreNoted i x) (outcome_same _ o e) (silent x)
  nudges (members.Voting b S) o e =
      subst (VotesAreNoted i x) (outcome_same _ o e) (telling x (messages.Propose b) tt)

  questions : (h : Option Value) (o : Outcome Value) → on_inquire x h ≡ Some o
      → VotesAreNoted i x o
  questions (Some v) o e = absurd (let wrong : None ≡ Some o = e in cc)
  questions None o e = subst (VotesAreNoted i x) (outcome_same _ o e) (telling x messages.Ask tt)

  -- whatever the member is asked to do
  pub votes_are_noted : (enough : Quorums) (sent : List (messages.Message Value))
      (input : theory.Input Value) (o : Outcome Value)
      → theory.answer enough i x sent input ≡ Some o → VotesAreNoted i x o
  votes_are_noted enough sent (theory.Start above) o e = starts x.held above o e
  votes_are_noted enough sent (theory.Built v) o e = builds x.stage v o e
  votes_are_noted enough sent theory.Failed o e = failures x.stage o e
  votes_are_noted enough sent theory.Nudge o e = nudges x.stage o e
  votes_are_noted enough sent (theory.Deliver k) o e = deliveries enough (slice_get sent k) o e
  votes_are_noted enough sent theory.Inquire o e = questions x.held o e
