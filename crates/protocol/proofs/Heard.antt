-- What an answer needs to know of the theory's member on a message.
use Rattle.std.proofs.Common.{◌≡◌, ◌==◌, ◌&&◌, ◌<◌, not, ℕ, true, false, Option, Some, None, refl}
use Rattle.std.proofs.Common.{sym, subst, ⊎_elim, eqb-true}
use Rattle.std.proofs.lemmas.Bool.{cond_both, false≢true, or_cases}
use Rattle.claims.specs.declared.claim.Claim.{Claim}
use Rattle.claims.specs.Claims.{claim_same, is_above, is_below, is_promised}
use Rattle.claims.specs.Quorums.{Members, Quorums, with_member}
use Rattle.claims.specs.Votes.{Ballot, PromiseOf, is_voted, kept_report}
use Rattle.claims.specs.Member as members
use Rattle.claims.specs.Messages as messages
use Rattle.claims.specs.Step.{Outcome, on_agreed, on_ask, on_message, on_offer, on_promise}
use Rattle.claims.specs.Step.{on_propose, on_quorum, on_vote, still}
use Rattle.protocol.specs.State.{Value}
use Rattle.protocol.proofs.TheTheory.{IsSaidBy, IsSaidByAny, IsWithin}

-- an outcome from which an answer can be made: the member is up, its claim counts members below n,
-- and it is the speaker of what is said
pub record IsFit (n me : ℕ) (o : Outcome Value) : Type 0 where
  pub up : o.member.up ≡ true
  pub within : IsWithin n o.member.stage
  pub by : IsSaidByAny me o.send

-- if an offer is not above the promise, there is a promise
nay_to_offer : (me : ℕ) (c : Claim) (p : Option Claim) → is_above c p ≡ false
    → IsSaidBy me (messages.Nay me c p)
nay_to_offer me c None e = absurd (false≢true (sym e))
nay_to_offer me c (Some q) e = refl

-- likewise if a proposal is rejected, since a member that voted has promised
nay_to_proposal : (me : ℕ) (c : Claim) (p : Option Claim) (v : Option (Ballot Value))
    → (p ≡ None → v ≡ None)
    → (not (is_below c p) && not (is_voted c v)) ≡ false → IsSaidBy me (messages.Nay me c p)
nay_to_proposal me c None None pledged e = absurd (false≢true (sym e))
nay_to_proposal me c None (Some b) pledged e =
    absurd (let none : Some b ≡ None = pledged refl in cc)
nay_to_proposal me c (Some q) v pledged e = refl

-- adding a member below n leaves all members below n
joined_within : (n m : ℕ) (S : Members) → ((k : ℕ) → S k ≡ true → k < n) → m < n → (k : ℕ)
    → with_member S m k ≡ true → k < n
joined_within n m S within lt k e =
    ⊎_elim (λ same. subst (λ j. j < n) (sym (eqb-true k m same)) lt) (λ old. within k old)
    (or_cases (k == m) (S k) e)

-- the sender that a message names, if it names one, is below n
abbrev pub IsFrom : ℕ → messages.Message Value → Type 0
IsFrom n (messages.Promise p) = p.member < n
IsFrom n (messages.Vote m c) = m < n
IsFrom n (messages.Offer c) = Unit {0}
IsFrom n (messages.Propose b) = Unit {0}
IsFrom n (messages.Nay m c p) = Unit {0}
IsFrom n (messages.Agreed v) = Unit {0}
IsFrom n messages.Ask = Unit {0}

module _ (n me : ℕ) (x : members.Member Value) (up : x.up ≡ true) (within : IsWithin n x.stage)
    (pledged : x.promised ≡ None → x.voted ≡ None) where
  -- the member is unchanged
  stays : IsFit n me (still x)
  stays = record { up = up; within = within; by = tt }

  offer_fits : (c : Claim) → IsFit n me (on_offer me x c)
  offer_fits c =
      cond_both (is_above c x.promised) _ _ (IsFit n me)
      (λ t. record { up = up; within = within; by = refl })
      (λ f. cond_both (is_promised c x.promised && not (is_voted c x.voted)) _ _ (IsFit n me)
      (λ t. record { up = up; within = within; by = refl })
      (λ g. record { up = up; within = within; by = nay_to_offer me c x.promised f }))

  proposal_fits : (b : Ballot Value) → IsFit n me (on_propose me x b)
  proposal_fits b =
      cond_both (not (is_below b.claim x.promised) && not (is_voted b.claim x.voted)) _ _
      (IsFit n me)
      (λ t. record { up = up; within = within; by = refl })
      (λ f. cond_both (is_voted b.claim x.voted && is_promised b.claim x.promised) _ _ (IsFit n me)
      (λ t. record { up = up; within = within; by = refl })
      (λ g. record {
        up = up;
        within = within;
        by =
            nay_to_proposal me b.claim x.promised x.voted pledged f;
      }))

  quorum_fits : (c : Claim) (k : Option (Ballot Value)) → IsFit n me (on_quorum x c k)
  quorum_fits c None = record { up = up; within = tt; by = tt }
  quorum_fits c (Some b) = record { up = up; within = λ m e. absurd (false≢true e); by = tt }

  promise_fits : (enough : Quorums) (s : members.Stage Value) (p : PromiseOf Value) → IsWithin n s
      → p.member < n → IsFit n me (on_promise enough x s p)
  promise_fits enough members.Closed p w lt = stays
  promise_fits enough (members.Gathering c S k) p w lt =
      cond_both (claim_same p.claim c) _ _ (IsFit n me)
      (λ t. cond_both (enough (with_member S p.member)) _ _ (IsFit n me)
      (λ q. quorum_fits c (kept_report k p.report))
      (λ q. record { up = up; within = joined_within n p.member S w lt; by = tt }))
      (λ f. stays)
  promise_fits enough (members.Building c) p w lt = stays
  promise_fits enough (members.Voting b S) p w lt = stays

  vote_fits : (enough : Quorums) (s : members.Stage Value) (m : ℕ) (c : Claim) → IsWithin n s
      → m < n → IsFit n me (on_vote enough x s m c)
  vote_fits enough members.Closed m c w lt = stays
  vote_fits enough (members.Gathering d S k) m c w lt = stays
  vote_fits enough (members.Building d) m c w lt = stays
  vote_fits enough (members.Voting b S) m c w lt =
      cond_both (claim_same c b.claim) _ _ (IsFit n me)
      (λ t. cond_both (enough (with_member S m)) _ _ (IsFit n me)
      (λ q. record { up = up; within = tt; by = tt })
      (λ q. record { up = up; within = joined_within n m S w lt; by = tt }))
      (λ f. stays)

  agreed_fits : (h : Option Value) (v : Value) → IsFit n me (on_agreed x h v)
  agreed_fits None v = record { up = up; within = tt; by = tt }
  agreed_fits (Some u) v = stays

  ask_fits : (h : Option Value) → IsFit n me (on_ask x h)
  ask_fits None = stays
  ask_fits (Some v) = record { up = up; within = within; by = tt }

  -- whatever arrives from a member
  pub message_fits : (enough : Quorums) (m : messages.Message Value) → IsFrom n m
      → IsFit n me (on_message enough me x m)
  message_fits enough (messages.Offer c) from = offer_fits c
  message_fits enough (messages.Promise p) from = promise_fits enough x.stage p within from
  message_fits enough (messages.Propose b) from = proposal_fits b
  message_fits enough (messages.Vote m c) from = vote_fits enough x.stage m c within from
  message_fits enough (messages.Nay m c p) from = stays
  message_fits enough (messages.Agreed v) from = agreed_fits x.held v
  message_fits enough messages.Ask from = ask_fits x.held
