-- A step of the theory preserves the invariant of open claims.
use Rattle.std.proofs.Common.{◌≡◌, ℕ, false, Option, None, Some, IfSome}
use Rattle.std.proofs.lemmas.Bool.{cond_both}
use Rattle.claims.specs.declared.claim.Claim.{Claim}
use Rattle.claims.specs.Claims.{claim_same, is_above, is_below, is_promised}
use Rattle.claims.specs.Quorums.{Quorums, nobody, with_member}
use Rattle.claims.specs.Votes.{Ballot, PromiseOf, is_voted, kept_report}
use Rattle.claims.specs.Member as members
use Rattle.claims.specs.Messages as messages
use Rattle.claims.specs.Step.{Outcome, on_agreed, on_ask, on_built, on_failed, on_inquire}
use Rattle.claims.specs.Step.{on_message, on_nudge, on_offer, on_promise, on_propose, on_quorum}
use Rattle.claims.specs.Step.{on_vote}
use Rattle.protocol.specs.State.{Value}
use Rattle.std.specs.Prelude.{not, ◌&&◌}

-- The claim at this stage satisfies `Own`, and those that joined are not yet enough.
abbrev pub IsGoodStage : (Claim → Type 0) → Quorums → members.Stage Value → Type 0
IsGoodStage Own enough members.Closed = Unit {0}
IsGoodStage Own enough (members.Gathering c S k) = Own c × (enough S ≡ false)
IsGoodStage Own enough (members.Building c) = Own c
IsGoodStage Own enough (members.Voting b S) = Own b.claim × (enough S ≡ false)

module _ (Own : Claim → Type 0) (enough : Quorums) (none : enough nobody ≡ false)
    (x : members.Member Value) (good : IsGoodStage Own enough x.stage) where
  -- the claim after an outcome satisfies this
  abbrev Good : Outcome Value → Type 0
  Good o = IsGoodStage Own enough o.member.stage

  offer_good : (me : ℕ) (c : Claim) → Good (on_offer me x c)
  offer_good me c =
      cond_both (is_above c x.promised) _ _ Good (λ t. good)
      (λ f. cond_both (is_promised c x.promised && not (is_voted c x.voted)) _ _ Good (λ t. good)
      (λ g. good))

  proposal_good : (me : ℕ) (b : Ballot Value) → Good (on_propose me x b)
  proposal_good me b =
      cond_both (not (is_below b.claim x.promised) && not (is_voted b.claim x.voted)) _ _ Good
      (λ t. good)
      (λ f. cond_both (is_voted b.claim x.voted && is_promised b.claim x.promised) _ _ Good
      (λ t. good) (λ g. good))

  quorum_good : (c : Claim) (k : Option (Ballot Value)) → Own c → Good (on_quorum x c k)
  quorum_good c None own = own
  quorum_good c (Some b) own = (own, none)

  promise_good : (s : members.Stage Value) (p : PromiseOf Value) → IsGoodStage Own enough s
      → Good (on_promise enough x s p)
  promise_good members.Closed p is = good
  promise_good (members.Gathering c S k) p is =
      cond_both (claim_same p.claim c) _ _ Good
      (λ t. cond_both (enough (with_member S p.member)) _ _ Good
      (λ q. quorum_good c (kept_report k p.report) is.0) (λ q. (is.0, q)))
      (λ f. good)
  promise_good (members.Building c) p is = good
  promise_good (members.Voting b S) p is = good

  vote_good : (s : members.Stage Value) (m : ℕ) (c : Claim) → IsGoodStage Own enough s
      → Good (on_vote enough x s m c)
  vote_good members.Closed m c is = good
  vote_good (members.Gathering d S k) m c is = good
  vote_good (members.Building d) m c is = good
  vote_good (members.Voting b S) m c is =
      cond_both (claim_same c b.claim) _ _ Good
      (λ t. cond_both (enough (with_member S m)) _ _ Good (λ q. tt) (λ q. (is.0, q)))
      (λ f. good)

  agreed_good : (h : Option Value) (v : Value) → Good (on_agreed x h v)
  agreed_good None v = tt
  agreed_good (Some u) v = good

  ask_good : (h : Option Value) → Good (on_ask x h)
  ask_good None = good
  ask_good (Some v) = good

  -- whatever message arrives
  pub message_good : (me : ℕ) (m : messages.Message Value) → Good (on_message enough me x m)
  message_good me (messages.Offer c) = offer_good me c
  message_good me (messages.Promise p) = promise_good x.stage p good
  message_good me (messages.Propose b) = proposal_good me b
  message_good me (messages.Vote m c) = vote_good x.stage m c good
  message_good me (messages.Nay m c p) = good
  message_good me (messages.Agreed v) = agreed_good x.held v
  message_good me messages.Ask = ask_good x.held

  -- a build
  pub built_good : (s : members.Stage Value) (v : Value) → IsGoodStage Own enough s
      → IfSome (on_built x s v) Good
  built_good members.Closed v is = tt
  built_good (members.Gathering c S k) v is = tt
  built_good (members.Building c) v is = (is, none)
  built_good (members.Voting b S) v is = tt

  -- dropping a claim
  pub failed_good : (s : members.Stage Value) → IfSome (on_failed x s) Good
  failed_good members.Closed = tt
  failed_good (members.Gathering c S k) = tt
  failed_good (members.Building c) = tt
  failed_good (members.Voting b S) = tt

  -- a nudge
  pub nudge_good : (s : members.Stage Value) → IfSome (on_nudge x s) Good
  nudge_good members.Closed = tt
  nudge_good (members.Gathering c S k) = good
  nudge_good (members.Building c) = good
  nudge_good (members.Voting b S) = good

  -- a question
  pub inquire_good : (h : Option Value) → IfSome (on_inquire x h) Good
  inquire_good (Some v) = tt
  inquire_good None = good
