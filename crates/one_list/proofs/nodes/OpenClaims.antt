-- The effect of a member's step on its open claim.
use Rattle.std.proofs.Common.{◌≡◌, ℕ, not, ◌&&◌, Option, Some, None, refl, sym, ap, ◌∙◌}
use Rattle.std.proofs.lemmas.Bool.{cond_both}
use Rattle.claims.specs.Claims.{is_above, is_below, is_promised}
use Rattle.claims.specs.Member.{Closed, Member, Stage}
use Rattle.claims.specs.Messages.{Agreed, Ask, Message, Nay, Offer, Promise, Propose, Vote}
use Rattle.claims.specs.Quorums.{Quorums}
use Rattle.claims.specs.Step.{Outcome, on_agreed, on_ask, on_built, on_failed, on_inquire, on_message, on_nudge, on_promise, on_vote}
use Rattle.claims.specs.Votes.{is_voted}

module _ (V : Type 0) (enough : Quorums) (i : ℕ) (x : Member V) (closed : x.stage ≡ Closed) where
  -- a member without an open claim has none after a message
  pub message_opens_none : (m : Message V) → (on_message enough i x m).member.stage ≡ Closed
  message_opens_none (Offer c) =
      cond_both (is_above c x.promised) _ _ (λ (o : Outcome V). o.member.stage ≡ Closed)
      (λ t. closed)
      (λ f. cond_both (is_promised c x.promised && not (is_voted c x.voted)) _ _
      (λ (o : Outcome V). o.member.stage ≡ Closed) (λ t. closed) (λ f. closed))
  message_opens_none (Promise p) = ap (λ s. (on_promise enough x s p).member.stage) closed ∙ closed
  message_opens_none (Propose b) =
      cond_both (not (is_below b.claim x.promised) && not (is_voted b.claim x.voted)) _ _
      (λ (o : Outcome V). o.member.stage ≡ Closed) (λ t. closed)
      (λ f. cond_both (is_voted b.claim x.voted && is_promised b.claim x.promised) _ _
      (λ (o : Outcome V). o.member.stage ≡ Closed) (λ t. closed) (λ f. closed))
  message_opens_none (Vote m c) = ap (λ s. (on_vote enough x s m c).member.stage) closed ∙ closed
  message_opens_none (Nay m c p) = closed
  message_opens_none (Agreed v) = by x.held
    where
      by : (h : Option V) → (on_agreed x h v).member.stage ≡ Closed
      by None = refl
      by (Some u) = closed
  message_opens_none Ask = by x.held
    where
      by : (h : Option V) → (on_ask x h).member.stage ≡ Closed
      by None = closed
      by (Some u) = closed

  -- it has none after an input, either, unless the input opens one
  pub built_opens_none : (s : Stage V) → s ≡ Closed → (v : V) (o : Outcome V)
      → on_built x s v ≡ Some o → ⊥
  built_opens_none s e v o h = let wrong : None ≡ Some o = sym (ap (λ s. on_built x s v) e)
      ∙ h in cc

  pub failed_opens_none : (s : Stage V) → s ≡ Closed → (o : Outcome V) → on_failed x s ≡ Some o → ⊥
  failed_opens_none s e o h = let wrong : None ≡ Some o = sym (ap (λ s. on_failed x s) e) ∙ h in cc

  pub nudge_opens_none : (s : Stage V) → s ≡ Closed → (o : Outcome V) → on_nudge x s ≡ Some o → ⊥
  nudge_opens_none s e o h = let wrong : None ≡ Some o = sym (ap (λ s. on_nudge x s) e) ∙ h in cc

  pub inquire_opens_none : (h : Option V) (o : Outcome V) → on_inquire x h ≡ Some o
      → o.member.stage ≡ Closed
  inquire_opens_none (Some v) o e = absurd (let wrong : None ≡ Some o = e in cc)
  inquire_opens_none None o e = let is : on_inquire x None ≡ Some o =
      e in sym (ap (λ (o : Outcome V). o.member.stage) (outcome_same _ o is)) ∙ closed
    where
      outcome_same : (a b : Outcome V) → Some a ≡ Some b → a ≡ b
      outcome_same a b e = cc
