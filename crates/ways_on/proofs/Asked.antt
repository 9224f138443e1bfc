-- Which nodes were asked to promise a claim, and which promised it; both stay true.
use Rattle.std.proofs.Common.{◌≡◌, ℕ, zero, suc, true, List, [], Option, Some, option_map, slice_get, slice_set, refl, sym, ap, ap₂, subst, ◌∙◌}
use Rattle.claims.specs.Claims.{is_above}
use Rattle.claims.specs.Member.{Facts}
use Rattle.claims.specs.Votes.{Ballot}
use Rattle.claims.specs.declared.claim.Claim.{Claim}
use Rattle.ballots.specs.declared.message.Body.TheVariants as bodies
use Rattle.ballots.specs.declared.message.Message.{Message}
use Rattle.protocol.specs.Answers.{tree_digest}
use Rattle.protocol.specs.InTheAgreement.{pair_of}
use Rattle.protocol.specs.Restoring.{restored}
use Rattle.protocol.specs.State.{Value, facts_at, fresh}
use Rattle.engine.specs.Division.{Division, unit_at}
use Rattle.ways_on.proofs.Deciding.{put_elsewhere}
use Rattle.protocol.specs.declared.sends.Send.{Send}
use Rattle.world.specs.Sent.{WasSent, message, with_sends}
use Rattle.world.specs.World.{World, WorldNode, member_at}
use Rattle.one_list.specs.Matches.{name_of}
use Rattle.one_list.proofs.matching.SpokenMessages.{sent_more}

-- what a node knows of a unit depends only on its notes
pub facts_stay : (w y : World) → y.division ≡ w.division → y.weights ≡ w.weights → (j : ℕ)
    (x : WorldNode) (q : ℕ) → facts_at (member_at y j x) q ≡ facts_at (member_at w j x) q
facts_stay w y d l j x q = ap₂ (λ (a : Division) (b : List ℕ).
    facts_at (record (restored (fresh a b j) x.notes) { claim = x.claim }) q) d l

module _ (u : ℕ) (c : Claim) where
  -- the claim's offer
  abbrev pub offer_in : World → Message Value
  offer_in w = message w (name_of w u) c.member (bodies.Offer c)

  pub offer_stays : (w y : World) → y.division ≡ w.division → offer_in y ≡ offer_in w
  offer_stays w y e = ap (λ (d : Division). record {
    sender = c.member;
    tree = tree_digest d.tree;
    path = (unit_at d u).name;
    body = bodies.Offer c;
  }) e

  module _ (told : ℕ → Option (Ballot Value)) where
    -- node j's promise
    abbrev pub promise_in : World → ℕ → Message Value
    promise_in w j = message w (name_of w u) j (bodies.Promise c (option_map pair_of (told j)))

    -- Node j promised nothing at or above the claim, and its last vote is this one.
    pub record IsUnasked (w : World) (j : ℕ) : Type 0 where
      pub node : WorldNode
      pub stands : slice_get w.nodes j ≡ Some node
      pub on : node.up ≡ true
      pub above : is_above c (facts_at (member_at w j node) u).promised ≡ true
      pub voted : (facts_at (member_at w j node) u).voted ≡ told j

    -- Node j promised the claim, its promise was sent, and its last vote is still this one.
    pub record IsAsked (w : World) (j : ℕ) : Type 0 where
      pub node : WorldNode
      pub stands : slice_get w.nodes j ≡ Some node
      pub on : node.up ≡ true
      pub promised : (facts_at (member_at w j node) u).promised ≡ Some c
      pub voted : (facts_at (member_at w j node) u).voted ≡ told j
      pub said : WasSent w.sent (promise_in w j)

    pub unasked_stays : (w y : World) → y.division ≡ w.division → y.weights ≡ w.weights → (k j : ℕ)
        (z : WorldNode) → y.nodes ≡ slice_set w.nodes k z → (j ≡ k → ⊥) → IsUnasked w j
        → IsUnasked y j
    unasked_stays w y d l k j z nodes ne p = record {
      node = p.node;
      stands = ap (λ m. slice_get m j) nodes ∙ put_elsewhere w.nodes k j z ne ∙ p.stands;
      on = p.on;
      above = ap (λ (f : Facts Value). is_above c f.promised) (facts_stay w y d l j p.node u)
          ∙ p.above;
      voted = ap (λ (f : Facts Value). f.voted) (facts_stay w y d l j p.node u) ∙ p.voted;
    }

    pub promise_stays : (w y : World) → y.division ≡ w.division → (j : ℕ)
        → promise_in y j ≡ promise_in w j
    promise_stays w y e j = ap (λ (d : Division). record {
      sender = j;
      tree = tree_digest d.tree;
      path = (unit_at d u).name;
      body = bodies.Promise c (option_map pair_of (told j));
    }) e

    -- what was sent stays sent
    pub said_stays : (w y : World) → y.division ≡ w.division → (sends : List Send)
        → y.sent ≡ with_sends w.sent sends → (j : ℕ) → WasSent w.sent (promise_in w j)
        → WasSent y.sent (promise_in y j)
    said_stays w y d sends sent j told_so =
        subst (WasSent y.sent) (sym (promise_stays w y d j))
        (subst (λ l. WasSent l (promise_in w j)) (sym sent)
        (sent_more w.sent sends (promise_in w j) told_so))

    pub asked_stays : (w y : World) → y.division ≡ w.division → y.weights ≡ w.weights
        → (sends : List Send) → y.sent ≡ with_sends w.sent sends → (k j : ℕ)
        (z : WorldNode) → y.nodes ≡ slice_set w.nodes k z → (j ≡ k → ⊥) → IsAsked w j
        → IsAsked y j
    asked_stays w y d l sends sent k j z nodes ne p = record {
      node = p.node;
      stands = ap (λ m. slice_get m j) nodes ∙ put_elsewhere w.nodes k j z ne ∙ p.stands;
      on = p.on;
      promised = ap (λ (f : Facts Value). f.promised) (facts_stay w y d l j p.node u) ∙ p.promised;
      voted = ap (λ (f : Facts Value). f.voted) (facts_stay w y d l j p.node u) ∙ p.voted;
      said = said_stays w y d sends sent j p.said;
    }
