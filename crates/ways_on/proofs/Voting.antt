-- A node votes for a proposal under the claim that it promised, and its vote is appended to what
-- was sent.
use Rattle.std.proofs.Common.{◌≡◌, ◌<◌, ℕ, zero, suc, true, List, [], ◌∷◌, ◌++◌, length, Some, slice_get, refl, sym, ap, subst, ◌∙◌, arith}
use Rattle.std.specs.Prelude.{All, Contains}
use Rattle.claims.specs.Messages as theory
use Rattle.claims.specs.Nodes as nodes
use Rattle.claims.specs.Votes.{Reaches, ballot}
use Rattle.claims.specs.declared.claim.Claim.{Claim}
use Rattle.ballots.specs.declared.message.Body.TheVariants as bodies
use Rattle.ballots.specs.declared.message.Message.{Message}
use Rattle.node.specs.Parcels.{datagrams_of}
use Rattle.protocol.specs.Answers.{answered, sends_of}
use Rattle.protocol.specs.InTheAgreement.{view}
use Rattle.protocol.specs.State.{Value, facts_at}
use Rattle.protocol.specs.Step.{host_in, outcome_of}
use Rattle.protocol.specs.declared.sends.Send.{Send}
use Rattle.engine.specs.Division.{Division}
use Rattle.engine.proofs.Names.{name_is_found}
use Rattle.ways_on.proofs.Adding.{datagrams_differ}
use Rattle.ways_on.proofs.Appending.{sends_add}
use Rattle.ways_on.proofs.Hearing.{HeardBy}
use Rattle.ways_on.proofs.NotYet.{no_vote}
use Rattle.ways_on.proofs.Reached.{IsReached, its_acts, its_match, its_own}
use Rattle.ways_on.proofs.Replies.{KeepsClaim, is_voted_for, keeps_claim}
use Rattle.ways_on.proofs.Unsaid.{unsent}
use Rattle.wire.specs.Messages.{IsMessage}
use Rattle.world.specs.Sent.{message, with_sends}
use Rattle.world.specs.World.{IsMade, World, WorldNode, member_at}
use Rattle.one_list.specs.Matches.{name_of, node_of}
use Rattle.one_list.proofs.nodes.EqualParts.{some_same}
use Rattle.one_list.proofs.sent.MessageHeaders.{divided}

module _ (division : Division) (weights : List ℕ) (made : IsMade division weights) (w : World)
    (r : IsReached division weights made w) (k : ℕ) (x : WorldNode)
    (stands : slice_get w.nodes k ≡ Some x) (up : x.up ≡ true)
    (u : ℕ) (within : u < length w.division.units) (c : Claim) (v : Value) where
  -- the claim's proposal
  abbrev pub proposal : Message Value
  proposal = message w (name_of w u) c.member (bodies.Propose c v)

  -- the node's vote
  abbrev pub vote : Message Value
  vote = message w (name_of w u) k (bodies.Vote c)

  -- The node voted for the proposal, and its own claim is unchanged.
  pub record HasVoted (then : World) : Type 0 where
    pub heard : HeardBy division weights made w r k x stands up proposal x.pieces then
    pub unit : heard.answers.unit ≡ u
    pub keeps : KeepsClaim Value (view (member_at w k x) u)
        (nodes.view (node_of w k heard.node) u)
    pub good : IsMessage vote
    pub sent : then.sent ≡ w.sent ++ datagrams_of vote

  -- A proposal under the promised claim gets a vote, if the node has not voted for that claim.
  pub has_voted : (facts_at (member_at w k x) u).promised ≡ Some c
      → (Reaches (facts_at (member_at w k x) u).voted c → ⊥) → (then : World)
      → HeardBy division weights made w r k x stands up proposal x.pieces then → HasVoted then
  has_voted promised below then b = record {
    heard = b;
    unit = its_unit;
    keeps = subst (KeepsClaim Value (view (member_at w k x) u))
        (sym (subst (λ q. nodes.view (node_of w k b.node) q
        ≡ (outcome_of (member_at w k x) q c.member (bodies.Propose c v)).member) its_unit b.here))
        (keeps_claim k (view (member_at w k x) u) (ballot c v));
    good = vote_is_good;
    sent = b.sent
        ∙ ap (λ zs. with_sends w.sent zs) sends_are
        ∙ sends_add w.sent vote (record { to = c.member; message = vote }) [] (λ y h. only_send y h)
        (datagrams_differ vote vote_is_good)
        (unsent division weights (its_acts division weights made w r) w made
        (its_own division weights made w r) (its_match division weights made w r) vote
        vote_is_good u within refl
        (no_vote division weights (its_acts division weights made w r) w made
        (its_own division weights made w r) (its_match division weights made w r) u within k x
        stands c below));
  }
    where
      its_unit : b.answers.unit ≡ u
      its_unit = some_same b.answers.unit u (sym b.answers.named
          ∙ name_is_found w.division u (divided division weights
          (its_acts division weights made w r)
          w made (its_own division weights made w r) (its_match division weights made w r)) within)

      says_vote : (outcome_of (member_at w k x) u c.member (bodies.Propose c v)).send
          ≡ Some (theory.Vote k c)
      says_vote = is_voted_for k (view (member_at w k x) u) (ballot c v) promised

      sends_are : b.answer.sends ≡ record { to = c.member; message = vote } ∷ []
      sends_are =
          ap (λ a. a.sends) b.answer_is
          ∙ ap (λ q. (answered (member_at w k x) q (host_in (member_at w k x).claim)
          (c.member ∷ [])
          (outcome_of (member_at w k x) q c.member (bodies.Propose c v))).sends) its_unit
          ∙ ap (sends_of (member_at w k x) u (c.member ∷ [])) says_vote

      vote_is_good : IsMessage vote
      vote_is_good = subst (All (λ (z : Send). IsMessage z.message)) sends_are b.written 0
          (record { to = c.member; message = vote }) (omega arith)

      only_send : (y : Send) → Contains (record { to = c.member; message = vote } ∷ []) y
          → y.message ≡ vote
      only_send y (zero, lt, e) = sym (ap (λ (z : Send). z.message) e)
      only_send y (suc j, lt, e) = absurd (omega (arith, lt))
