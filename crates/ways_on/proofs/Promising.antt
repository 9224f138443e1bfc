-- A node that is up promises a claim above everything that it promised, and its promise is appended
-- to what was sent.
use Rattle.std.proofs.Common.{◌≡◌, ◌<◌, ℕ, zero, suc, true, List, [], ◌∷◌, ◌++◌, length, Some, option_map, slice_get, refl, sym, ap, subst, ◌∙◌, arith}
use Rattle.std.specs.Prelude.{All, Contains}
use Rattle.claims.specs.Claims.{is_above}
use Rattle.claims.specs.Member.{Promised}
use Rattle.claims.specs.Messages as theory
use Rattle.claims.specs.Nodes as nodes
use Rattle.claims.specs.Step.{Outcome, notes_and_says}
use Rattle.claims.specs.declared.claim.Claim.{Claim}
use Rattle.ballots.specs.declared.message.Body.TheVariants as bodies
use Rattle.ballots.specs.declared.message.Message.{Message}
use Rattle.protocol.specs.Events as events
use Rattle.node.specs.Parcels.{datagrams_of}
use Rattle.protocol.specs.Answers.{answered}
use Rattle.protocol.specs.InTheAgreement.{pair_of, view}
use Rattle.protocol.specs.State.{Value, facts_at}
use Rattle.protocol.specs.Step.{host_in, outcome_of}
use Rattle.protocol.specs.declared.sends.Send.{Send}
use Rattle.engine.specs.Division.{Division}
use Rattle.engine.proofs.Names.{name_is_found}
use Rattle.ways_on.specs.Ways.{LeadsTo}
use Rattle.ways_on.proofs.Adding.{datagrams_differ}
use Rattle.ways_on.proofs.Appending.{sends_add}
use Rattle.ways_on.proofs.Going.{leads_also}
use Rattle.ways_on.proofs.Hearing.{HeardBy, whole_heard}
use Rattle.ways_on.proofs.NotYet.{no_promise}
use Rattle.ways_on.proofs.Reached.{IsReached, its_acts, its_match, its_own}
use Rattle.ways_on.proofs.Replies.{is_offered}
use Rattle.ways_on.proofs.Unsaid.{unsent}
use Rattle.wire.specs.Messages.{IsMessage}
use Rattle.wire.specs.Pieces.{IsDatagram}
use Rattle.wire.specs.Spelling.{datagram_text}
use Rattle.wire.specs.declared.datagram.Datagram.TheVariants as datagrams
use Rattle.world.specs.Sent.{WasSent, message, with_sends}
use Rattle.world.specs.World.{IsMade, World, WorldNode, member_at}
use Rattle.one_list.specs.Matches.{name_of, node_of}
use Rattle.one_list.proofs.nodes.EqualParts.{some_same}
use Rattle.one_list.proofs.sent.MessageHeaders.{divided}

module _ (division : Division) (weights : List ℕ) (made : IsMade division weights) (w : World)
    (r : IsReached division weights made w) (k : ℕ) (x : WorldNode)
    (stands : slice_get w.nodes k ≡ Some x) (up : x.up ≡ true)
    (u : ℕ) (within : u < length w.division.units) (c : Claim) where
  -- the claim's offer
  abbrev pub offer : Message Value
  offer = message w (name_of w u) c.member (bodies.Offer c)

  -- the promise of the node, which reports its last vote
  abbrev pub promise : Message Value
  promise = message w (name_of w u) k
      (bodies.Promise c (option_map pair_of (facts_at (member_at w k x) u).voted))

  -- The node promised the claim, and otherwise knows of the unit what it knew.
  pub record HasPromised (v : World) : Type 0 where
    pub heard : HeardBy division weights made w r k x stands up offer x.pieces v
    pub unit : heard.answers.unit ≡ u
    pub member : nodes.view (node_of w k heard.node) u
        ≡ record (view (member_at w k x) u) { promised = Some c }
    pub good : IsMessage promise
    pub sent : v.sent ≡ w.sent ++ datagrams_of promise

  -- the answer to an offer above what is promised
  module _ (above : is_above c (facts_at (member_at w k x) u).promised ≡ true) (v : World)
      (b : HeardBy division weights made w r k x stands up offer x.pieces v) where
    its_unit : b.answers.unit ≡ u
    its_unit = some_same b.answers.unit u (sym b.answers.named
        ∙ name_is_found w.division u (divided division weights (its_acts division weights made w r)
        w made (its_own division weights made w r) (its_match division weights made w r)) within)

    -- the outcome of the theory's member
    outcome_is : outcome_of (member_at w k x) u c.member (bodies.Offer c)
        ≡ notes_and_says (record (view (member_at w k x) u) { promised = Some c }) (Promised c)
        (theory.Promise (record {
          member = k;
          claim = c;
          report = (view (member_at w k x) u).voted;
        }))
    outcome_is = is_offered k (view (member_at w k x) u) c above

    -- what is sent
    abbrev its_send : Send
    its_send = record { to = c.member; message = promise }

    sends_are : b.answer.sends ≡ its_send ∷ []
    sends_are =
        ap (λ a. a.sends) b.answer_is
        ∙ ap (λ q. (answered (member_at w k x) q (host_in (member_at w k x).claim) (c.member ∷ [])
        (outcome_of (member_at w k x) q c.member (bodies.Offer c))).sends) its_unit
        ∙ ap (λ (o : Outcome Value). (answered (member_at w k x) u
        (host_in (member_at w k x).claim) (c.member ∷ []) o).sends) outcome_is

    promise_is_good : IsMessage promise
    promise_is_good = subst (All (λ (z : Send). IsMessage z.message)) sends_are b.written 0
        its_send (omega arith)

    promised : HasPromised v
    promised = record {
      heard = b;
      unit = its_unit;
      member = subst (λ q. nodes.view (node_of w k b.node) q
          ≡ (outcome_of (member_at w k x) q c.member (bodies.Offer c)).member) its_unit b.here
          ∙ ap (λ (o : Outcome Value). o.member) outcome_is;
      good = promise_is_good;
      sent = b.sent
          ∙ ap (λ zs. with_sends w.sent zs) sends_are
          ∙ sends_add w.sent promise its_send [] (λ y h. only_send y h)
          (datagrams_differ promise promise_is_good)
          (unsent division weights (its_acts division weights made w r) w made
          (its_own division weights made w r) (its_match division weights made w r) promise
          promise_is_good u within refl
          (no_promise division weights (its_acts division weights made w r) w made
          (its_own division weights made w r) (its_match division weights made w r) u within k x
          stands c (option_map pair_of (facts_at (member_at w k x) u).voted) above));
    }
      where
        only_send : (y : Send) → Contains (its_send ∷ []) y → y.message ≡ promise
        only_send y (zero, lt, e) = sym (ap (λ (z : Send). z.message) e)
        only_send y (suc j, lt, e) = absurd (omega (arith, lt))

  -- A node that receives an offer that was sent promises it, if it is above what is promised and
  -- the log isn't full.
  pub is_promised : WasSent w.sent offer → IsDatagram (datagrams.Whole offer) → (d : ℕ)
      → slice_get w.sent d ≡ Some (datagram_text (datagrams.Whole offer))
      → is_above c (facts_at (member_at w k x) u).promised ≡ true
      → LeadsTo HasPromised w (events.Deliver d k ∷ [])
  is_promised is_sent good d there above =
      leads_also (HeardBy division weights made w r k x stands up offer x.pieces) HasPromised w
      (events.Deliver d k ∷ [])
      (whole_heard division weights made w r k x stands up offer is_sent good d there)
      (λ v b. promised above v b)
