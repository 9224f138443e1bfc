-- All nodes in the list are asked to vote, one after another, until the claim's node holds the
-- unit.
use Rattle.std.proofs.Common.{◌≡◌, ◌<◌, ◌+◌, ℕ, zero, suc, true, false, List, [], ◌∷◌, ◌++◌, length, Some, slice_get, slice_set, refl, sym, ap, ap₂, subst, ◌∙◌, arith, append_assoc, ⊎_elim}
use Rattle.std.specs.Prelude.{Contains}
use Rattle.std.specs.List.{range_with_len}
use Rattle.std.proofs.lemmas.Bool.{cases_eq}
use Rattle.std.proofs.lemmas.List.{length-append}
use Rattle.claims.specs.Nodes as nodes
use Rattle.claims.specs.Member.{Facts, Member, Voting}
use Rattle.claims.specs.Quorums.{Members, is_majority, with_member}
use Rattle.claims.specs.Step.{Outcome, still}
use Rattle.claims.specs.Votes.{Reaches, ballot}
use Rattle.claims.specs.declared.claim.Claim.{Claim}
use Rattle.ballots.specs.declared.message.Body.TheVariants as bodies
use Rattle.ballots.specs.declared.message.Message.{Message}
use Rattle.protocol.specs.Events as events
use Rattle.faults.specs.Bytes.{Text}
use Rattle.package_record.specs.Build.{build_text}
use Rattle.protocol.specs.Answers.{tree_digest}
use Rattle.protocol.specs.InTheAgreement.{view}
use Rattle.node.specs.Parcels.{datagrams_of}
use Rattle.protocol.specs.Restoring.{restored}
use Rattle.protocol.specs.Step.{outcome_of}
use Rattle.protocol.specs.State.{Value, facts_at, fresh}
use Rattle.engine.specs.Division.{Division, unit_at}
use Rattle.ways_on.specs.Ways.{HoldsUnit, LeadsTo}
use Rattle.ways_on.specs.inside.Listed.{deliveries, votes_from}
use Rattle.ways_on.proofs.Counting.{becomes, counts, quiet}
use Rattle.ways_on.proofs.Deciding.{StandsAs, is_next, put_elsewhere, some_same, stage_here, stands_as, was_sent}
use Rattle.ways_on.proofs.Going.{leads_also, leads_on}
use Rattle.ways_on.proofs.Hearing.{HeardBy, whole_heard}
use Rattle.ways_on.proofs.Majority.{MakeMajority}
use Rattle.ways_on.proofs.Pieces.{pieces_heard, put_there}
use Rattle.ways_on.proofs.Reached.{IsReached}
use Rattle.ways_on.proofs.Turns.{last_turn}
use Rattle.ways_on.proofs.Voting.{HasVoted, has_voted, vote}
use Rattle.wire.specs.Pieces.{header_with, numbers_of, piece_at}
use Rattle.wire.specs.Spelling.{datagram_text}
use Rattle.wire.specs.declared.datagram.Carrier.TheVariants as carriers
use Rattle.wire.specs.declared.datagram.Datagram.TheVariants as datagrams
use Rattle.wire.specs.declared.datagram.Piece.{Piece}
use Rattle.world.specs.Sent.{WasSent, message}
use Rattle.world.specs.World.{IsMade, World, WorldNode, member_at}
use Rattle.one_list.proofs.matching.SpokenMessages.{sent_more}
use Rattle.one_list.specs.Matches.{name_of, node_of}

-- an element of a list stays at its index after an append
pub get_left : (xs ys : List Text) (i : ℕ) (t : Text) → slice_get xs i ≡ Some t
    → slice_get (xs ++ ys) i ≡ Some t
get_left [] ys i t e = absurd cc
get_left (x ∷ xs) ys zero t e = e
get_left (x ∷ xs) ys (suc i) t e = get_left xs ys i t e

module _ (division : Division) (weights : List ℕ) (made : IsMade division weights)
    (u : ℕ) (c : Claim) (v : Value) (count : ℕ)
    (numbers : numbers_of (length (build_text v)) ≡ range_with_len 0 count) (some : 0 < count)
    (first me : ℕ) where
  -- the claim's proposal
  abbrev pub proposal_in : World → Message Value
  proposal_in w = message w (name_of w u) c.member (bodies.Propose c v)

  -- Node j promised the claim, did not vote for it, and keeps no piece of its proposal.
  pub record IsPending (w : World) (j : ℕ) : Type 0 where
    pub node : WorldNode
    pub stands : slice_get w.nodes j ≡ Some node
    pub on : node.up ≡ true
    pub promised : (facts_at (member_at w j node) u).promised ≡ Some c
    pub below : Reaches (facts_at (member_at w j node) u).voted c → ⊥
    pub none : (p : Piece) → Contains node.pieces p
        → p.header ≡ header_with (proposal_in w) (carriers.Propose c) v → ⊥

  -- The node's claim has the votes of S, and these nodes are still to be asked.
  pub record Polls (S : Members) (ks : List ℕ) (w : World) : Type 0 where
    pub reached : IsReached division weights made w
    pub within : u < length w.division.units
    pub weigh : w.weights ≡ weights
    pub is_sent : WasSent w.sent (proposal_in w)
    pub there : (j : ℕ) → j < count → slice_get w.sent (first + j)
        ≡ Some (datagram_text (datagrams.Piece
        (piece_at (header_with (proposal_in w) (carriers.Propose c) v) (build_text v) j)))
    pub node : WorldNode
    pub stands : slice_get w.nodes me ≡ Some node
    pub on : node.up ≡ true
    pub far : stage_here node u ≡ Voting (ballot c v) S
    pub each : (j : ℕ) → Contains ks j → IsPending w j

  -- ---- what depends only on the division

  proposal_stays : (w y : World) → y.division ≡ w.division → proposal_in y ≡ proposal_in w
  proposal_stays w y e = ap (λ (d : Division). record {
    sender = c.member;
    tree = tree_digest d.tree;
    path = (unit_at d u).name;
    body = bodies.Propose c v;
  }) e

  facts_stay : (w y : World) → y.division ≡ w.division → y.weights ≡ w.weights → (j : ℕ)
      (x : WorldNode) → facts_at (member_at y j x) u ≡ facts_at (member_at w j x) u
  facts_stay w y d l j x = ap₂ (λ (a : Division) (b : List ℕ).
      facts_at (record (restored (fresh a b j) x.notes) { claim = x.claim }) u) d l

  -- a node that another node's step didn't change is still to be asked
  pending_stays : (w y : World) → y.division ≡ w.division → y.weights ≡ w.weights → (k j : ℕ)
      (z : WorldNode) → y.nodes ≡ slice_set w.nodes k z → (j ≡ k → ⊥) → IsPending w j
      → IsPending y j
  pending_stays w y d l k j z nodes ne p = record {
    node = p.node;
    stands = ap (λ m. slice_get m j) nodes ∙ put_elsewhere w.nodes k j z ne ∙ p.stands;
    on = p.on;
    promised = ap (λ (f : Facts Value). f.promised) (facts_stay w y d l j p.node) ∙ p.promised;
    below = λ h. p.below (subst (λ (f : Facts Value). Reaches f.voted c)
        (facts_stay w y d l j p.node) h);
    none = λ q at e. p.none q at (e ∙ ap (λ m. header_with m (carriers.Propose c) v)
        (proposal_stays w y d));
  }

  module _ (w : World) (k : ℕ) (S : Members) (ks : List ℕ)
      (s : Polls S (k ∷ ks) w) (fresh_one : (j : ℕ) → Contains ks j → j ≡ k → ⊥)
      (less : is_majority weights (with_member S k) ≡ false) where
    here : Contains (k ∷ ks) k
    here = (zero, omega arith, refl)

    abbrev p : IsPending w k
    p = s.each k here

    abbrev Voted : World → Type 0
    Voted = HasVoted division weights made w s.reached k p.node p.stands p.on u s.within c v

    -- after it voted
    module _ (then : World) (h : Voted then) where
      abbrev z : StandsAs division weights made w s.reached k p.node p.stands p.on u s.within c v
          then h me (Voting (ballot c v) S)
      z = stands_as division weights made w s.reached k p.node p.stands p.on u s.within c v then h
          me s.node s.stands s.on (Voting (ballot c v) S) s.far

      abbrev its : Message Value
      its = message then (name_of then u) k (bodies.Vote c)

      in_then : u < length then.division.units
      in_then = subst (λ (d : Division). u < length d.units) (sym h.heard.division_is) s.within

      weigh_then : then.weights ≡ weights
      weigh_then = h.heard.weights_are ∙ s.weigh

      -- after its vote was counted
      module _ (y : World) (b : HeardBy division weights made then h.heard.reached me z.node z.there
          z.on its (z.node).pieces y) where
        abbrev outcome : Outcome Value
        outcome = still (record (view (member_at then me z.node) u)
            { stage = Voting (ballot c v) (with_member S k) })

        is_counted : outcome_of (member_at then me z.node) u k (bodies.Vote c) ≡ outcome
        is_counted = counts division weights made then h.heard.reached me z.node z.there z.on u
            in_then (ballot c v) S k z.as_far
            (ap (λ l. is_majority l (with_member S k)) weigh_then ∙ less)

        member_is : nodes.view (node_of then me b.node) u ≡ outcome.member
        member_is = becomes division weights made then h.heard.reached me z.node z.there z.on u
            in_then k (bodies.Vote c) (z.node).pieces y b outcome is_counted

        nothing_sent : y.sent ≡ then.sent
        nothing_sent = quiet division weights made then h.heard.reached me z.node z.there z.on u
            in_then k (bodies.Vote c) (z.node).pieces y b outcome is_counted refl

        proposal_is : proposal_in y ≡ proposal_in w
        proposal_is = proposal_stays w y (b.division_is ∙ h.heard.division_is)

        sent_there : WasSent y.sent (proposal_in w)
        sent_there = subst (λ l. WasSent l (proposal_in w)) (sym (nothing_sent ∙ h.heard.sent))
            (sent_more w.sent h.heard.answer.sends (proposal_in w) s.is_sent)

        pending_then : (j : ℕ) → Contains ks j → IsPending then j
        pending_then j at = pending_stays w then h.heard.division_is h.heard.weights_are k j
            h.heard.node h.heard.nodes_are (fresh_one j at)
            (s.each j (suc at.0, omega (arith, at.1), at.2))

        -- the claim's node itself, if it is still to be asked
        pending_here : IsPending then me → IsPending y me
        pending_here q =
            let same : q.node ≡ z.node = some_same q.node z.node (sym q.stands ∙ z.there) in
            record {
              node = b.node;
              stands = ap (λ l. slice_get l me) b.nodes_are
                  ∙ put_there then.nodes me z.node b.node z.there;
              on = b.is_on;
              promised = ap (λ (f : Facts Value). f.promised)
                  (facts_stay then y b.division_is b.weights_are me b.node)
                  ∙ ap (λ (m : Member Value). m.promised) member_is
                  ∙ ap (λ n. (facts_at (member_at then me n) u).promised) (sym same)
                  ∙ q.promised;
              below = λ e. q.below (subst (λ n. Reaches (facts_at (member_at then me n) u).voted c)
                  (sym same)
                  (subst (λ r. Reaches r c)
                  (ap (λ (f : Facts Value). f.voted)
                  (facts_stay then y b.division_is b.weights_are me b.node)
                  ∙ ap (λ (m : Member Value). m.voted) member_is) e));
              none = λ r at e. q.none r
                  (subst (λ (n : WorldNode). Contains n.pieces r) (sym same)
                  (subst (λ l. Contains l r) b.pieces at))
                  (e ∙ ap (λ m. header_with m (carriers.Propose c) v)
                  (proposal_stays then y b.division_is));
            }

        polled : Polls (with_member S k) ks y
        polled = record {
          reached = b.reached;
          within = subst (λ (d : Division). u < length d.units) (sym b.division_is) in_then;
          weigh = b.weights_are ∙ weigh_then;
          is_sent = subst (WasSent y.sent) (sym proposal_is) sent_there;
          there = λ j lt. ap (λ l. slice_get l (first + j)) (nothing_sent ∙ h.sent)
              ∙ get_left w.sent (datagrams_of (vote division weights made w s.reached k p.node
              p.stands p.on u s.within c v)) (first + j)
              (datagram_text (datagrams.Piece
              (piece_at (header_with (proposal_in w) (carriers.Propose c) v) (build_text v) j)))
              (s.there j lt)
              ∙ ap (λ m. Some (datagram_text (datagrams.Piece
              (piece_at (header_with m (carriers.Propose c) v) (build_text v) j))))
              (sym proposal_is);
          node = b.node;
          stands = ap (λ l. slice_get l me) b.nodes_are ∙ put_there then.nodes me z.node b.node
              z.there;
          on = b.is_on;
          far = ap (λ (q : Member Value). q.stage) member_is;
          each = λ j at. ⊎_elim
              (λ same. subst (IsPending y) (sym same)
              (pending_here (subst (IsPending then) same (pending_then j at))))
              (λ other. pending_stays then y b.division_is b.weights_are me j b.node b.nodes_are
              other (pending_then j at))
              (cases_eq j me);
        }

        sent_one : length y.sent ≡ suc (length w.sent)
        sent_one = ap length (nothing_sent ∙ h.sent)
            ∙ length-append w.sent (datagram_text (datagrams.Whole (vote division weights made w
            s.reached k p.node p.stands p.on u s.within c v)) ∷ [])
            ∙ (let e : length w.sent + 1 ≡ suc (length w.sent) = omega arith in e)

    -- A turn that doesn't complete a majority.
    pub one_turn : LeadsTo (λ y. Polls (with_member S k) ks y
        × (length y.sent ≡ suc (length w.sent))) w
        (deliveries first count k ++ events.Deliver (length w.sent) me ∷ [])
    one_turn =
        leads_on (HeardBy division weights made w s.reached k p.node p.stands p.on (proposal_in w)
        (p.node).pieces)
        (λ y. Polls (with_member S k) ks y × (length y.sent ≡ suc (length w.sent))) w
        (deliveries first count k) (events.Deliver (length w.sent) me ∷ [])
        (pieces_heard division weights made (proposal_in w) (carriers.Propose c) v refl count
        numbers (p.node).pieces p.none k (s.is_sent).is_message first some w s.reached p.node
        p.stands p.on s.is_sent s.there refl)
        (λ then b.
        let h = has_voted division weights made w s.reached k p.node p.stands p.on u s.within c v
        p.promised p.below then b in
        let a = stands_as division weights made w s.reached k p.node p.stands p.on u s.within c v
        then h me s.node s.stands s.on (Voting (ballot c v) S) s.far in
        let sent = was_sent division weights made w s.reached k p.node p.stands p.on u s.within c v
        then h in
        leads_also (HeardBy division weights made then h.heard.reached me a.node a.there a.on
        (message then (name_of then u) k (bodies.Vote c)) (a.node).pieces)
        (λ y. Polls (with_member S k) ks y × (length y.sent ≡ suc (length w.sent))) then
        (events.Deliver (length w.sent) me ∷ [])
        (whole_heard division weights made then h.heard.reached me a.node a.there a.on
        (message then (name_of then u) k (bodies.Vote c)) sent (sent.is_message, refl)
        (length w.sent)
        (is_next division weights made w s.reached k p.node p.stands p.on u s.within c v then h))
        (λ y d. (polled then h y d, sent_one then h y d)))

  -- Each is asked once.
  abbrev pub AreDistinct : List ℕ → Type 0
  AreDistinct [] = Prim.Unit {0}
  AreDistinct (k ∷ ks) = ((j : ℕ) → Contains ks j → j ≡ k → ⊥) × AreDistinct ks

  -- So the nodes vote, one after another, until the claim's node holds the unit, unless a log is
  -- full.
  pub all_turns : (ks : List ℕ) (S : Members) (w : World) → AreDistinct ks
      → MakeMajority weights S ks → Polls S ks w
      → LeadsTo (λ y. HoldsUnit y me u) w (votes_from first count (length w.sent) me ks)
  all_turns [] S w distinct majority s = absurd majority
  all_turns (k ∷ []) S w distinct majority s =
      let p = s.each k (zero, omega arith, refl) in
      last_turn division weights made w s.reached k p.node p.stands p.on u s.within c v count
      numbers some p.promised p.below s.is_sent first s.there p.none me s.node s.stands s.on
      (ballot c v) S refl s.far
      (ap (λ l. is_majority l (with_member S k)) s.weigh ∙ majority)
  all_turns (k ∷ l ∷ ks) S w distinct majority s =
      subst (LeadsTo (λ y. HoldsUnit y me u) w)
      (append_assoc (deliveries first count k) (events.Deliver (length w.sent) me ∷ [])
      (votes_from first count (suc (length w.sent)) me (l ∷ ks)))
      (leads_on (λ y. Polls (with_member S k) (l ∷ ks) y × (length y.sent ≡ suc (length w.sent)))
      (λ y. HoldsUnit y me u) w
      (deliveries first count k ++ events.Deliver (length w.sent) me ∷ [])
      (votes_from first count (suc (length w.sent)) me (l ∷ ks))
      (one_turn w k S (l ∷ ks) s distinct.0 majority.0)
      (λ y t. subst (λ n. LeadsTo (λ y. HoldsUnit y me u) y
      (votes_from first count n me (l ∷ ks))) t.1
      (all_turns (l ∷ ks) (with_member S k) y distinct.1 majority.1 t.0)))
