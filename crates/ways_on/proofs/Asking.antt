-- A complete turn of a node that is asked to promise: it receives the offer, and the claim's node
-- receives its promise.
use Rattle.std.proofs.Common.{◌≡◌, ◌<◌, ℕ, zero, suc, true, List, [], ◌∷◌, ◌++◌, length, Option, None, Some, option_map, slice_get, slice_set, refl, sym, ap, ap₂, subst, ◌∙◌, arith, append-nil, ⊎_elim}
use Rattle.std.specs.Prelude.{Contains}
use Rattle.std.proofs.lemmas.Bool.{cases_eq}
use Rattle.std.proofs.lemmas.List.Elements.{Contains-append_right}
use Rattle.claims.specs.Claims.{is_above}
use Rattle.claims.specs.Member.{Facts, Member, Stage}
use Rattle.claims.specs.Nodes as nodes
use Rattle.claims.specs.Quorums.{is_majority}
use Rattle.claims.specs.Step.{Outcome, on_promise, still}
use Rattle.claims.specs.Votes.{Ballot, report_of}
use Rattle.claims.specs.declared.claim.Claim.{Claim}
use Rattle.ballots.specs.declared.message.Body.TheVariants as bodies
use Rattle.ballots.specs.declared.message.Message.{Message}
use Rattle.protocol.specs.Events as events
use Rattle.faults.specs.Bytes.{is_among}
use Rattle.node.specs.Parcels.{datagrams_of}
use Rattle.protocol.specs.Answers.{tree_digest}
use Rattle.protocol.specs.InTheAgreement.{pair_of, view}
use Rattle.protocol.specs.State.{Value, facts_at}
use Rattle.protocol.specs.Step.{host_in, outcome_of}
use Rattle.engine.specs.Division.{Division, unit_at}
use Rattle.ways_on.specs.Ways.{LeadsTo}
use Rattle.ways_on.specs.inside.Listed.{deliveries}
use Rattle.ways_on.proofs.Coming.{HasNone, comes_whole}
use Rattle.ways_on.proofs.Counting.{becomes, quiet}
use Rattle.ways_on.proofs.Deciding.{put_elsewhere, some_same, stage_here}
use Rattle.ways_on.proofs.Going.{leads_also, leads_on}
use Rattle.ways_on.proofs.Hearing.{HeardBy}
use Rattle.ways_on.proofs.NotYet.{no_promise}
use Rattle.ways_on.proofs.Pieces.{put_there}
use Rattle.ways_on.proofs.Promising.{HasPromised, is_promised, promise}
use Rattle.ways_on.proofs.Reached.{IsReached, its_acts, its_local, its_match, its_own}
use Rattle.ways_on.proofs.Staying.{IsOpenStage, held_stays, host_stays}
use Rattle.ways_on.proofs.Unsaid.{unkept}
use Rattle.wire.specs.Pieces.{split_of}
use Rattle.wire.specs.Spelling.{datagram_text}
use Rattle.wire.specs.declared.datagram.Datagram.TheVariants as datagrams
use Rattle.world.specs.Sent.{WasSent, message}
use Rattle.world.specs.World.{IsMade, World, WorldNode, member_at}
use Rattle.world.proofs.SentAdditions.{is_found}
use Rattle.one_list.specs.Local.{AreKept}
use Rattle.one_list.specs.Matches.{name_of, node_of}
use Rattle.one_list.proofs.matching.SpokenMessages.{passes, sent_more}
use Rattle.ways_on.proofs.Polling.{get_left}
use Rattle.ways_on.proofs.Asked.{IsAsked, IsUnasked, asked_stays, facts_stay, offer_in, offer_stays, said_stays, unasked_stays}

-- a vote is restored from its encoding as a pair
told_again : (r : Option (Ballot Value)) → report_of (option_map pair_of r) ≡ r
told_again None = refl
told_again (Some b) = refl

module _ (division : Division) (weights : List ℕ) (made : IsMade division weights)
    (u : ℕ) (c : Claim) (me : ℕ) (at0 : ℕ) (told : ℕ → Option (Ballot Value)) (host : ℕ)
    (had : ℕ → Option Value) where
  -- The node's claim, on this host, is at this stage, and the node holds what it held. These nodes
  -- were asked, and those are still to be asked.
  pub record Asks (stage : Stage Value) (done ks : List ℕ) (w : World) : Type 0 where
    pub reached : IsReached division weights made w
    pub within : u < length w.division.units
    pub weigh : w.weights ≡ weights
    pub is_offered : WasSent w.sent (offer_in u c w)
    pub there : slice_get w.sent at0 ≡ Some (datagram_text (datagrams.Whole (offer_in u c w)))
    pub node : WorldNode
    pub stands : slice_get w.nodes me ≡ Some node
    pub on : node.up ≡ true
    pub far : stage_here node u ≡ stage
    pub on_host : host_in node.claim ≡ host
    pub holds : (q : ℕ) → (facts_at (member_at w me node) q).held ≡ had q
    pub asked : (j : ℕ) → Contains done j → IsAsked u c told w j
    pub each : (j : ℕ) → Contains ks j → IsUnasked u c told w j

  module _ (w : World) (k : ℕ) (stage : Stage Value) (is_open : IsOpenStage stage)
      (done ks : List ℕ) (s : Asks stage done (k ∷ ks) w)
      (fresh_one : (j : ℕ) → Contains ks j → j ≡ k → ⊥)
      (old_one : (j : ℕ) → Contains done j → j ≡ k → ⊥) where
    abbrev pub p : IsUnasked u c told w k
    p = s.each k (zero, omega arith, refl)

    abbrev pub Promised : World → Type 0
    Promised = HasPromised division weights made w s.reached k p.node p.stands p.on u s.within c

    -- the node's promise
    abbrev pub theirs : Message Value
    theirs = promise division weights made w s.reached k p.node p.stands p.on u s.within c

    -- after the node promised
    module _ (then : World) (h : Promised then) where
      abbrev pub its : Message Value
      its = message then (name_of then u) k
          (bodies.Promise c (option_map pair_of (facts_at (member_at w k p.node) u).voted))

      pub same_promise : theirs ≡ its
      same_promise = sym (ap (λ (d : Division). record {
        sender = k;
        tree = tree_digest d.tree;
        path = (unit_at d u).name;
        body = bodies.Promise c (option_map pair_of (facts_at (member_at w k p.node) u).voted);
      }) h.heard.division_is)

      -- the claim's node is at the same stage, with the same pieces
      pub record Stands : Type 0 where
        pub node : WorldNode
        pub there : slice_get then.nodes me ≡ Some node
        pub on : node.up ≡ true
        pub as_far : stage_here node u ≡ stage
        pub on_host : host_in node.claim ≡ host
        pub holds : (q : ℕ) → (facts_at (member_at then me node) q).held ≡ had q
        pub kept : AreKept w node.pieces

      -- the effect of the offer on the node that receives it
      held_there : (q : ℕ) → (facts_at (member_at w k h.heard.node) q).held
          ≡ (facts_at (member_at w k p.node) q).held
      held_there = held_stays division weights made w s.reached k p.node p.stands p.on u s.within
          c.member (bodies.Offer c) (p.node).pieces then h.heard
          (ap (λ (m : Member Value). m.held) h.member)

      pub stands_so : Stands
      stands_so = ⊎_elim
          (λ same.
          let is : p.node ≡ s.node =
          some_same p.node s.node (sym p.stands ∙ ap (slice_get w.nodes) (sym same) ∙ s.stands) in
          record {
            node = h.heard.node;
            there = ap (λ l. slice_get l me) h.heard.nodes_are
                ∙ ap (slice_get (slice_set w.nodes k h.heard.node)) same
                ∙ put_there w.nodes k p.node h.heard.node p.stands;
            on = h.heard.is_on;
            as_far = ap (λ (m : Member Value). m.stage) h.member
                ∙ ap (λ y. stage_here y u) is ∙ s.far;
            on_host = host_stays division weights made w s.reached k p.node p.stands p.on u s.within
                c.member (bodies.Offer c) (p.node).pieces then h.heard
                (subst IsOpenStage (sym (ap (λ (m : Member Value). m.stage) h.member
                ∙ ap (λ y. stage_here y u) is ∙ s.far)) is_open)
                ∙ ap (λ (n : WorldNode). host_in n.claim) is ∙ s.on_host;
            holds = λ q.
                ap (λ (f : Facts Value). f.held) (facts_stay w then h.heard.division_is
                h.heard.weights_are me h.heard.node q)
                ∙ ap (λ j. (facts_at (member_at w j h.heard.node) q).held) same
                ∙ held_there q
                ∙ ap (λ j. (facts_at (member_at w j p.node) q).held) (sym same)
                ∙ ap (λ n. (facts_at (member_at w me n) q).held) is
                ∙ s.holds q;
            kept = subst (AreKept w) (sym h.heard.pieces)
                ((its_local division weights made w s.reached).each k p.node p.stands).pieces;
          })
          (λ other. record {
            node = s.node;
            there = ap (λ l. slice_get l me) h.heard.nodes_are
                ∙ put_elsewhere w.nodes k me h.heard.node other ∙ s.stands;
            on = s.on;
            as_far = s.far;
            on_host = s.on_host;
            holds = λ q. ap (λ (f : Facts Value). f.held) (facts_stay w then h.heard.division_is
                h.heard.weights_are me s.node q) ∙ s.holds q;
            kept = ((its_local division weights made w s.reached).each me s.node s.stands).pieces;
          })
          (cases_eq me k)

      pub was_sent : WasSent then.sent its
      was_sent = subst (WasSent then.sent) same_promise (record {
        is_message = h.good;
        went_out = passes (is_among then.sent) (datagrams_of theirs)
            (λ t at. is_found then.sent t (subst (λ l. Contains l t) (sym h.sent)
            (Contains-append_right w.sent (datagrams_of theirs) t at)));
      })

      pub none_kept : HasNone its stands_so.node.pieces
      none_kept = subst (λ n. HasNone n stands_so.node.pieces) same_promise
          (λ a b carried q at e. unkept division weights (its_acts division weights made w s.reached)
          w made (its_own division weights made w s.reached)
          (its_match division weights made w s.reached) theirs h.good u s.within refl
          (no_promise division weights (its_acts division weights made w s.reached) w made
          (its_own division weights made w s.reached) (its_match division weights made w s.reached)
          u s.within k p.node p.stands c
          (option_map pair_of (facts_at (member_at w k p.node) u).voted) p.above)
          a b carried stands_so.node.pieces stands_so.kept q at e)

      pub sent_then : then.sent ≡ w.sent ++ (datagrams_of its ++ [])
      sent_then = h.sent ∙ ap (λ n. w.sent ++ datagrams_of n) same_promise
          ∙ ap (λ l. w.sent ++ l) (sym (append-nil (datagrams_of its)))

      pub in_then : u < length then.division.units
      in_then = subst (λ (d : Division). u < length d.units) (sym h.heard.division_is) s.within

      pub weigh_then : then.weights ≡ weights
      weigh_then = h.heard.weights_are ∙ s.weigh

      abbrev pub member_then : Member Value
      member_then = view (member_at then me stands_so.node) u

      -- after its promise was received, so the claim is at this stage
      module _ (y : World) (b : HeardBy division weights made then h.heard.reached me
          stands_so.node stands_so.there stands_so.on its stands_so.node.pieces y)
          (new : Stage Value) (is_open_new : IsOpenStage new)
          (member_is : nodes.view (node_of then me b.node) u
          ≡ record member_then { stage = new }) where
        pub stands_then : slice_get y.nodes me ≡ Some b.node
        stands_then = ap (λ l. slice_get l me) b.nodes_are
            ∙ put_there then.nodes me stands_so.node b.node stands_so.there

        -- the promises and votes that the claim's node knows stay the same
        promised_stays : (facts_at (member_at y me b.node) u).promised
            ≡ (facts_at (member_at then me stands_so.node) u).promised
        promised_stays = ap (λ (f : Facts Value). f.promised)
            (facts_stay then y b.division_is b.weights_are me b.node u)
            ∙ ap (λ (m : Member Value). m.promised) member_is

        voted_stays : (facts_at (member_at y me b.node) u).voted
            ≡ (facts_at (member_at then me stands_so.node) u).voted
        voted_stays = ap (λ (f : Facts Value). f.voted)
            (facts_stay then y b.division_is b.weights_are me b.node u)
            ∙ ap (λ (m : Member Value). m.voted) member_is

        unasked_here : IsUnasked u c told then me → IsUnasked u c told y me
        unasked_here q =
            let same : q.node ≡ stands_so.node =
            some_same q.node stands_so.node (sym q.stands ∙ stands_so.there) in
            record {
              node = b.node;
              stands = stands_then;
              on = b.is_on;
              above = ap (is_above c) (promised_stays
                  ∙ ap (λ n. (facts_at (member_at then me n) u).promised) (sym same)) ∙ q.above;
              voted = voted_stays ∙ ap (λ n. (facts_at (member_at then me n) u).voted) (sym same)
                  ∙ q.voted;
            }

        asked_here : IsAsked u c told then me → IsAsked u c told y me
        asked_here q =
            let same : q.node ≡ stands_so.node =
            some_same q.node stands_so.node (sym q.stands ∙ stands_so.there) in
            record {
              node = b.node;
              stands = stands_then;
              on = b.is_on;
              promised = promised_stays
                  ∙ ap (λ n. (facts_at (member_at then me n) u).promised) (sym same) ∙ q.promised;
              voted = voted_stays ∙ ap (λ n. (facts_at (member_at then me n) u).voted) (sym same)
                  ∙ q.voted;
              said = said_stays u c told then y b.division_is b.answer.sends b.sent me q.said;
            }

        asked_later : (j : ℕ) → IsAsked u c told then j → IsAsked u c told y j
        asked_later j q = ⊎_elim
            (λ same. subst (IsAsked u c told y) (sym same) (asked_here (subst (IsAsked u c told then) same q)))
            (λ other. asked_stays u c told then y b.division_is b.weights_are b.answer.sends b.sent me j
            b.node b.nodes_are other q)
            (cases_eq j me)

        unasked_later : (j : ℕ) → IsUnasked u c told then j → IsUnasked u c told y j
        unasked_later j q = ⊎_elim
            (λ same. subst (IsUnasked u c told y) (sym same) (unasked_here (subst (IsUnasked u c told then) same q)))
            (λ other. unasked_stays u c told then y b.division_is b.weights_are me j b.node b.nodes_are
            other q)
            (cases_eq j me)

        -- the node that was just asked
        asked_now : IsAsked u c told then k
        asked_now = record {
          node = h.heard.node;
          stands = ap (λ l. slice_get l k) h.heard.nodes_are
              ∙ put_there w.nodes k p.node h.heard.node p.stands;
          on = h.heard.is_on;
          promised = ap (λ (f : Facts Value). f.promised)
              (facts_stay w then h.heard.division_is h.heard.weights_are k h.heard.node u)
              ∙ ap (λ (m : Member Value). m.promised) h.member;
          voted = ap (λ (f : Facts Value). f.voted)
              (facts_stay w then h.heard.division_is h.heard.weights_are k h.heard.node u)
              ∙ ap (λ (m : Member Value). m.voted) h.member ∙ p.voted;
          said = subst (WasSent then.sent)
              (ap (λ r. message then (name_of then u) k (bodies.Promise c (option_map pair_of r)))
              p.voted) was_sent;
        }

        pub was_asked : (j : ℕ) → Contains (k ∷ done) j → IsAsked u c told y j
        was_asked j (zero, lt, e) = subst (IsAsked u c told y) e (asked_later k asked_now)
        was_asked j (suc i, lt, e) =
            let at : Contains done j = (i, omega (arith, lt), e) in
            asked_later j (asked_stays u c told w then h.heard.division_is h.heard.weights_are
            h.heard.answer.sends h.heard.sent k j h.heard.node h.heard.nodes_are (old_one j at) (s.asked j at))

        pub offer_is : offer_in u c y ≡ offer_in u c w
        offer_is = offer_stays u c w y (b.division_is ∙ h.heard.division_is)

        host_then : host_in (b.node).claim ≡ host
        host_then = host_stays division weights made then h.heard.reached me stands_so.node
            stands_so.there stands_so.on u in_then k (bodies.Promise c
            (option_map pair_of (facts_at (member_at w k p.node) u).voted)) stands_so.node.pieces
            y b (subst IsOpenStage (sym (ap (λ (m : Member Value). m.stage) member_is)) is_open_new)
            ∙ stands_so.on_host

        holds_then : (q : ℕ) → (facts_at (member_at y me b.node) q).held ≡ had q
        holds_then q =
            ap (λ (f : Facts Value). f.held)
            (facts_stay then y b.division_is b.weights_are me b.node q)
            ∙ held_stays division weights made then h.heard.reached me stands_so.node
            stands_so.there stands_so.on u in_then k (bodies.Promise c
            (option_map pair_of (facts_at (member_at w k p.node) u).voted)) stands_so.node.pieces
            y b (ap (λ (m : Member Value). m.held) member_is) q
            ∙ stands_so.holds q

        -- if nothing was sent
        asks : y.sent ≡ then.sent → Asks new (k ∷ done) ks y
        asks nothing_sent = record {
          reached = b.reached;
          within = subst (λ (d : Division). u < length d.units) (sym b.division_is) in_then;
          weigh = b.weights_are ∙ weigh_then;
          is_offered = subst (WasSent y.sent) (sym offer_is)
              (subst (λ l. WasSent l (offer_in u c w)) (sym (nothing_sent ∙ h.heard.sent))
              (sent_more w.sent h.heard.answer.sends (offer_in u c w) s.is_offered));
          there = ap (λ l. slice_get l at0) (nothing_sent ∙ h.sent)
              ∙ get_left w.sent (datagrams_of theirs) at0
              (datagram_text (datagrams.Whole (offer_in u c w))) s.there
              ∙ ap (λ m. Some (datagram_text (datagrams.Whole m))) (sym offer_is);
          node = b.node;
          stands = stands_then;
          on = b.is_on;
          far = ap (λ (m : Member Value). m.stage) member_is;
          on_host = host_then;
          holds = holds_then;
          asked = was_asked;
          each = λ j at. unasked_later j (unasked_stays u c told w then h.heard.division_is
              h.heard.weights_are k j h.heard.node h.heard.nodes_are (fresh_one j at)
              (s.each j (suc at.0, omega (arith, at.1), at.2)));
        }

      -- what the claim's node does with the promise, by its stage
      pub outcome_is : (o : Outcome Value)
          → on_promise (is_majority weights) member_then stage
          (record { member = k; claim = c; report = told k }) ≡ o
          → outcome_of (member_at then me stands_so.node) u k (bodies.Promise c
          (option_map pair_of (facts_at (member_at w k p.node) u).voted)) ≡ o
      outcome_is o e =
          ap₂ (λ (l : List ℕ) (q : Option (Ballot Value)). on_promise (is_majority l) member_then
          member_then.stage (record { member = k; claim = c; report = q })) weigh_then
          (told_again (facts_at (member_at w k p.node) u).voted ∙ p.voted)
          ∙ ap (λ z. on_promise (is_majority weights) member_then z
          (record { member = k; claim = c; report = told k })) stands_so.as_far
          ∙ e

    -- The node receives the offer, and the claim's node its promise.
    pub hears_promise : (R : World → Type 0)
        → ((then : World) (h : Promised then) (y : World)
        → HeardBy division weights made then h.heard.reached me (stands_so then h).node
        (stands_so then h).there (stands_so then h).on (its then h)
        ((stands_so then h).node).pieces y → R y)
        → LeadsTo R w
        (events.Deliver at0 k ∷ deliveries (length w.sent) (length (split_of theirs)) me)
    hears_promise R leaves =
        leads_on Promised R w (events.Deliver at0 k ∷ [])
        (deliveries (length w.sent) (length (split_of theirs)) me)
        (is_promised division weights made w s.reached k p.node p.stands p.on u s.within c
        s.is_offered ((s.is_offered).is_message, refl) at0 s.there p.above)
        (λ then h.
        let z = stands_so then h in
        subst (λ m. LeadsTo R then (deliveries (length w.sent) (length (split_of m)) me))
        (sym (same_promise then h))
        (leads_also (HeardBy division weights made then h.heard.reached me z.node z.there z.on
        (its then h) (z.node).pieces) R then
        (deliveries (length w.sent) (length (split_of (its then h))) me)
        (comes_whole division weights made then h.heard.reached me z.node z.there z.on
        (its then h) (was_sent then h) (none_kept then h) w.sent [] (sent_then then h))
        (leaves then h)))

    -- A turn in which the claim's node only counts the promise, or begins to wait for a build.
    pub one_ask : (new : Stage Value) → IsOpenStage new
        → ((m : Member Value) → on_promise (is_majority weights) m stage
        (record { member = k; claim = c; report = told k }) ≡ still (record m { stage = new }))
        → LeadsTo (λ y. Asks new (k ∷ done) ks y × (y.sent ≡ w.sent ++ datagrams_of theirs)) w
        (events.Deliver at0 k ∷ deliveries (length w.sent) (length (split_of theirs)) me)
    one_ask new is_open_new turns =
        hears_promise (λ y. Asks new (k ∷ done) ks y × (y.sent ≡ w.sent ++ datagrams_of theirs))
        (λ then h y b.
        let z = stands_so then h in
        let body = bodies.Promise c (option_map pair_of (facts_at (member_at w k p.node) u).voted)
        in
        let outcome : Outcome Value = still (record (member_then then h) { stage = new }) in
        let is = outcome_is then h outcome (turns (member_then then h)) in
        let nothing = quiet division weights made then h.heard.reached me z.node z.there z.on u
        (in_then then h) k body (z.node).pieces y b outcome is refl in
        let member_is = becomes division weights made then h.heard.reached me z.node z.there z.on u
        (in_then then h) k body (z.node).pieces y b outcome is in (
          asks then h y b new is_open_new member_is nothing,
          nothing ∙ h.sent,
        ))
