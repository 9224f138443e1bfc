-- The claim of the way: it is opened in the next round, and offered to all.
use Rattle.std.proofs.Common.{◌≡◌, ◌<◌, ◌≤◌, ◌+◌, ℕ, suc, max, Bool, true, false, nat_le, List, [], ◌∷◌, ◌++◌, length, filter, is_some, Option, None, Some, slice_get, refl, sym, ap, subst, ◌∙◌, arith, ⊎_elim}
use Rattle.std.specs.Prelude.{Contains}
use Rattle.std.specs.FinSet.{contains-from_list_nat}
use Rattle.std.specs.List.{range_with_len, slice_index_or}
use Rattle.std.proofs.lemmas.Bool.{and_from, cases_eq, lt-leb, true≢false}
use Rattle.std.proofs.lemmas.List.{length-append}
use Rattle.std.proofs.lemmas.List.Elements.{Contains-append_right, Contains-get_or}
use Rattle.std.proofs.lemmas.List.FromFn.{length-range_with_len}
use Rattle.claims.specs.Claims.{is_above}
use Rattle.claims.specs.Member.{Facts, Gathering, Member, Opened}
use Rattle.claims.specs.Messages as messages
use Rattle.claims.specs.Quorums.{nobody}
use Rattle.claims.specs.Step as theory
use Rattle.claims.specs.Step.{Outcome, notes_and_says, on_start}
use Rattle.claims.specs.Votes.{Ballot}
use Rattle.claims.specs.declared.claim.Claim.{Claim}
use Rattle.ballots.specs.declared.message.Body.TheVariants as bodies
use Rattle.ballots.specs.declared.message.Message.{Message}
use Rattle.claims.specs.Claim.{greatest_round}
use Rattle.engine.specs.declared.Letter.TheVariants.{Q}
use Rattle.protocol.specs.Events as events
use Rattle.faults.specs.Answers.{first_that_applies}
use Rattle.faults.specs.Bytes.{Text, is_among}
use Rattle.node.specs.Parcels.{datagrams_of}
use Rattle.protocol.specs.Answers.{Answer, answered, everyone, tree_digest}
use Rattle.protocol.specs.InTheAgreement.{view}
use Rattle.protocol.specs.Member.{IsMember}
use Rattle.protocol.specs.State.{HasLetter, State, Value, facts_at, holds_package, is_held, is_held_any}
use Rattle.protocol.specs.Step as members
use Rattle.protocol.specs.Step.{answered_or, at_unit, claim_refusal, claims, host_in, stranger, unless}
use Rattle.protocol.specs.declared.input.Input.TheVariants as inputs
use Rattle.protocol.specs.declared.refusal.Refusal.TheVariants as refusals
use Rattle.engine.specs.Division.{Division, number_found, unit_at}
use Rattle.engine.specs.Units.{is_in, positions}
use Rattle.engine.proofs.Kept.{unit_listed, unit_some}
use Rattle.engine.proofs.Lists.{below_in, in_kept}
use Rattle.engine.proofs.WellMade.{one_unit_has}
use Rattle.ways_on.specs.Rounds.{last_round, next_claim, seen_at}
use Rattle.ways_on.specs.Ways.{LeadsTo}
use Rattle.ways_on.proofs.Acting.{DidSo, IsPlain, does, is_member}
use Rattle.ways_on.proofs.Adding.{datagrams_differ}
use Rattle.ways_on.proofs.Asked.{IsUnasked, facts_stay, unasked_stays}
use Rattle.ways_on.proofs.Asking.{Asks}
use Rattle.ways_on.proofs.Deciding.{behind, some_same}
use Rattle.ways_on.proofs.NotYet.{no_offer}
use Rattle.ways_on.proofs.Pieces.{put_there}
use Rattle.ways_on.proofs.Proposing.{of_first, spread}
use Rattle.ways_on.proofs.Reached.{IsReached, its_acts, its_local, its_match, its_own}
use Rattle.ways_on.proofs.Seen.{next_above, opened_within, seen_is}
use Rattle.ways_on.proofs.Staying.{host_of}
use Rattle.ways_on.proofs.Unsaid.{unsent}
use Rattle.wire.specs.Messages.{IsMessage}
use Rattle.wire.specs.Spelling.{datagram_text}
use Rattle.wire.specs.declared.datagram.Datagram.TheVariants as datagrams
use Rattle.world.specs.Sent.{WasSent, message}
use Rattle.world.specs.World.{IsMade, World, WorldNode, member_at}
use Rattle.world.proofs.SentAdditions.{is_found}
use Rattle.one_list.specs.Matches.{name_of}
use Rattle.one_list.proofs.nodes.StepsInTheory.{answers_with}
use Rattle.one_list.proofs.nodes.NodesAsMembers.{get_within}
use Rattle.one_list.proofs.matching.SpokenMessages.{passes}

-- ---- a unit that can be built now is not held

module _ (s : State) (u : ℕ) (is : IsMember s) (lt : u < length s.division.units) where
  abbrev first : ℕ
  first = slice_index_or (unit_at s.division u).packages 0 0

  first_there : Contains (unit_at s.division u).packages first
  first_there = Contains-get_or (unit_at s.division u).packages 0 0
      (unit_some s.division u is.division lt)

  -- its first package would be held
  first_held : is_held s u ≡ true → holds_package s first ≡ true
  first_held held =
      ap (is_held_any s) (one_unit_has s.division u first is.division lt first_there).0 ∙ held

  pub not_held : HasLetter s u Q → is_held s u ≡ false
  not_held shown = by (is_held s u) refl
    where
      by : (b : Bool) → is_held s u ≡ b → b ≡ false
      by false e = refl
      by true e =
          let all = positions s.division.tree in
          absurd (true≢false (sym (contains-from_list_nat (filter (holds_package s) all) first
          ∙ in_kept (holds_package s) all first
          ∙ and_from (is_in all first) (holds_package s first)
          (below_in (length s.division.tree) first
          (unit_listed s.division u first is.division lt first_there))
          (first_held e)) ∙ shown.0))

-- an option that isn't some is None
none_there : {X : Type 0} (o : Option X) → is_some o ≡ false → o ≡ None
none_there None e = refl
none_there (Some x) e = absurd (true≢false e)

-- if all of three tests fail, none applies
none_of_three : {F : Type 0} (a b c : Bool) (x y z : F) → a ≡ false → b ≡ false → c ≡ false
    → first_that_applies ((a, x) ∷ (b, y) ∷ (c, z) ∷ []) ≡ None
none_of_three a b c x y z ea eb ec =
    ap (λ t. first_that_applies ((t, x) ∷ (b, y) ∷ (c, z) ∷ [])) ea
    ∙ ap (λ t. first_that_applies ((t, y) ∷ (c, z) ∷ [])) eb
    ∙ ap (λ t. first_that_applies ((t, z) ∷ [])) ec

max_is : (a b : ℕ) → b ≤ a → max a b ≡ a
max_is a b le = search arith

-- ---- the step

module _ (division : Division) (weights : List ℕ) (made : IsMade division weights) (w : World)
    (r : IsReached division weights made w) (me : ℕ) (x : WorldNode)
    (stands : slice_get w.nodes me ≡ Some x) (up : x.up ≡ true)
    (u : ℕ) (within : u < length w.division.units)
    (path : Text) (named : number_found w.division path ≡ Some u)
    (queued : HasLetter (member_at w me x) u Q) (host : ℕ) (few : host ≤ 65535)
    (left : last_round w u me < greatest_round) where
  abbrev s : State
  s = member_at w me x

  abbrev pub c : Claim
  c = next_claim w u me

  abbrev above : ℕ
  above = last_round w u me

  abbrev pub e : events.Event
  e = events.Claim me path host above

  free : (facts_at s u).held ≡ None
  free = none_there (facts_at s u).held
      (not_held s u (is_member division weights made w r e x stands up u within) within queued)

  not_above : (facts_at s u).opened ≤ above
  not_above = subst (λ (f : Facts Value). f.opened ≤ above) (seen_is w u me x stands up)
      (opened_within w u me)

  greatest : max above (facts_at s u).opened ≡ above
  greatest = max_is above (facts_at s u).opened not_above

  -- the outcome of opening a claim in the round above this one
  abbrev opens : ℕ → Outcome Value
  opens n = notes_and_says
      (record (view s u) {
        opened = suc n;
        stage = Gathering (record { round = suc n; member = me }) nobody None;
      })
      (Opened (suc n))
      (messages.Offer (record { round = suc n; member = me }))

  abbrev pub outcome : Outcome Value
  outcome = opens above

  started : on_start me (view s u) (view s u).held above ≡ Some outcome
  started = ap (λ h. on_start me (view s u) h above) free ∙ ap (λ n. Some (opens n)) greatest

  none_refused : claim_refusal s Q above u ≡ None
  none_refused = none_of_three (is_held s u) false
      (nat_le greatest_round (max above (facts_at s u).opened)) refusals.Held refusals.Waiting
      refusals.RoundsSpent
      (ap is_some free) refl
      (lt-leb greatest_round (max above (facts_at s u).opened)
      (subst (λ n. n < greatest_round) (sym greatest) left))

  abbrev pub answer : Answer
  answer = answered s u host (everyone s) outcome

  given : members.answer s Q (inputs.Claim path host above) ≡ answers_with answer
  given =
      ap (at_unit (stranger s path) (claims s Q host above)) named
      ∙ ap (λ o. unless o (answered_or refusals.Held s u host (everyone s)
      (on_start me (view s u) (view s u).held above))) none_refused
      ∙ ap (answered_or refusals.Held s u host (everyone s)) started

  shown : members.IsLetterOf s (number_found w.division path) Q
  shown = subst (λ o. members.IsLetterOf s o Q) (sym named) queued

  plain : IsPlain w e (inputs.Claim path host above)
  plain = record {
    asks = refl;
    step = refl;
    noted = refl;
    good = refl;
    other = refl;
    there = refl;
    happens = λ v h. h;
  }

  abbrev pub Did : World → Type 0
  Did = DidSo division weights made w r e x stands up u within outcome answer

  -- The claim is opened, unless the log is full.
  pub is_opened : LeadsTo Did w (e ∷ [])
  is_opened = does division weights made w r e x stands up u within
      (inputs.Claim path host above) plain few tt Q shown (theory.Start above) tt host (everyone s)
      outcome started given

  -- ---- the claim is offered

  abbrev offer : Message Value
  offer = message w (name_of w u) me (bodies.Offer c)

  everyone_some : 0 < length (range_with_len 0 (length w.weights))
  everyone_some =
      let lt = get_within w.nodes me x stands in
      let one = (its_local division weights made w r).one_for_each in
      omega (arith, lt, one, length-range_with_len 0 (length w.weights))

  module _ (y : World) (d : Did y) where
    good : IsMessage offer
    good = of_first offer (range_with_len 0 (length w.weights)) everyone_some d.written

    pub offer_sent : y.sent ≡ w.sent ++ datagram_text (datagrams.Whole offer) ∷ []
    offer_sent =
        d.sent
        ∙ spread w.sent offer (range_with_len 0 (length w.weights)) everyone_some
        (datagrams_differ offer good)
        (unsent division weights (its_acts division weights made w r) w made
        (its_own division weights made w r) (its_match division weights made w r) offer good u
        within refl
        (no_offer division weights (its_acts division weights made w r) w made
        (its_own division weights made w r) (its_match division weights made w r) u within me x
        stands c refl (omega (arith, not_above))))

    was_sent : WasSent y.sent offer
    was_sent = record {
      is_message = good;
      went_out = passes (is_among y.sent) (datagrams_of offer)
          (λ t at. is_found y.sent t (subst (λ l. Contains l t) (sym offer_sent)
          (Contains-append_right w.sent (datagrams_of offer) t at)));
    }

    pub one_sent : length y.sent ≡ suc (length w.sent)
    one_sent = ap length offer_sent
        ∙ length-append w.sent (datagram_text (datagrams.Whole offer) ∷ [])
        ∙ (let z : length w.sent + 1 ≡ suc (length w.sent) = omega arith in z)

    -- All nodes that are up are to be asked.
    module _ (asked : List ℕ)
        (are_up : (j : ℕ) → Contains asked j
        → (z : WorldNode) × (slice_get w.nodes j ≡ Some z) × (z.up ≡ true))
        (told : ℕ → Option (Ballot Value))
        (votes : (j : ℕ) → told j ≡ (seen_at w u j).voted) where
      abbrev had : ℕ → Option Value
      had q = (facts_at s q).held

      abbrev at0 : ℕ
      at0 = length w.sent

      same_offer : offer ≡ message y (name_of y u) c.member (bodies.Offer c)
      same_offer = sym (ap (λ (z : Division). record {
        sender = me;
        tree = tree_digest z.tree;
        path = (unit_at z u).name;
        body = bodies.Offer c;
      }) d.division_is)

      stands_then : slice_get y.nodes me ≡ Some d.node
      stands_then = ap (λ l. slice_get l me) d.nodes_are ∙ put_there w.nodes me x d.node stands

      abbrev IsNew : World → ℕ → Type 0
      IsNew = IsUnasked u c told

      new_before : (j : ℕ) → Contains asked j → IsNew w j
      new_before j at =
          let n = are_up j at in record {
            node = n.0;
            stands = n.1;
            on = n.2;
            above = next_above w u me j n.0 n.1 n.2;
            voted = sym (ap (λ (f : Facts Value). f.voted) (seen_is w u j n.0 n.1 n.2))
                ∙ sym (votes j);
          }

      stays : (q : ℕ) → facts_at (member_at y me d.node) q ≡ facts_at (member_at w me d.node) q
      stays = facts_stay w y d.division_is
          d.weights_are me d.node

      -- the claim's node is to be asked, too
      new_here : IsNew w me → IsNew y me
      new_here q =
          let same : q.node ≡ x = some_same q.node x (sym q.stands ∙ stands) in
          record {
            node = d.node;
            stands = stands_then;
            on = d.is_on;
            above = ap (is_above c) (ap (λ (f : Facts Value). f.promised) (stays u)
                ∙ ap (λ (m : Member Value). m.promised) d.here
                ∙ ap (λ n. (facts_at (member_at w me n) u).promised) (sym same)) ∙ q.above;
            voted = ap (λ (f : Facts Value). f.voted) (stays u)
                ∙ ap (λ (m : Member Value). m.voted) d.here
                ∙ ap (λ n. (facts_at (member_at w me n) u).voted) (sym same) ∙ q.voted;
          }

      holds_then : (q : ℕ) → (facts_at (member_at y me d.node) q).held ≡ had q
      holds_then q = ap (λ (f : Facts Value). f.held) (stays q) ∙ ⊎_elim
          (λ same. subst (λ i. (facts_at (member_at w me d.node) i).held ≡ had i) (sym same)
          (ap (λ (m : Member Value). m.held) d.here))
          (λ other. ap (λ (f : Facts Value). f.held) (d.there q other))
          (cases_eq q u)

      -- So promises can be collected.
      pub asks : Asks division weights made u c me at0 told host had (Gathering c nobody None) []
          asked y
      asks = record {
        reached = d.reached;
        within = subst (λ (z : Division). u < length z.units) (sym d.division_is) within;
        weigh = d.weights_are ∙ (its_own division weights made w r).1;
        is_offered = subst (WasSent y.sent) same_offer was_sent;
        there = ap (λ l. slice_get l at0) offer_sent
            ∙ behind w.sent (datagram_text (datagrams.Whole offer))
            ∙ ap (λ m. Some (datagram_text (datagrams.Whole m))) same_offer;
        node = d.node;
        stands = stands_then;
        on = d.is_on;
        far = ap (λ (m : Member Value). m.stage) d.here;
        on_host = ap host_in d.claim_is
            ∙ host_of x.claim u host (length w.weights) (outcome.member).stage tt;
        holds = holds_then;
        asked = λ j at. absurd (omega (arith, at.1));
        each = λ j at. ⊎_elim
            (λ same. subst (IsNew y) (sym same) (new_here (subst (IsNew w) same (new_before j at))))
            (λ other. unasked_stays u c told w y d.division_is
            d.weights_are me j d.node d.nodes_are other (new_before j at))
            (cases_eq j me);
      }
