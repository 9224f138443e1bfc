-- The list of events that is returned, in terms of the proof.
use Rattle.std.proofs.Common.{◌≡◌, ◌<◌, ◌+◌, ℕ, zero, suc, Bool, true, false, not, List, [], ◌∷◌, ◌++◌, length, Option, None, Some, option_map, slice_get, refl, sym, ap, subst, ◌∙◌, arith, inr, ltb-true, if◌then◌else◌}
use Rattle.std.specs.Prelude.{Contains}
use Rattle.std.proofs.lemmas.List.{length-map}
use Rattle.std.proofs.lemmas.List.FromFn.{length-map-range_with_len}
use Rattle.claims.specs.Member.{Building, Gathering}
use Rattle.claims.specs.Quorums.{Members, is_majority, nobody, with_member}
use Rattle.claims.specs.Votes.{Ballot, Reaches, kept_report}
use Rattle.claims.specs.declared.claim.Claim.{Claim}
use Rattle.ballots.specs.declared.message.Body.{Body}
use Rattle.ballots.specs.declared.message.Body.TheVariants as bodies
use Rattle.ballots.specs.declared.message.Message.{Message}
use Rattle.claims.specs.Claim.{greatest_round}
use Rattle.engine.specs.declared.Letter.{Letter}
use Rattle.engine.specs.declared.Letter.TheVariants as letters
use Rattle.protocol.specs.Events.{Built, Deliver, Event}
use Rattle.faults.specs.Answers.{first_that_applies, option_or}
use Rattle.faults.specs.Bytes.{Text}
use Rattle.package_record.specs.Build.{build_text}
use Rattle.protocol.specs.Answers.{tree_digest}
use Rattle.protocol.specs.Given.{Given}
use Rattle.protocol.specs.InTheAgreement.{pair_of}
use Rattle.protocol.specs.State.{HasLetter, State, Value, facts_at}
use Rattle.protocol.specs.Step.{IsLetterOf, files_refusal}
use Rattle.protocol.specs.declared.refusal.Refusal.{Refusal}
use Rattle.protocol.specs.declared.refusal.Refusal.TheVariants as refusals
use Rattle.engine.specs.Division.{Division, number_found, unit_at}
use Rattle.ways_on.specs.Asked.{IsGranted, is_majority_up, is_queued, next_build, refusal_at, refusal_for}
use Rattle.ways_on.specs.Rounds.{is_round_left, last_round, next_claim, seen_at}
use Rattle.ways_on.specs.Ways.{HoldsUnit, LeadsTo}
use Rattle.ways_on.specs.declared.fault.WayFault.{WayFault}
use Rattle.ways_on.specs.declared.fault.WayFault.TheVariants as fault
use Rattle.ways_on.specs.inside.Listed.{asked_of, asks_from, behind_promises, deliveries, promise_of, promised_in, proposed_in, report_of_all, votes_from}
use Rattle.ways_on.proofs.Appending.{later}
use Rattle.ways_on.proofs.Asking.{Asks}
use Rattle.ways_on.proofs.Building.{build_on, is_proposed}
use Rattle.ways_on.proofs.Gathering.{AreNew, Gathers, all_asks, asks_by, behind_by, count_of, last_waits, report_by}
use Rattle.ways_on.proofs.Going.{leads_also, leads_on, leads_with}
use Rattle.ways_on.proofs.Majority.{MakeMajority}
use Rattle.ways_on.proofs.Polling.{AreDistinct, all_turns}
use Rattle.ways_on.proofs.Proposing.{IsPolled, count_in, numbers_in, proposal_texts}
use Rattle.ways_on.proofs.Reached.{IsReached, its_own}
use Rattle.ways_on.proofs.Remaining.{sent_stays}
use Rattle.ways_on.proofs.Reported.{last_proposes}
use Rattle.ways_on.proofs.Seen.{Apart, asked_apart, asked_up, next_unvoted}
use Rattle.wire.specs.Spelling.{datagram_text}
use Rattle.wire.specs.Pieces.{header_with, piece_at, split_of}
use Rattle.wire.specs.declared.datagram.Carrier.TheVariants as carriers
use Rattle.wire.specs.declared.datagram.Datagram.TheVariants as datagrams
use Rattle.world.specs.Happening.{Happens}
use Rattle.world.specs.Sent.{WasSent, message}
use Rattle.world.specs.World.{IsMade, World, WorldNode, member_at}

-- ---- if nothing is refused

-- Nothing is refused for the unit.
pub record IsFree (w : World) (s : State) (u host : ℕ) (given : Given) : Type 0 where
  pub queued : HasLetter s u letters.Q
  pub enough : is_majority_up w ≡ true
  pub left : last_round w u s.me < greatest_round
  pub right : files_refusal s u given (next_build w s u host given) ≡ None

no_fault : {X : Type 0} (f : X) → Some f ≡ None → ⊥
no_fault f e = cc

-- a test that gives no reason passed
passed : (b : Bool) (f : WayFault) (rest : Option WayFault)
    → (if not b then Some f else rest) ≡ None → (b ≡ true) × (rest ≡ None)
passed true f rest e = (refl, e)
passed false f rest e = absurd (no_fault f e)

only_q : (s : State) (u : ℕ) (l : Letter) → is_queued l ≡ true → HasLetter s u l
    → HasLetter s u letters.Q
only_q s u letters.T e shown = absurd cc
only_q s u letters.Q e shown = shown
only_q s u letters.B e shown = absurd cc
only_q s u letters.I e shown = absurd cc
only_q s u letters.Ignored e shown = absurd cc

none_first : (o p : Option WayFault) → option_or o p ≡ None → (o ≡ None) × (p ≡ None)
none_first None p e = (refl, e)
none_first (Some f) p e = absurd (no_fault f e)

none_mapped : (o : Option Refusal) → option_map fault.Refused o ≡ None → o ≡ None
none_mapped None e = refl
none_mapped (Some f) e = absurd (no_fault (fault.Refused f) e)

free : (w : World) (s : State) (l : Letter) (u host : ℕ) (given : Given) → HasLetter s u l
    → refusal_for w s l host given u ≡ None → IsFree w s u host given
free w s l u host given shown none =
    let parts = none_first
    (first_that_applies (
    (not (is_queued l), fault.NotQueued)
    ∷ (not (is_majority_up w), fault.NoMajority)
    ∷ (not (is_round_left w u s.me), fault.Refused refusals.RoundsSpent)
    ∷ []))
    (option_map fault.Refused (files_refusal s u given (next_build w s u host given))) none in
    let first = passed (is_queued l) fault.NotQueued _ parts.0 in
    let second = passed (is_majority_up w) fault.NoMajority _ first.1 in
    let third = passed (is_round_left w u s.me) (fault.Refused refusals.RoundsSpent) _ second.1 in
    record {
      queued = only_q s u l first.0 shown;
      enough = second.0;
      left = ltb-true (last_round w u s.me) greatest_round third.0;
      right = none_mapped (files_refusal s u given (next_build w s u host given)) parts.1;
    }

pub granted_free : (w : World) (k : ℕ) (path : Text) (host : ℕ) (given : Given)
    (g : IsGranted w k path host given) (u : ℕ) → number_found w.division path ≡ Some u
    → IsFree w (member_at w k g.node) u host given
granted_free w k path host given g u named =
    free w (member_at w k g.node) g.letter u host given
    (subst (λ o. IsLetterOf (member_at w k g.node) o g.letter) named g.shown)
    (sym (g.tested_is
    ∙ ap (refusal_at w (member_at w k g.node) g.letter path host given) named))

-- ---- the list in terms of the proof

module _ (division : Division) (weights : List ℕ) (made : IsMade division weights) (w : World)
    (r : IsReached division weights made w) (me : ℕ) (x : WorldNode)
    (stands : slice_get w.nodes me ≡ Some x) (up : x.up ≡ true)
    (u : ℕ) (within : u < length w.division.units) (host : ℕ) where
  abbrev pub s : State
  s = member_at w me x

  abbrev pub c : Claim
  c = next_claim w u me

  abbrev pub told : ℕ → Option (Ballot Value)
  told j = (seen_at w u j).voted

  abbrev pub had : ℕ → Option Value
  had q = (facts_at s q).held

  abbrev pub at0 : ℕ
  at0 = length w.sent

  -- the number of datagrams of each promise
  same_count : (k : ℕ) → count_of division weights made u c me at0 told host had k
      ≡ promised_in w u c k
  same_count k = ap (λ (d : Division). length (split_of (record {
    sender = k;
    tree = tree_digest d.tree;
    path = (unit_at d u).name;
    body = bodies.Promise c (option_map pair_of (told k));
  }))) (sym (its_own division weights made w r).0)

  pub same_asks : (next : ℕ) (ks : List ℕ)
      → asks_by division weights made u c me at0 told host had next ks
      ≡ asks_from w u c at0 next ks
  same_asks next [] = refl
  same_asks next (k ∷ ks) =
      ap (λ n. one_asked k n ++ asks_by division weights made u c me at0 told host had (next + n) ks)
      (same_count k)
      ∙ ap (λ l. one_asked k (promised_in w u c k) ++ l) (same_asks (next + promised_in w u c k) ks)
    where
      one_asked : ℕ → ℕ → List Event
      one_asked k n = Deliver at0 k
          ∷ deliveries next n me

  pub same_behind : (next : ℕ) (ks : List ℕ)
      → behind_by division weights made u c me at0 told host had next ks
      ≡ behind_promises w u c next ks
  same_behind next [] = refl
  same_behind next (k ∷ ks) =
      ap (λ n. behind_by division weights made u c me at0 told host had (next + n) ks)
      (same_count k)
      ∙ same_behind (next + promised_in w u c k) ks

  pub same_report : (kept : Option (Ballot Value)) (ks : List ℕ)
      → report_by division weights made u c me at0 told host had kept ks
      ≡ report_of_all w u kept ks
  same_report kept [] = refl
  same_report kept (k ∷ ks) = same_report (kept_report kept (told k)) ks

  -- the number of datagrams of a proposal
  pub same_proposed : (v : Value) → proposed_in w u c v ≡ count_in v
  same_proposed v =
      let n = message w (unit_at w.division u).name me (bodies.Propose c v) in
      sym (length-map (split_of n)
      datagram_text)
      ∙ ap length (proposal_texts n c v refl)
      ∙ length-map-range_with_len (λ j. datagram_text
      (datagrams.Piece (piece_at (header_with n (carriers.Propose c) v)
      (build_text v) j))) 0 (count_in v)

  are_new : (done ks : List ℕ) → Apart ks
      → ((j : ℕ) → Contains ks j → Contains done j → ⊥)
      → AreNew division weights made u c me at0 told host had done ks
  are_new done [] apart none = tt
  are_new done (k ∷ ks) apart none = (
    apart.0,
    (λ j at e. none k (zero, omega arith, refl) (subst (Contains done) e at)),
    are_new (k ∷ done) ks apart.1 (λ j at old. fresh j at old),
  )
    where
      fresh : (j : ℕ) → Contains ks j → Contains (k ∷ done) j → ⊥
      fresh j at (zero, lt, e) = apart.0 j at (sym e)
      fresh j at (suc i, lt, e) = none j
          (later k ks j at) (i, omega (arith, lt), e)

  -- ---- the parts of the list

  abbrev pub asked : List ℕ
  asked = asked_of w

  news : (j : ℕ) → Contains asked j → Reaches (told j) c → ⊥
  news j at = let n = asked_up w j at in
      next_unvoted division weights made w r u me j n.0 within n.1 n.2

  -- what was sent on the way, if this build was proposed
  abbrev pub Said : Value → World → Type 0
  Said v y = ((j : ℕ) → Contains asked j → WasSent y.sent (promise_of w u c j))
      × WasSent y.sent (message w (unit_at w.division u).name c.member (bodies.Propose c v))

  said_stays : (v : Value) (y z : World) (e : Event) → Happens y e z → Said v y → Said v z
  said_stays v y z e h (promises, proposal) = (
    (λ j at. sent_stays (promise_of w u c j) y z e h (promises j at)),
    sent_stays (message w (unit_at w.division u).name c.member (bodies.Propose c v)) y z e h
        proposal,
  )

  is_said : (v : Value) (first : ℕ) (y : World)
      → IsPolled division weights made u c me asked told v first y → Said v y
  is_said v first y p = (
    (λ j at. subst (WasSent y.sent) (ap (λ d. says d j (bodies.Promise c (option_map pair_of
        (told j)))) same) (p.said j at)),
    subst (WasSent y.sent) (ap (λ d. says d me (bodies.Propose c v)) same) p.polls.is_sent,
  )
    where
      same : y.division ≡ w.division
      same = (its_own division weights made y p.polls.reached).0
          ∙ sym (its_own division weights made w r).0

      says : Division → ℕ → Body Value → Message Value
      says d j body = record {
        sender = j;
        tree = tree_digest d.tree;
        path = (unit_at d u).name;
        body = body;
      }

  -- the node holds the unit, and all this was sent
  abbrev pub Holds : Value → World → Type 0
  Holds v y = HoldsUnit y me u × Said v y

  module _ (enough : MakeMajority weights nobody asked) where
    -- from the point where votes are collected
    votes_lead : (v : Value) (first : ℕ) (y : World)
        → IsPolled division weights made u c me asked told v first y
        → LeadsTo (Holds v) y (votes_from first (count_in v) (first + count_in v) me asked)
    votes_lead v first y p =
        subst (λ n. LeadsTo (Holds v) y (votes_from first (count_in v) n me asked)) p.behind
        (leads_with (Said v) (λ z. HoldsUnit z me u) (said_stays v) y
        (votes_from first (count_in v) (length y.sent) me asked)
        (all_turns division weights made u c v (count_in v) (numbers_in v) p.some first me asked
        nobody y (distinct asked (asked_apart w)) enough p.polls)
        (is_said v first y p))
      where
        distinct : (ks : List ℕ) → Apart ks
            → AreDistinct division weights made u c v (count_in v) (numbers_in v) p.some first me ks
        distinct [] apart = tt
        distinct (k ∷ ks) apart = (apart.0, distinct ks apart.1)

    module _ (path : Text) (named : number_found w.division path ≡ Some u) (given : Given)
        (right : files_refusal s u given (next_build w s u host given) ≡ None) (y : World)
        (t : Asks division weights made u c me at0 told host had (Gathering c nobody None) [] asked
        y) where
      abbrev pub behind : ℕ
      behind = behind_by division weights made u c me at0 told host had (length y.sent) asked

      abbrev pub report : Option (Ballot Value)
      report = report_by division weights made u c me at0 told host had None asked

      abbrev pub build : Value
      build = next_build w s u host given

      abbrev pub asks_them : List Event
      asks_them = asks_by division weights made u c me at0 told host had (length y.sent) asked

      -- the nodes that were asked, when all were
      abbrev pub Waits : World → Type 0
      Waits z = (done : List ℕ)
          × Asks division weights made u c me at0 told host had (Building c) done [] z
          × ((j : ℕ) → Contains asked j → Contains done j) × (length z.sent ≡ behind)

      walk : (Q : World → Type 0) (total : Option (Ballot Value))
          → ((S : Members) (kept : Option (Ballot Value)) (done : List ℕ) (k : ℕ) (z : World)
          → Gathers division weights made u c me at0 told host had S kept done (k ∷ []) z
          → ((j : ℕ) → Contains done j → j ≡ k → ⊥)
          → is_majority weights (with_member S k) ≡ true → kept_report kept (told k) ≡ total
          → length z.sent + count_of division weights made u c me at0 told host had k ≡ behind
          → ((j : ℕ) → Contains asked j → Contains (k ∷ done) j)
          → LeadsTo Q z
          (asks_by division weights made u c me at0 told host had (length z.sent) (k ∷ [])))
          → report ≡ total → LeadsTo Q y asks_them
      walk Q total last is = all_asks division weights made u c me at0 told host had Q asked total
          behind last asked nobody None [] y
          (are_new [] asked (asked_apart w) (λ j at old. absurd (omega (arith, old.1)))) enough t is
          refl (λ j at. inr at)

      -- If no node reported a vote, the Built event follows.
      build_leads : (z : World) → Waits z
          → LeadsTo (Holds build) z (Built me path given
          ∷ votes_from behind (count_in build) (behind + count_in build) me asked)
      build_leads z (done, a, each, end) =
          let dz : z.division ≡ w.division =
          (its_own division weights made z a.reached).0 ∙ sym (its_own division weights made w r).0
          in
          leads_on (IsPolled division weights made u c me asked told
          (build_on z.division u c given host had) (length z.sent)) (Holds build) z
          (Built me path given ∷ [])
          (votes_from behind (count_in build) (behind + count_in build) me asked)
          (is_proposed division weights made u c me at0 told host had done z a path
          (ap (λ d. number_found d path) dz ∙ named) given
          (ap (λ (d : Division). files_refusal (record s { division = d }) u given
          (build_on d u c given host had)) dz ∙ right) refl asked each news)
          (λ q p. votes_lead build behind q
          (subst (λ n. IsPolled division weights made u c me asked told build n q) end
          (subst (λ (d : Division). IsPolled division weights made u c me asked told
          (build_on d u c given host had) (length z.sent) q) dz p)))

      pub by_build : report ≡ None
          → LeadsTo (Holds build) y (asks_them ++ (Built me path given
          ∷ votes_from behind (count_in build) (behind + count_in build) me asked))
      by_build none =
          leads_on Waits (Holds build) y asks_them
          (Built me path given
          ∷ votes_from behind (count_in build) (behind + count_in build) me asked)
          (walk Waits None
          (λ S kept done k z g old big total end each.
          leads_also (λ q. Asks division weights made u c me at0 told host had (Building c)
          (k ∷ done) [] q × (length q.sent
          ≡ length z.sent + count_of division weights made u c me at0 told host had k)) Waits z
          (asks_by division weights made u c me at0 told host had (length z.sent) (k ∷ []))
          (last_waits division weights made u c me at0 told host had S kept done k z g old big
          total)
          (λ q h. (k ∷ done, h.0, each, h.1 ∙ end))) none)
          build_leads

      -- Otherwise the reported build is proposed.
      pub by_report : (b : Ballot Value) → report ≡ Some b
          → LeadsTo (Holds b.value) y (asks_them
          ++ votes_from behind (count_in b.value) (behind + count_in b.value) me asked)
      by_report b is =
          leads_on (IsPolled division weights made u c me asked told b.value behind) (Holds b.value) y asks_them
          (votes_from behind (count_in b.value) (behind + count_in b.value) me asked)
          (walk (IsPolled division weights made u c me asked told b.value behind) (Some b)
          (λ S kept done k z g old big total end each.
          subst (λ n. LeadsTo (IsPolled division weights made u c me asked told b.value n) z
          (asks_by division weights made u c me at0 told host had (length z.sent) (k ∷ []))) end
          (last_proposes division weights made u c me at0 told host had refl asked news b S kept
          done k z g old big total each)) is)
          (votes_lead b.value behind)
