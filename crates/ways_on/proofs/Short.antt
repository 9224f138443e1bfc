-- The length of a way.
use Rattle.std.proofs.Common.{◌≡◌, ◌<◌, ◌≤◌, ◌+◌, ◌*◌, ◌⊎◌, ℕ, zero, suc, true, List, [], ◌∷◌, ◌++◌, length, Option, None, Some, option_map, slice_get, refl, sym, ap, subst, ◌∙◌, arith, inl, inr, ⊎_elim}
use Rattle.std.specs.Prelude.{Contains}
use Rattle.std.specs.List.{range_with_len}
use Rattle.std.proofs.lemmas.Bool.{cases_lt, cond_both}
use Rattle.std.proofs.lemmas.Nat.{mul-le}
use Rattle.std.proofs.lemmas.List.{length-append, length-map}
use Rattle.std.proofs.lemmas.List.FromFn.{length-map-range_with_len, length-range_with_len}
use Rattle.std.proofs.lemmas.List.Sums.{count_by-le-length, length-filter}
use Rattle.claims.specs.AgreedList.{WasBuilt, beginning}
use Rattle.claims.specs.Claims.{claim_below}
use Rattle.claims.specs.Messages as theory
use Rattle.claims.specs.Member.{Facts, Member}
use Rattle.claims.specs.Quorums.{Members, is_majority, nobody, with_member}
use Rattle.claims.specs.Votes.{Ballot, ballot, kept_report}
use Rattle.claims.specs.declared.claim.Claim.{Claim}
use Rattle.claims.proofs.AgreedList.{IsFine}
use Rattle.claims.proofs.Sound.{IsFresh, IsSound}
use Rattle.ballots.specs.declared.message.Body.TheVariants as bodies
use Rattle.ballots.specs.declared.message.Message.{Message}
use Rattle.protocol.specs.Events.{Built, Deliver, Event}
use Rattle.faults.specs.Bytes.{Text}
use Rattle.package_record.specs.Build.{build_text}
use Rattle.protocol.specs.Given.{Given}
use Rattle.protocol.specs.InTheAgreement.{pair_of}
use Rattle.protocol.specs.State.{State, Value, facts_at}
use Rattle.engine.specs.Division.{Division, unit_at}
use Rattle.ways_on.specs.Asked.{next_build}
use Rattle.ways_on.specs.Length.{IsShort, MayTake, pieces_in}
use Rattle.ways_on.specs.Rounds.{last_round, next_claim, seen_at}
use Rattle.ways_on.specs.inside.Listed.{asked_of, asks_from, behind_promises, deliveries, nodes_up, promise_of, promised_in, proposed_by, proposed_in, report_of_all, told_of, until_majority, votes_from, way_of}
use Rattle.ways_on.proofs.NotYet.{no_promise, no_proposal}
use Rattle.ways_on.proofs.Reached.{IsReached, its_acts, its_match, its_own}
use Rattle.ways_on.proofs.Seen.{asked_up, next_above, opened_within, seen_is}
use Rattle.ways_on.proofs.Unsaid.{none_alike}
use Rattle.wire.specs.Pieces.{header_with, numbers_of, piece_at, split_of}
use Rattle.wire.specs.declared.datagram.Carrier.TheVariants as carriers
use Rattle.wire.specs.declared.datagram.Datagram.TheVariants as datagrams
use Rattle.world.specs.Happening.{Leads, is_up}
use Rattle.world.specs.Sent.{WasSent, message}
use Rattle.world.specs.World.{IsMade, World, WorldNode, member_at}
use Rattle.one_list.specs.Mirrored.{after_all_acts}
use Rattle.one_list.specs.Needs.{may_build}
use Rattle.one_list.proofs.sent.MessageHeaders.{in_order}

-- ---- the number of nodes that are asked

until_few : (weights : List ℕ) (S : Members) (ks : List ℕ)
    → length (until_majority weights S ks) ≤ length ks
until_few weights S [] = omega arith
until_few weights S (k ∷ ks) =
    cond_both (is_majority weights (with_member S k)) []
    (until_majority weights (with_member S k) ks) (λ ys. suc (length ys) ≤ suc (length ks))
    (λ on. omega arith)
    (λ off. let few = until_few weights (with_member S k) ks in omega (arith, few))

pub asked_few : (w : World) → length (asked_of w) ≤ length w.nodes
asked_few w =
    let few = until_few w.weights nobody (nodes_up w) in
    let kept = length-filter (is_up w) (range_with_len 0 (length w.nodes)) in
    let most = count_by-le-length (is_up w) (range_with_len 0 (length w.nodes)) in
    let all = length-range_with_len 0 (length w.nodes) in
    omega (arith, few, kept, most, all)

-- ---- the longest message

-- The greatest of f's values and one more number, with the element that attains it.
pub record IsGreatest (f : ℕ → ℕ) (ks : List ℕ) (base m : ℕ) : Type 0 where
  pub above : base ≤ m
  pub each : (k : ℕ) → Contains ks k → f k ≤ m
  pub whose : (m ≡ base) ⊎ ((k : ℕ) × Contains ks k × (m ≡ f k))

pub greatest : (f : ℕ → ℕ) (ks : List ℕ) (base : ℕ) → (m : ℕ) × IsGreatest f ks base m
greatest f [] base = (
  base,
  record {
    above = omega arith;
    each = λ k at. absurd (omega (arith, at.1));
    whose = inl refl;
  },
)
greatest f (k ∷ ks) base =
    let rest = greatest f ks base in
    ⊎_elim
    (λ less. (
      f k,
      record {
        above = let a = (rest.1).above in omega (arith, a, less);
        each = λ j at. among j at (f k) (omega arith)
            (λ h. let e = (rest.1).each j h in omega (arith, e, less));
        whose = inr (k, (zero, omega arith, refl), refl);
      },
    ))
    (λ enough. (
      rest.0,
      record {
        above = (rest.1).above;
        each = λ j at. among j at rest.0 enough (λ h. (rest.1).each j h);
        whose = ⊎_elim (λ e. inl e)
            (λ h. inr (h.0, (suc h.1.0, omega (arith, h.1.1), h.1.2), h.2)) (rest.1).whose;
      },
    ))
    (cases_lt rest.0 (f k))
  where
    among : (j : ℕ) → Contains (k ∷ ks) j → (m : ℕ) → f k ≤ m → (Contains ks j → f j ≤ m)
        → f j ≤ m
    among j (zero, lt, e) m first others =
        let same : f k ≡ f j = ap f e in omega (arith, same, first)
    among j (suc i, lt, e) m first others = others (i, omega (arith, lt), e)

-- ---- sums

module _ (w : World) (u : ℕ) (c : Claim) where
  delivered : (first count k : ℕ) → length (deliveries first count k) ≡ count
  delivered first count k = length-map-range_with_len (λ d. Deliver d k) first count

  asks_few : (offer next most : ℕ) (ks : List ℕ)
      → ((k : ℕ) → Contains ks k → promised_in w u c k ≤ most)
      → length (asks_from w u c offer next ks) ≤ length ks + length ks * most
  asks_few offer next most [] each = omega arith
  asks_few offer next most (k ∷ ks) each =
      let n = promised_in w u c k in
      let here = each k (zero, omega arith, refl) in
      let rest = asks_few offer (next + n) most ks
      (λ j at. each j (suc at.0, omega (arith, at.1), at.2)) in
      let both = length-append (deliveries next n c.member) (asks_from w u c offer (next + n) ks) in
      let first = delivered next n c.member in
      let product : suc (length ks) * most ≡ most + length ks * most = grind arith in
      omega (arith, here, rest, both, first, product)

  votes_few : (first count next me : ℕ) (ks : List ℕ)
      → length (votes_from first count next me ks) ≡ length ks + length ks * count
  votes_few first count next me [] = omega arith
  votes_few first count next me (k ∷ ks) =
      let rest = votes_few first count (suc next) me ks in
      let both = length-append (deliveries first count k)
      (Deliver next me ∷ votes_from first count (suc next) me ks) in
      let one = delivered first count k in
      let product : suc (length ks) * count ≡ count + length ks * count = grind arith in
      omega (arith, rest, both, one, product)

told_few : (report : Option (Ballot Value)) (e : Event) → length (told_of report e) ≤ 1
told_few None e = omega arith
told_few (Some b) e = omega arith

-- ---- what is reported

reported_by : (w : World) (u : ℕ) (kept : Option (Ballot Value)) (ks : List ℕ) (b : Ballot Value)
    → report_of_all w u kept ks ≡ Some b
    → (kept ≡ Some b) ⊎ ((j : ℕ) × ((seen_at w u j).voted ≡ Some b))
reported_by w u kept [] b e = inl e
reported_by w u kept (k ∷ ks) b e =
    ⊎_elim
    (λ now. ⊎_elim (λ before. inl before) (λ its. inr (k, its))
    (one_of kept (seen_at w u k).voted now))
    (λ later. inr later)
    (reported_by w u (kept_report kept (seen_at w u k).voted) ks b e)
  where
    one_of : (p q : Option (Ballot Value)) → kept_report p q ≡ Some b
        → (p ≡ Some b) ⊎ (q ≡ Some b)
    one_of p None e = inl e
    one_of None (Some y) e = inr e
    one_of (Some x) (Some y) e =
        cond_both (claim_below x.claim y.claim) (Some y) (Some x)
        (λ o. o ≡ Some b → (Some x ≡ Some b) ⊎ (Some y ≡ Some b))
        (λ on g. inr g) (λ off g. inl g) e

-- ---- the whole

-- the number of datagrams of a proposal is that of its build
proposed_is : (w : World) (u : ℕ) (c : Claim) (v : Value) → proposed_in w u c v ≡ pieces_in v
proposed_is w u c v =
    length-map (numbers_of (length (build_text v))) (λ k. datagrams.Piece (piece_at (header_with
    (message w (unit_at w.division u).name c.member (bodies.Propose c v)) (carriers.Propose c) v)
    (build_text v) k))

module _ (w : World) (s : State) (u host : ℕ) (given : Given) (c : Claim) where
  -- a promise has one datagram, or as many as the vote that it reports
  promise_takes : (k : ℕ) → MayTake w s u host given (promised_in w u c k)
  promise_takes k = by (seen_at w u k).voted refl
    where
      size : Option (Ballot Value) → ℕ
      size o = length (split_of (message w (unit_at w.division u).name k
          (bodies.Promise c (option_map pair_of o))))

      by : (o : Option (Ballot Value)) → (seen_at w u k).voted ≡ o
          → MayTake w s u host given (promised_in w u c k)
      by None e = inl (ap size e)
      by (Some b) e = inr (
        b.value,
        inr (k, b, e, refl),
        ap size e ∙ length-map (numbers_of (length (build_text b.value))) (λ j. datagrams.Piece
            (piece_at (header_with (message w (unit_at w.division u).name k
            (bodies.Promise c (Some (pair_of b)))) (carriers.Promise c b.claim) b.value)
            (build_text b.value) j)),
      )

  -- the proposal has as many datagrams as the build that is made, or that was reported
  proposal_takes : (report : Option (Ballot Value)) (ks : List ℕ)
      → report_of_all w u None ks ≡ report
      → MayTake w s u host given
      (proposed_in w u c (proposed_by report (next_build w s u host given)))
  proposal_takes None ks e = inr (
    next_build w s u host given,
    inl refl,
    proposed_is w u c (next_build w s u host given),
  )
  proposal_takes (Some b) ks e = inr (
    b.value,
    ⊎_elim (λ no. absurd cc) (λ h. inr (h.0, b, h.1, refl)) (reported_by w u None ks b e),
    proposed_is w u c b.value,
  )

module _ (division : Division) (weights : List ℕ) (made : IsMade division weights) (w : World)
    (r : IsReached division weights made w) (me : ℕ) (x : WorldNode)
    (stands : slice_get w.nodes me ≡ Some x) (up : x.up ≡ true) (u : ℕ)
    (within : u < length w.division.units) where
  abbrev c : Claim
  c = next_claim w u me

  -- nothing was proposed yet under the next claim
  fresh : IsFresh ((after_all_acts division weights (its_acts division weights made w r)).at
      u).sent c
  fresh v h =
      let acts = its_acts division weights made w r in
      let m = its_match division weights made w r in
      let sound : IsSound Value (is_majority weights) (IsFine (may_build division)
      (WasBuilt (is_majority weights) (may_build division) acts beginning)
      (after_all_acts division weights acts).list u) ((after_all_acts division weights acts).at u) =
      (in_order division weights acts w made (its_own division weights made w r) m).sound u in
      let opened : c.round ≤ (facts_at (member_at w me x) u).opened =
      subst (λ (y : Member Value). c.round ≤ y.opened) (m.members me u x stands within)
      (sound.said (theory.Propose (ballot c v)) h).1 in
      let last : (facts_at (member_at w me x) u).opened ≤ last_round w u me =
      subst (λ (f : Facts Value). f.opened ≤ last_round w u me) (seen_is w u me x stands up)
      (opened_within w u me) in
      omega (arith, opened, last)

  abbrev proposal : Value → Message Value
  proposal v = message w (unit_at w.division u).name me (bodies.Propose c v)

  new_proposal : (v : Value) → WasSent w.sent (proposal v) → ⊥
  new_proposal v h =
      let acts = its_acts division weights made w r in
      let own = its_own division weights made w r in
      let m = its_match division weights made w r in
      none_alike division weights acts w made own m (proposal v) h.is_message u within refl
      (no_proposal division weights acts w made own m u within me x stands c v fresh) (proposal v) h
      refl refl (inl refl)

  new_promise : (k : ℕ) → Contains (asked_of w) k → WasSent w.sent (promise_of w u c k) → ⊥
  new_promise k at h =
      let acts = its_acts division weights made w r in
      let own = its_own division weights made w r in
      let m = its_match division weights made w r in
      let n = asked_up w k at in
      none_alike division weights acts w made own m (promise_of w u c k) h.is_message u within refl
      (no_promise division weights acts w made own m u within k n.0 n.1 c
      (option_map pair_of (seen_at w u k).voted) (next_above w u me k n.0 n.1 n.2))
      (promise_of w u c k) h refl refl (inl refl)

  module _ (path : Text) (host : ℕ) (given : Given) where
    abbrev s : State
    s = member_at w me x

    abbrev report : Option (Ballot Value)
    report = report_of_all w u None (asked_of w)

    abbrev build : Value
    build = proposed_by report (next_build w s u host given)

    -- Everything that is said on the way was sent.
    pub record WereSent (y : World) : Type 0 where
      pub promises : (k : ℕ) → Contains (asked_of w) k → WasSent y.sent (promise_of w u c k)
      pub proposed : WasSent y.sent (proposal build)

    pub is_short : ((v : World) → Leads w (way_of w s u path host given) v → WereSent v)
        → IsShort w s u host given (way_of w s u path host given)
    is_short sent =
        let g = greatest (promised_in w u c) (asked_of w) (proposed_in w u c build) in
        let few = asked_few w in
        let asks = asks_few w u c (length w.sent) (suc (length w.sent)) g.0 (asked_of w) (g.1).each
        in
        let first = behind_promises w u c (suc (length w.sent)) (asked_of w) in
        let count = proposed_in w u c build in
        let votes = votes_few w u c first count (first + count) me (asked_of w) in
        let told = told_few report (Built me path given) in
        let asks_them = asks_from w u c (length w.sent) (suc (length w.sent)) (asked_of w) in
        let told_them = told_of report (Built me path given) in
        let both = length-append (asks_them ++ told_them)
        (votes_from first count (first + count) me (asked_of w)) in
        let early = length-append asks_them told_them in
        let more = mul-le (length (asked_of w)) count (length (asked_of w)) g.0 (omega arith)
        (g.1).above in
        let all = mul-le (length (asked_of w)) g.0 (length w.nodes) g.0 few (omega arith) in
        record {
          most = g.0;
          few = omega (arith, few, asks, votes, told, both, early, more, all);
          sent = λ v led. ⊎_elim
              (λ e. record {
                message = proposal build;
                then = (sent v led).proposed;
                before = new_proposal build;
                datagrams = sym e;
              })
              (λ h. record {
                message = promise_of w u c h.0;
                then = (sent v led).promises h.0 h.1;
                before = new_promise h.0 h.1;
                datagrams = sym h.2;
              })
              (g.1).whose;
          may_take = ⊎_elim
              (λ e. subst (MayTake w s u host given) (sym e)
              (proposal_takes w s u host given c report (asked_of w) refl))
              (λ h. subst (MayTake w s u host given) (sym h.2)
              (promise_takes w s u host given c h.0))
              (g.1).whose;
        }
