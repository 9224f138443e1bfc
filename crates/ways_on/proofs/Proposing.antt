-- A proposal to all is appended to what was sent, and votes for it can be collected.
use Rattle.std.proofs.Common.{◌≡◌, ◌≢◌, ◌<◌, ◌+◌, ℕ, true, List, [], ◌∷◌, ◌++◌, length, map, Option, Some, option_map, slice_get, slice_set, refl, sym, ap, ap₂, subst, ◌∙◌, arith, append-nil, ⊎_elim}
use Rattle.std.specs.Prelude.{All, AllPairs, Contains}
use Rattle.std.specs.List.{range_with_len}
use Rattle.std.proofs.lemmas.Bool.{cases_eq}
use Rattle.std.proofs.lemmas.List.{length-append}
use Rattle.std.proofs.lemmas.List.Elements.{Contains-append_right}
use Rattle.std.proofs.lemmas.List.FromFn.{length-map-range_with_len, length-range_with_len}
use Rattle.claims.specs.Member.{Voting}
use Rattle.claims.specs.Quorums.{nobody}
use Rattle.claims.specs.Votes.{Ballot, Reaches, ballot}
use Rattle.claims.specs.declared.claim.Claim.{Claim}
use Rattle.claims.proofs.Sound.{IsFresh}
use Rattle.ballots.specs.declared.message.Body.TheVariants as bodies
use Rattle.ballots.specs.declared.message.Message.{Message}
use Rattle.faults.specs.Bytes.{Text, is_among}
use Rattle.node.specs.Parcels.{datagrams_of}
use Rattle.package_record.specs.Build.{build_text}
use Rattle.protocol.specs.Answers.{tree_digest}
use Rattle.protocol.specs.InTheAgreement.{pair_of}
use Rattle.protocol.specs.Sends.{sent_to}
use Rattle.protocol.specs.State.{Value}
use Rattle.protocol.specs.declared.sends.Send.{Send}
use Rattle.engine.specs.Division.{Division, unit_at}
use Rattle.ways_on.proofs.Adding.{datagrams_differ}
use Rattle.ways_on.proofs.Appending.{sends_add}
use Rattle.ways_on.proofs.Asked.{IsAsked}
use Rattle.ways_on.proofs.Coming.{get_behind, get_made, map_twice}
use Rattle.ways_on.proofs.Deciding.{put_elsewhere, some_same, stage_here}
use Rattle.ways_on.proofs.NotYet.{no_proposal}
use Rattle.ways_on.proofs.Pieces.{put_there}
use Rattle.ways_on.proofs.Polling.{IsPending, Polls, proposal_in}
use Rattle.ways_on.proofs.Reached.{IsReached, its_acts, its_local, its_match, its_own}
use Rattle.ways_on.proofs.Unsaid.{IsUnsaid, unkept, unsent}
use Rattle.wire.specs.Messages.{IsMessage}
use Rattle.wire.specs.Pieces.{header_with, numbers_of, piece_at}
use Rattle.wire.specs.Spelling.{datagram_text}
use Rattle.wire.specs.declared.datagram.Carrier.TheVariants as carriers
use Rattle.wire.specs.declared.datagram.Datagram.TheVariants as datagrams
use Rattle.wire.specs.declared.datagram.Piece.{Piece}
use Rattle.wire.proofs.Cutting.{header_good}
use Rattle.wire.proofs.PieceNumbers.{all_numbers}
use Rattle.world.specs.Sent.{WasSent, message, with_sends}
use Rattle.world.specs.World.{IsMade, World, WorldNode}
use Rattle.world.proofs.SentAdditions.{is_found}
use Rattle.one_list.specs.Matches.{name_of}
use Rattle.one_list.specs.Mirrored.{after_all_acts}
use Rattle.one_list.proofs.nodes.NodesAsMembers.{get_within}
use Rattle.one_list.proofs.sent.SentMessages.{has_preimage}
use Rattle.one_list.proofs.matching.SpokenMessages.{passes}

-- A message with at least one receiver, none of whose datagrams was sent, appends exactly its
-- datagrams.
pub spread : (sent : List Text) (m : Message Value) (to : List ℕ) → 0 < length to
    → AllPairs ◌≢◌ (datagrams_of m)
    → ((t : Text) → Contains (datagrams_of m) t → Contains sent t → ⊥)
    → with_sends sent (sent_to (Some m) to) ≡ sent ++ datagrams_of m
spread sent m [] some once new = absurd (omega (arith, some))
spread sent m (k ∷ ks) some once new =
    sends_add sent m (record { to = k; message = m })
    (map (λ j. record { to = j; message = m }) ks)
    (λ y h. let p = has_preimage (λ j. goes_to j) (k ∷ ks) y h in
    ap (λ (z : Send). z.message) p.2) once new
  where
    goes_to : ℕ → Send
    goes_to j = record { to = j; message = m }

-- what has a receiver can be encoded
pub of_first : (m : Message Value) (to : List ℕ) → 0 < length to
    → All (λ (z : Send). IsMessage z.message) (sent_to (Some m) to) → IsMessage m
of_first m [] some all = absurd (omega (arith, some))
of_first m (k ∷ ks) some all = all 0 (record { to = k; message = m }) (omega arith)

-- the number of datagrams of a build
abbrev pub count_in : Value → ℕ
count_in v = (all_numbers (length (build_text v))).0

pub numbers_in : (v : Value)
    → numbers_of (length (build_text v)) ≡ range_with_len 0 (count_in v)
numbers_in v = ((all_numbers (length (build_text v))).1).same

-- the datagrams of a proposal
pub proposal_texts : (m : Message Value) (c : Claim) (v : Value) → m.body ≡ bodies.Propose c v
    → datagrams_of m
    ≡ map (λ j. datagram_text (datagrams.Piece
    (piece_at (header_with m (carriers.Propose c) v) (build_text v) j)))
    (range_with_len 0 (count_in v))
proposal_texts m c v is =
    ap (λ b. datagrams_of (record m { body = b })) is
    ∙ ap (λ l. map datagram_text (map (λ j. datagrams.Piece
    (piece_at (header_with m (carriers.Propose c) v) (build_text v) j)) l)) (numbers_in v)
    ∙ map_twice (λ j. datagrams.Piece
    (piece_at (header_with m (carriers.Propose c) v) (build_text v) j)) datagram_text
    (range_with_len 0 (count_in v))

module _ (division : Division) (weights : List ℕ) (made : IsMade division weights)
    (u : ℕ) (c : Claim) (me : ℕ) (all : List ℕ) (told : ℕ → Option (Ballot Value)) where
  -- The proposal of this build was sent, from this datagram on, and no node has voted yet. All
  -- nodes that were asked and promised are to vote.
  pub record IsPolled (v : Value) (first : ℕ) (y : World) : Type 0 where
    pub some : 0 < count_in v
    pub polls : Polls division weights made u c v (count_in v) (numbers_in v) some first me nobody
        all y
    pub behind : length y.sent ≡ first + count_in v
    pub said : (j : ℕ) → Contains all j → WasSent y.sent (message y (name_of y u) j
        (bodies.Promise c (option_map pair_of (told j))))

module _ (division : Division) (weights : List ℕ) (made : IsMade division weights) (w : World)
    (r : IsReached division weights made w) (me : ℕ) (x : WorldNode)
    (stands : slice_get w.nodes me ≡ Some x)
    (u : ℕ) (within : u < length w.division.units) (c : Claim) (v : Value)
    (fresh : IsFresh ((after_all_acts division weights (its_acts division weights made w r)).at
    u).sent c)
    (sends : List Send)
    (sends_are : sends ≡ sent_to (Some (message w (name_of w u) me (bodies.Propose c v)))
    (range_with_len 0 (length w.weights)))
    (written : All (λ (z : Send). IsMessage z.message) sends)
    (y : World) (sent : y.sent ≡ with_sends w.sent sends) where
  -- the proposal
  abbrev pub proposal : Message Value
  proposal = message w (name_of w u) me (bodies.Propose c v)

  everyone_some : 0 < length (range_with_len 0 (length w.weights))
  everyone_some =
      let lt = get_within w.nodes me x stands in
      let one = (its_local division weights made w r).one_for_each in
      omega (arith, lt, one, length-range_with_len 0 (length w.weights))

  good : IsMessage proposal
  good = of_first proposal (range_with_len 0 (length w.weights)) everyone_some
      (subst (All (λ (z : Send). IsMessage z.message)) sends_are written)

  unsaid_so : IsUnsaid division weights (its_acts division weights made w r) w made
      (its_own division weights made w r) (its_match division weights made w r) u me
      (bodies.Propose c v)
  unsaid_so = no_proposal division weights (its_acts division weights made w r) w made
      (its_own division weights made w r) (its_match division weights made w r) u within me x
      stands c v fresh

  -- It is appended to what was sent.
  pub proposal_sent : y.sent ≡ w.sent ++ datagrams_of proposal
  proposal_sent =
      sent ∙ ap (with_sends w.sent) sends_are
      ∙ spread w.sent proposal (range_with_len 0 (length w.weights)) everyone_some
      (datagrams_differ proposal good)
      (unsent division weights (its_acts division weights made w r) w made
      (its_own division weights made w r) (its_match division weights made w r) proposal good u
      within refl unsaid_so)

  was_sent : WasSent y.sent proposal
  was_sent = record {
    is_message = good;
    went_out = passes (is_among y.sent) (datagrams_of proposal)
        (λ t at. is_found y.sent t (subst (λ l. Contains l t) (sym proposal_sent)
        (Contains-append_right w.sent (datagrams_of proposal) t at)));
  }

  -- No node kept a piece of it.
  none_kept : (k : ℕ) (z : WorldNode) → slice_get w.nodes k ≡ Some z → (p : Piece)
      → Contains z.pieces p → p.header ≡ header_with proposal (carriers.Propose c) v → ⊥
  none_kept k z at p there e =
      unkept division weights (its_acts division weights made w r) w made
      (its_own division weights made w r) (its_match division weights made w r) proposal good u
      within refl unsaid_so (carriers.Propose c) v refl z.pieces
      ((its_local division weights made w r).each k z at).pieces p there e

  -- the text of each of its datagrams
  abbrev piece : ℕ → Text
  piece j = datagram_text (datagrams.Piece
      (piece_at (header_with proposal (carriers.Propose c) v) (build_text v) j))

  texts : datagrams_of proposal ≡ map piece (range_with_len 0 (count_in v))
  texts = proposal_texts proposal c v refl

  pub goes_out : 0 < count_in v
  goes_out =
      let head = header_good proposal (carriers.Propose c) v good refl in
      let enough = ((all_numbers (length (build_text v))).1).enough head.fits in
      omega (arith, head.some, enough)

  pub sent_then : length y.sent ≡ length w.sent + count_in v
  sent_then = ap length proposal_sent ∙ length-append w.sent (datagrams_of proposal)
      ∙ ap (λ n. length w.sent + n)
      (ap length texts ∙ length-map-range_with_len piece 0 (count_in v))

  piece_there : (j : ℕ) → j < count_in v → slice_get y.sent (length w.sent + j) ≡ Some (piece j)
  piece_there j lt =
      ap (λ l. slice_get l (length w.sent + j))
      (proposal_sent ∙ ap (λ t. w.sent ++ t)
      (texts ∙ sym (append-nil (map piece (range_with_len 0 (count_in v))))))
      ∙ get_behind w.sent (map piece (range_with_len 0 (count_in v)) ++ []) j
      ∙ get_made piece [] 0 (count_in v) j lt
      ∙ ap (λ i. Some (piece i)) (let z : 0 + j ≡ j = omega arith in z)

  module _ (own : c.member ≡ me) (weigh : w.weights ≡ weights)
      (reached : IsReached division weights made y) (division_is : y.division ≡ w.division)
      (weights_are : y.weights ≡ w.weights) (z : WorldNode)
      (nodes_are : y.nodes ≡ slice_set w.nodes me z) (on : z.up ≡ true)
      (pieces : z.pieces ≡ x.pieces) (far : stage_here z u ≡ Voting (ballot c v) nobody)
      (all : List ℕ) (at0 : ℕ) (told : ℕ → Option (Ballot Value)) (host : ℕ)
      (had : ℕ → Option Value)
      (asked : (j : ℕ) → Contains all j
      → IsAsked u c told y j)
      (news : (j : ℕ) → Contains all j → Reaches (told j) c → ⊥) where
    same : proposal_in division weights made u c v (count_in v) (numbers_in v) goes_out
        (length w.sent) me y ≡ proposal
    same = ap₂ (λ (d : Division) (m : ℕ). record {
      sender = m;
      tree = tree_digest d.tree;
      path = (unit_at d u).name;
      body = bodies.Propose c v;
    }) division_is own

    stands_then : slice_get y.nodes me ≡ Some z
    stands_then = ap (λ l. slice_get l me) nodes_are ∙ put_there w.nodes me x z stands

    none_then : (j : ℕ) (n : WorldNode) → slice_get y.nodes j ≡ Some n → (p : Piece)
        → Contains n.pieces p → p.header ≡ header_with proposal (carriers.Propose c) v → ⊥
    none_then j n at p there e = ⊎_elim
        (λ is.
        let one : n ≡ z = some_same n z (sym at ∙ ap (slice_get y.nodes) is ∙ stands_then) in
        none_kept me x stands p
        (subst (λ l. Contains l p) (ap (λ (m : WorldNode). m.pieces) one ∙ pieces) there) e)
        (λ other. none_kept j n
        (sym (ap (λ l. slice_get l j) nodes_are ∙ put_elsewhere w.nodes me j z other) ∙ at) p there
        e)
        (cases_eq j me)

    pending : (j : ℕ) → Contains all j
        → IsPending division weights made u c v (count_in v) (numbers_in v) goes_out
        (length w.sent) me y j
    pending j at =
        let a = asked j at in record {
          node = a.node;
          stands = a.stands;
          on = a.on;
          promised = a.promised;
          below = λ e. news j at (subst (λ o. Reaches o c) a.voted e);
          none = λ p there e. none_then j a.node a.stands p there
              (e ∙ ap (λ m. header_with m (carriers.Propose c) v) same);
        }

    -- So votes can be collected.
    pub is_polled : IsPolled division weights made u c me all told v (length w.sent) y
    is_polled = record {
      some = goes_out;
      polls = record {
        reached = reached;
        within = subst (λ (d : Division). u < length d.units) (sym division_is) within;
        weigh = weights_are ∙ weigh;
        is_sent = subst (WasSent y.sent) (sym same) was_sent;
        there = λ j lt. piece_there j lt
            ∙ ap (λ m. Some (datagram_text (datagrams.Piece
            (piece_at (header_with m (carriers.Propose c) v) (build_text v) j)))) (sym same);
        node = z;
        stands = stands_then;
        on = on;
        far = far;
        each = pending;
      };
      behind = sent_then;
      said = λ j at. (asked j at).said;
    }
