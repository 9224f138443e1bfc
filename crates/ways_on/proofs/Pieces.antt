-- A message that was sent is received once all its datagrams arrived, unless the log is full.
use Rattle.std.proofs.Common.{◌≡◌, ◌<◌, ◌≤◌, ◌+◌, ◌&&◌, ℕ, zero, suc, true, false, cond, List, [], ◌∷◌, ◌++◌, length, map, Some, Ok, slice_get, slice_set, refl, sym, ap, ap₂, subst, ◌∙◌, arith, append_assoc}
use Rattle.std.specs.Prelude.{All, Contains}
use Rattle.std.specs.List.{list_all, range_with_len}
use Rattle.std.proofs.lemmas.Bool.{cond-false, cond-true}
use Rattle.std.proofs.lemmas.List.{append-nil}
use Rattle.std.proofs.lemmas.List.Folds.{list_all_at}
use Rattle.std.proofs.lemmas.List.FromFn.{get_or-map-range_with_len, length-map-range_with_len, length-range_with_len, map-range_with_len_more}
use Rattle.ballots.specs.declared.message.Message.{Message}
use Rattle.faults.specs.Bytes.{Text}
use Rattle.node.specs.Arrival.{Waits, Whole, arrival_of, arrival_of_all, arrival_of_new, arrival_of_piece}
use Rattle.node.specs.Kept.{are_all, has_number, with_piece, without}
use Rattle.node.specs.Step.{Taken, after, nothing, step_on}
use Rattle.package_record.specs.Build.{build_text}
use Rattle.package_record.proofs.BuildsRead.{build_is_read}
use Rattle.protocol.specs.State.{Value}
use Rattle.engine.specs.Division.{Division}
use Rattle.ways_on.specs.Ways.{LeadsTo}
use Rattle.ways_on.specs.inside.Listed.{deliveries}
use Rattle.ways_on.proofs.Going.{leads_also}
use Rattle.ways_on.proofs.Hearing.{HeardBy, comes_on, heard_then, pieces_stay, their}
use Rattle.ways_on.proofs.Reached.{IsReached, its_acts, its_match, its_own}
use Rattle.ways_on.proofs.Whole.{has, lacks, left, once, with_first}
use Rattle.wire.specs.Joining.{AreAllThere, StandsOnce, bytes_of}
use Rattle.wire.specs.Messages.{IsMessage}
use Rattle.wire.specs.Pieces.{IsDatagram, carried_in, header_with, numbers_of, piece_at, split_by, split_of}
use Rattle.wire.specs.Reading.{datagram_of, joined}
use Rattle.wire.specs.Spelling.{datagram_text}
use Rattle.wire.specs.declared.datagram.Carrier.{Carrier}
use Rattle.wire.specs.declared.datagram.Datagram.TheVariants as datagrams
use Rattle.wire.specs.declared.datagram.Header.{Header}
use Rattle.wire.specs.declared.datagram.Piece.{Piece}
use Rattle.wire.proofs.Cutting.{pieces_join_in_any_order, split_good}
use Rattle.wire.proofs.DatagramTexts.{datagram_again}
use Rattle.wire.proofs.PieceNumbers.{all_first, at_place}
use Rattle.world.specs.Happening.{stepped}
use Rattle.world.specs.Sent.{WasSent}
use Rattle.world.specs.World.{IsMade, World, WorldNode, member_at, node_at, up_node}
use Rattle.protocol.specs.Step as members
use Rattle.one_list.proofs.sent.ArrivedMessages.{read_as}
use Rattle.one_list.proofs.sent.NothingForeign.{get_contains, piece_welcome}

-- replacing an element twice
put_again : {X : Type 0} (xs : List X) (k : ℕ) (x y : X)
    → slice_set (slice_set xs k x) k y ≡ slice_set xs k y
put_again [] k x y = refl
put_again (z ∷ zs) zero x y = refl
put_again (z ∷ zs) (suc k) x y = ap (λ l. z ∷ l) (put_again zs k x y)

-- the replaced element
pub put_there : {X : Type 0} (xs : List X) (k : ℕ) (x y : X) → slice_get xs k ≡ Some x
    → slice_get (slice_set xs k y) k ≡ Some y
put_there [] k x y e = absurd cc
put_there (z ∷ zs) zero x y e = refl
put_there (z ∷ zs) (suc k) x y e = put_there zs k x y e

module _ (division : Division) (weights : List ℕ) (made : IsMade division weights)
    (n : Message Value) (c : Carrier) (v : Value) (carried : carried_in n.body ≡ Some (c, v))
    (count : ℕ) (numbers : numbers_of (length (build_text v)) ≡ range_with_len 0 count)
    (old : List Piece)
    (none : (p : Piece) → Contains old p → p.header ≡ header_with n c v → ⊥) (k : ℕ) where
  abbrev h : Header
  h = header_with n c v

  abbrev text : Text
  text = build_text v

  -- the first i pieces
  abbrev now : ℕ → List Piece
  now i = with_first h text old none i

  -- one more piece
  one_more : (i : ℕ) → with_piece (now i) (piece_at h text i) ≡ now (suc i)
  one_more i =
      append_assoc old (map (piece_at h text) (range_with_len 0 i)) (piece_at h text i ∷ [])
      ∙ ap (λ l. old ++ l) (sym (map-range_with_len_more (piece_at h text) 0 i i (omega arith)))
      ∙ ap (λ j. now j) (let e : i + 1 ≡ suc i = omega arith in e)

  -- all pieces are there after `count` of them, and not before
  not_all : (i : ℕ) → suc i < count → are_all h (now (suc i)) ≡ false
  not_all i lt =
      ap (list_all (has_number h (now (suc i)))) numbers
      ∙ list_all_at (has_number h (now (suc i))) (range_with_len 0 count) (suc i) 0
      (omega (arith, lt, length-range_with_len 0 count))
      (ap (has_number h (now (suc i))) (at_place count (suc i) 0 lt)
      ∙ lacks h text old none (suc i) (suc i) (omega arith))

  all_there : are_all h (now count) ≡ true
  all_there = ap (list_all (has_number h (now count))) numbers ∙ each 0 count (omega arith)
    where
      each : (a m : ℕ) → a + m ≤ count → list_all (has_number h (now count)) (range_with_len a m)
          ≡ true
      each a zero le = refl
      each a (suc m) le =
          ap (λ b. b && list_all (has_number h (now count)) (range_with_len (a + 1) m))
          (has h text old none count a (omega (arith, le)))
          ∙ each (a + 1) m (omega (arith, le))

  module _ (good : IsMessage n) where
    -- they join to the message
    once_each : AreAllThere h text (now count)
    once_each = subst (All (λ j. StandsOnce (now count) (piece_at h text j))) (sym numbers)
        (all_first (λ j. StandsOnce (now count) (piece_at h text j)) count
        (λ j lt. once h text old none count j lt))

    join : joined h (bytes_of h (now count)) ≡ Ok n
    join = pieces_join_in_any_order build_is_read n c v (now count) good carried once_each

    -- after a piece that is not the last, its message still waits
    waits : (i : ℕ) → suc i < count
        → arrival_of_new (now i) (piece_at h text i) ≡ Waits (now (suc i))
    waits i lt =
        ap (λ all. cond (are_all h all)
        (arrival_of_all (without h (now i)) (joined h (bytes_of h all))) (Waits all)) (one_more i)
        ∙ cond-false (are_all h (now (suc i)))
        (arrival_of_all (without h (now i)) (joined h (bytes_of h (now (suc i)))))
        (Waits (now (suc i))) (not_all i lt)

    -- the last piece completes the message
    is_whole : (i : ℕ) → suc i ≡ count
        → arrival_of_new (now i) (piece_at h text i) ≡ Whole n old
    is_whole i e =
        ap (λ all. cond (are_all h all)
        (arrival_of_all (without h (now i)) (joined h (bytes_of h all))) (Waits all))
        (one_more i ∙ ap now e)
        ∙ cond-true (are_all h (now count))
        (arrival_of_all (without h (now i)) (joined h (bytes_of h (now count))))
        (Waits (now count)) all_there
        ∙ ap₂ arrival_of_all (left h text old none i) join

    -- the message's pieces, by number
    pieces_are : split_of n
        ≡ map (λ j. datagrams.Piece (piece_at h text j)) (range_with_len 0 count)
    pieces_are = ap (split_by n) carried
        ∙ ap (map (λ j. datagrams.Piece (piece_at h text j))) numbers

    good_piece : (i : ℕ) → i < count → IsDatagram (datagrams.Piece (piece_at h text i))
    good_piece i lt =
        let d = datagrams.Piece (piece_at h text i) in
        subst IsDatagram (get_or-map-range_with_len (λ j. datagrams.Piece (piece_at h text j)) 0
        count i i d lt (omega arith))
        (subst (All IsDatagram) pieces_are (split_good n good) i d
        (omega (
          arith,
          lt,
          length-map-range_with_len
              (λ j. datagrams.Piece (piece_at h text j)) 0 count,
        )))

    -- what arrives at a node that keeps the earlier pieces
    module _ (w : World) (r : IsReached division weights made w) (x : WorldNode) where
      arrives : (i : ℕ) → i < count → Contains w.sent (datagram_text
          (datagrams.Piece (piece_at h text i)))
          → arrival_of (member_at w k x) (now i)
          (datagram_of (datagram_text (datagrams.Piece (piece_at h text i))))
          ≡ arrival_of_new (now i) (piece_at h text i)
      arrives i lt there =
          let again = datagram_again (datagrams.Piece (piece_at h text i)) (good_piece i lt) in
          let came = read_as division weights (its_acts division weights made w r) w made
          (its_own division weights made w r) (its_match division weights made w r) build_is_read
          (datagram_text (datagrams.Piece (piece_at h text i)))
          (datagrams.Piece (piece_at h text i)) again there in
          ap (arrival_of (member_at w k x) (now i)) again
          ∙ ap (arrival_of_piece (now i) (piece_at h text i))
          (piece_welcome division weights (its_acts division weights made w r) w made
          (its_own division weights made w r) (its_match division weights made w r) build_is_read
          k x (piece_at h text i) came)
          ∙ cond-false (has_number h (now i) i) (Waits (now i))
          (arrival_of_new (now i) (piece_at h text i))
          (lacks h text old none i i (omega arith))

    -- From the piece with this number on, the message is received when the last piece arrives.
    parts_heard : (first m i : ℕ) → i + suc m ≡ count → (w : World)
        (r : IsReached division weights made w) (x : WorldNode)
        (stands : slice_get w.nodes k ≡ Some x) (up : x.up ≡ true) → WasSent w.sent n
        → ((j : ℕ) → j < count → slice_get w.sent (first + j)
        ≡ Some (datagram_text (datagrams.Piece (piece_at h text j))))
        → x.pieces ≡ now i
        → LeadsTo (HeardBy division weights made w r k x stands up n old) w
        (deliveries (first + i) (suc m) k)
    parts_heard first zero i e w r x stands up is_sent there kept =
        let lt : i < count = omega (arith, e) in
        let its = their division weights made w r k x stands up n is_sent old in
        comes_on division weights made w r k x stands up
        (HeardBy division weights made w r k x stands up n old) (first + i)
        (datagram_text (datagrams.Piece (piece_at h text i))) (there i lt) its.0
        (ap (λ z. step_on (member_at w k x) (arrival_of (member_at w k x) z
        (datagram_of (datagram_text (datagrams.Piece (piece_at h text i)))))) kept
        ∙ ap (step_on (member_at w k x))
        (arrives w r x i lt (get_contains w.sent (first + i)
        (datagram_text (datagrams.Piece (piece_at h text i))) (there i lt))
        ∙ is_whole i (omega (arith, e)))
        ∙ its.1)
        (λ list reached. heard_then division weights made w r k x stands up n is_sent old old
        (pieces_stay old (members.heard (member_at w k x) n) its.0 its.1) list reached)
    parts_heard first (suc m) i e w r x stands up is_sent there kept =
        let lt : i < count = omega (arith, e) in
        let t : Taken = record { answer = nothing (member_at w k x); pieces = now (suc i) } in
        comes_on division weights made w r k x stands up
        (λ v. LeadsTo (HeardBy division weights made w r k x stands up n old) v
        (deliveries ((first + i) + 1) (suc m) k)) (first + i)
        (datagram_text (datagrams.Piece (piece_at h text i))) (there i lt) t
        (ap (λ z. step_on (member_at w k x) (arrival_of (member_at w k x) z
        (datagram_of (datagram_text (datagrams.Piece (piece_at h text i)))))) kept
        ∙ ap (step_on (member_at w k x))
        (arrives w r x i lt (get_contains w.sent (first + i)
        (datagram_text (datagrams.Piece (piece_at h text i))) (there i lt))
        ∙ waits i (omega (arith, e))))
        (λ list reached.
        let v = stepped w k x t list in
        let y = up_node (after (node_at w k x) t) in
        let on : slice_get v.nodes k ≡ Some y = put_there w.nodes k x y stands in
        subst (λ d. LeadsTo (HeardBy division weights made w r k x stands up n old) v
        (deliveries d (suc m) k)) (let s : first + suc i ≡ (first + i) + 1 = omega arith in s)
        (leads_also (HeardBy division weights made v reached k y on refl n old)
        (HeardBy division weights made w r k x stands up n old) v
        (deliveries (first + suc i) (suc m) k)
        (parts_heard first m (suc i) (omega (arith, e)) v reached y on refl is_sent there refl)
        (λ u b. record {
          reached = b.reached;
          division_is = b.division_is;
          weights_are = b.weights_are;
          node = b.node;
          nodes_are = b.nodes_are ∙ put_again w.nodes k y b.node;
          is_on = b.is_on;
          pieces = b.pieces;
          answer = b.answer;
          claim_is = b.claim_is;
          answers = b.answers;
          answer_is = b.answer_is;
          written = b.written;
          sent = b.sent;
          here = b.here;
          there = b.there;
        })))

    -- So a message in pieces, none of which is kept before, is received once all arrived.
    pub pieces_heard : (first : ℕ) → 0 < count → (w : World)
        (r : IsReached division weights made w) (x : WorldNode)
        (stands : slice_get w.nodes k ≡ Some x) (up : x.up ≡ true) → WasSent w.sent n
        → ((j : ℕ) → j < count → slice_get w.sent (first + j)
        ≡ Some (datagram_text (datagrams.Piece (piece_at h text j))))
        → x.pieces ≡ old
        → LeadsTo (HeardBy division weights made w r k x stands up n old) w
        (deliveries first count k)
    pieces_heard first some w r x stands up is_sent there kept =
        by count refl
      where
        by : (j : ℕ) → count ≡ j
            → LeadsTo (HeardBy division weights made w r k x stands up n old) w
            (deliveries first count k)
        by zero e = absurd (omega (arith, some, e))
        by (suc m) e =
            subst (λ z. LeadsTo (HeardBy division weights made w r k x stands up n old) w
            (deliveries first z k)) (sym e)
            (subst (λ z. LeadsTo (HeardBy division weights made w r k x stands up n old) w
            (deliveries z (suc m) k)) (let s : first + 0 ≡ first = omega arith in s)
            (parts_heard first m 0 (omega (arith, e)) w r x stands up is_sent there
            (kept ∙ sym (append-nil old))))
