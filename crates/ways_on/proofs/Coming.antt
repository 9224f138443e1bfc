-- A message that was sent, and of which the node keeps no piece, is received once all its datagrams
-- arrived, in order of number.
use Rattle.std.proofs.Common.{◌≡◌, ◌<◌, ◌+◌, ℕ, zero, suc, true, List, [], ◌∷◌, ◌++◌, length, map, Option, None, Some, slice_get, refl, sym, ap, subst, ◌∙◌, arith}
use Rattle.std.specs.Prelude.{Contains}
use Rattle.std.specs.List.{range_with_len}
use Rattle.std.proofs.lemmas.List.FromFn.{length-map-range_with_len}
use Rattle.ballots.specs.declared.message.Message.{Message}
use Rattle.faults.specs.Bytes.{Text}
use Rattle.node.specs.Parcels.{datagrams_of}
use Rattle.package_record.specs.Build.{build_text}
use Rattle.protocol.specs.State.{Value}
use Rattle.engine.specs.Division.{Division}
use Rattle.ways_on.specs.Ways.{LeadsTo}
use Rattle.ways_on.specs.inside.Listed.{deliveries}
use Rattle.ways_on.proofs.Hearing.{HeardBy, whole_heard}
use Rattle.ways_on.proofs.Pieces.{pieces_heard}
use Rattle.ways_on.proofs.Reached.{IsReached}
use Rattle.wire.specs.Pieces.{carried_in, header_with, piece_at, split_by, split_of}
use Rattle.wire.specs.Spelling.{datagram_text}
use Rattle.wire.specs.declared.datagram.Carrier.{Carrier}
use Rattle.wire.specs.declared.datagram.Datagram.TheVariants as datagrams
use Rattle.wire.specs.declared.datagram.Piece.{Piece}
use Rattle.wire.proofs.Cutting.{header_good}
use Rattle.wire.proofs.PieceNumbers.{all_numbers}
use Rattle.world.specs.Sent.{WasSent}
use Rattle.world.specs.World.{IsMade, World, WorldNode}

-- an element after a list
pub get_behind : {X : Type 0} (xs ys : List X) (i : ℕ) → slice_get (xs ++ ys) (length xs + i)
    ≡ slice_get ys i
get_behind [] ys i = ap (slice_get ys) (let e : 0 + i ≡ i = omega arith in e)
get_behind (x ∷ xs) ys i =
    ap (slice_get (x ∷ (xs ++ ys)))
    (let e : suc (length xs) + i ≡ suc (length xs + i) = omega arith in e)
    ∙ get_behind xs ys i

-- an element of a mapped range that is followed by more
pub get_made : {X : Type 0} (g : ℕ → X) (ys : List X) (a m i : ℕ) → i < m
    → slice_get (map g (range_with_len a m) ++ ys) i ≡ Some (g (a + i))
get_made g ys a zero i lt = absurd (omega (arith, lt))
get_made g ys a (suc m) zero lt = ap (λ j. Some (g j)) (let e : a ≡ a + 0 = omega arith in e)
get_made g ys a (suc m) (suc i) lt =
    get_made g ys (a + 1) m i (omega (arith, lt))
    ∙ ap (λ j. Some (g j)) (let e : (a + 1) + i ≡ a + suc i = omega arith in e)

pub map_twice : {X Y Z : Type 0} (f : X → Y) (g : Y → Z) (xs : List X)
    → map g (map f xs) ≡ map (λ x. g (f x)) xs
map_twice f g [] = refl
map_twice f g (x ∷ xs) = ap (λ l. g (f x) ∷ l) (map_twice f g xs)

-- No piece of the message is among these.
abbrev pub HasNone : Message Value → List Piece → Type 0
HasNone n pieces = (c : Carrier) (v : Value) → carried_in n.body ≡ Some (c, v) → (p : Piece)
    → Contains pieces p → p.header ≡ header_with n c v → ⊥

module _ (division : Division) (weights : List ℕ) (made : IsMade division weights) (w : World)
    (r : IsReached division weights made w) (k : ℕ) (x : WorldNode)
    (stands : slice_get w.nodes k ≡ Some x) (up : x.up ≡ true) (n : Message Value)
    (is_sent : WasSent w.sent n) (none : HasNone n x.pieces) (early late : List Text)
    (sent : w.sent ≡ early ++ (datagrams_of n ++ late)) where
  -- whatever the message carries
  pub comes_whole : LeadsTo (HeardBy division weights made w r k x stands up n x.pieces) w
      (deliveries (length early) (length (split_of n)) k)
  comes_whole = by (carried_in n.body) refl
    where
      by : (o : Option (Carrier × Value)) → carried_in n.body ≡ o
          → LeadsTo (HeardBy division weights made w r k x stands up n x.pieces) w
          (deliveries (length early) (length (split_of n)) k)
      by None e =
          subst (λ m. LeadsTo (HeardBy division weights made w r k x stands up n x.pieces) w
          (deliveries (length early) m k))
          (sym (ap (λ o. length (split_by n o)) e))
          (whole_heard division weights made w r k x stands up n is_sent (is_sent.is_message, e)
          (length early)
          (ap (λ l. slice_get l (length early))
          (sent ∙ ap (λ o. early ++ (map datagram_text (split_by n o) ++ late)) e)
          ∙ ap (slice_get (early ++ (datagram_text (datagrams.Whole n) ∷ late)))
          (let z : length early ≡ length early + 0 = omega arith in z)
          ∙ get_behind early (datagram_text (datagrams.Whole n) ∷ late) 0))
      by (Some b) e =
          let h = header_with n b.0 b.1 in
          let text = build_text b.1 in
          let all = all_numbers (length text) in
          let good = header_good n b.0 b.1 is_sent.is_message e in
          let enough = (all.1).enough good.fits in
          let some : 0 < all.0 = omega (arith, good.some, enough) in
          let split : split_of n
          ≡ map (λ j. datagrams.Piece (piece_at h text j)) (range_with_len 0 all.0) =
          ap (split_by n) e ∙ ap (map (λ j. datagrams.Piece (piece_at h text j))) (all.1).same in
          let texts : datagrams_of n
          ≡ map (λ j. datagram_text (datagrams.Piece (piece_at h text j)))
          (range_with_len 0 all.0) =
          ap (map datagram_text) split
          ∙ map_twice (λ j. datagrams.Piece (piece_at h text j)) datagram_text
          (range_with_len 0 all.0) in
          subst (λ m. LeadsTo (HeardBy division weights made w r k x stands up n x.pieces) w
          (deliveries (length early) m k))
          (sym (ap length split ∙ length-map-range_with_len
          (λ j. datagrams.Piece (piece_at h text j)) 0 all.0))
          (pieces_heard division weights made n b.0 b.1 e all.0 (all.1).same x.pieces
          (none b.0 b.1 e) k is_sent.is_message (length early) some w r x stands up is_sent
          (λ j lt.
          ap (λ l. slice_get l (length early + j))
          (sent ∙ ap (λ t. early ++ (t ++ late)) texts)
          ∙ get_behind early (map (λ j. datagram_text (datagrams.Piece (piece_at h text j)))
          (range_with_len 0 all.0) ++ late) j
          ∙ get_made (λ j. datagram_text (datagrams.Piece (piece_at h text j))) late 0 all.0 j lt
          ∙ ap (λ i. Some (datagram_text (datagrams.Piece (piece_at h text i))))
          (let z : 0 + j ≡ j = omega arith in z))
          refl)
