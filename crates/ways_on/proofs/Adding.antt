-- The datagrams of a message are distinct, and if none of them was sent, they are appended to those
-- that were sent.
use Rattle.std.proofs.Common.{◌≡◌, ◌≢◌, ◌<◌, ℕ, List, [], ◌∷◌, length, map, Option, None, Some, refl, sym, ap, subst, ◌∙◌, arith}
use Rattle.std.specs.Prelude.{All, AllPairs}
use Rattle.std.specs.List.{range_with_len}
use Rattle.std.proofs.lemmas.List.FromFn.{get_or-map-range_with_len, length-map-range_with_len}
use Rattle.ballots.specs.declared.message.Message.{Message}
use Rattle.faults.specs.Bytes.{Text}
use Rattle.node.specs.Parcels.{datagrams_of}
use Rattle.package_record.specs.Build.{build_text}
use Rattle.protocol.specs.State.{Value}
use Rattle.wire.specs.Messages.{IsMessage}
use Rattle.wire.specs.Pieces.{IsDatagram, carried_in, header_with, piece_at, split_by, split_of}
use Rattle.wire.specs.Reading.{datagram_of}
use Rattle.wire.specs.Spelling.{datagram_text}
use Rattle.wire.specs.declared.datagram.Carrier.{Carrier}
use Rattle.wire.specs.declared.datagram.Datagram.TheVariants as datagrams
use Rattle.wire.specs.declared.datagram.Header.{Header}
use Rattle.wire.specs.declared.datagram.Piece.{Piece}
use Rattle.wire.proofs.Cutting.{split_good}
use Rattle.wire.proofs.DatagramTexts.{datagram_again}
use Rattle.wire.proofs.PieceNumbers.{all_numbers}
use Rattle.one_list.proofs.sent.MessageHeaders.{ok_same}

piece_same : (p q : Piece) → datagrams.Piece p ≡ datagrams.Piece q → p ≡ q
piece_same p q e = cc

-- the texts of the pieces with these numbers are distinct
pieces_differ : (h : Header) (text : Text) (count : ℕ)
    → All IsDatagram (map (λ j. datagrams.Piece (piece_at h text j)) (range_with_len 0 count))
    → AllPairs ◌≢◌ (map (λ j. datagram_text (datagrams.Piece (piece_at h text j)))
    (range_with_len 0 count))
pieces_differ h text count good i j d lt within same =
    let below : j < count = omega (
      arith,
      within,
      length-map-range_with_len
          (λ j. datagram_text (datagrams.Piece (piece_at h text j))) 0 count,
    ) in
    let first : i < count = omega (arith, lt, below) in
    let texts : datagram_text (datagrams.Piece (piece_at h text i))
    ≡ datagram_text (datagrams.Piece (piece_at h text j)) =
    sym (get_or-map-range_with_len (λ j. datagram_text (datagrams.Piece (piece_at h text j))) 0
    count i i d first (omega arith))
    ∙ same
    ∙ get_or-map-range_with_len (λ j. datagram_text (datagrams.Piece (piece_at h text j))) 0
    count j j d below (omega arith) in
    let one = ok_same (datagrams.Piece (piece_at h text i)) (datagrams.Piece (piece_at h text j))
    (sym (datagram_again (datagrams.Piece (piece_at h text i)) (is_good i first))
    ∙ ap datagram_of texts
    ∙ datagram_again (datagrams.Piece (piece_at h text j)) (is_good j below)) in
    let number : i ≡ j = ap (λ (p : Piece). p.number)
    (piece_same (piece_at h text i) (piece_at h text j) one) in
    omega (arith, lt, number)
  where
    is_good : (i : ℕ) → i < count → IsDatagram (datagrams.Piece (piece_at h text i))
    is_good i lt =
        let d = datagrams.Piece (piece_at h text i) in
        subst IsDatagram (get_or-map-range_with_len (λ j. datagrams.Piece (piece_at h text j)) 0
        count i i d lt (omega arith))
        (good i d (omega (
          arith,
          lt,
          length-map-range_with_len
              (λ j. datagrams.Piece (piece_at h text j)) 0 count,
        )))

-- mapping twice is mapping once with the composed function
map_twice : {X Y Z : Type 0} (f : X → Y) (g : Y → Z) (xs : List X)
    → map g (map f xs) ≡ map (λ x. g (f x)) xs
map_twice f g [] = refl
map_twice f g (x ∷ xs) = ap (λ l. g (f x) ∷ l) (map_twice f g xs)

-- The datagrams of a message are distinct.
pub datagrams_differ : (m : Message Value) → IsMessage m → AllPairs ◌≢◌ (datagrams_of m)
datagrams_differ m good = by (carried_in m.body) refl
  where
    by : (o : Option (Carrier × Value)) → carried_in m.body ≡ o → AllPairs ◌≢◌ (datagrams_of m)
    by None e = subst (λ o. AllPairs ◌≢◌ (map datagram_text (split_by m o))) (sym e)
        (λ i j d lt within. absurd (omega (arith, lt, within)))
    by (Some x) e =
        let h = header_with m x.0 x.1 in
        let text = build_text x.1 in
        let all = all_numbers (length text) in
        let split : split_of m
        ≡ map (λ j. datagrams.Piece (piece_at h text j)) (range_with_len 0 all.0) =
        ap (split_by m) e ∙ ap (map (λ j. datagrams.Piece (piece_at h text j))) (all.1).same in
        subst (AllPairs ◌≢◌)
        (sym (ap (map datagram_text) split
        ∙ map_twice (λ j. datagrams.Piece (piece_at h text j)) datagram_text
        (range_with_len 0 all.0)))
        (pieces_differ h text all.0 (subst (All IsDatagram) split (split_good m good)))
