-- The place of the sender's number in a datagram, and the lengths of pieces.
use Rattle.std.proofs.Common.{◌≡◌, ◌<◌, ◌≤◌, ◌+◌, ℕ, suc, zero, List, [], ◌∷◌, ◌++◌, length, min, Option, Some, codes, refl, sym, ap, subst, ◌∙◌, arith, slice_get}
use Rattle.std.proofs.lemmas.List.{length-append}
use Rattle.claims.specs.declared.claim.Claim.{Claim}
use Rattle.wire.specs.Laws.{sender_of}
use Rattle.wire.specs.Pieces.{IsPiece, piece_size}
use Rattle.wire.specs.Spelling.{carrier_kind, carrier_text, claim_text, datagram_text, front_text, header_text, path_text, piece_text}
use Rattle.byteorder.specs.Endian.{big_bytes}
use Rattle.faults.specs.Bytes.{Text}
use Rattle.wire.specs.declared.datagram.Carrier.{Carrier}
use Rattle.wire.specs.declared.datagram.Carrier.TheVariants.{Agreed, Promise, Propose}
use Rattle.wire.specs.declared.datagram.Datagram.{Datagram}
use Rattle.wire.specs.declared.datagram.Datagram.TheVariants as datagrams
use Rattle.wire.specs.declared.datagram.Header.{Header}
use Rattle.wire.specs.declared.datagram.Piece.{Piece}
use Rattle.wire.specs.declared.datagram.TheConstants.{LONGEST_PIECE, SENDER_PLACE}
use Rattle.wire.proofs.FieldTexts.{path_length}
use Rattle.wire.proofs.Numbers.{length-big_bytes}

-- after four bytes and the kind
pub sender_stands : (d : Datagram) → slice_get (datagram_text d) SENDER_PLACE ≡ Some (sender_of d)
sender_stands (datagrams.Whole m) = refl
sender_stands (datagrams.Piece p) = refl

claim_length : (c : Claim) → length (claim_text c) ≡ 9
claim_length c = omega (arith, length-append (big_bytes 8 c.round) (c.member ∷ []), length-big_bytes 8 c.round)

path_text_length : (path : Text) → length (path_text path) ≡ 2 + length path
path_text_length path = omega (arith, length-append (big_bytes 2 (length path)) path, length-big_bytes 2 (length path))

promise_length : (c d : Claim) → length (carrier_text (Promise c d)) ≡ 19
promise_length c d = omega (arith, length-append (claim_text c) (1 ∷ claim_text d), claim_length c, claim_length d)

carrier_length : (carrier : Carrier) → length (carrier_text carrier) ≤ 19
carrier_length (Promise c d) = omega (arith, promise_length c d)
carrier_length (Propose c) = omega (arith, claim_length c)
carrier_length Agreed = omega arith

front_length : (kind sender : ℕ) (tree : List ℕ) (path : Text)
    → length (front_text (codes "DPB2") kind sender tree path) ≡ 8 + length tree + length path
front_length kind sender tree path =
    omega (arith, length-append tree (path_text path), path_text_length path)

header_length : (h : Header)
    → length (header_text h) ≡ 12 + length h.tree + length h.path + length (carrier_text h.carrier)
header_length h =
    let front = front_text (codes "DPB2") (carrier_kind h.carrier) h.sender h.tree h.path in
    omega (
      arith,
      length-append (front ++ carrier_text h.carrier) (big_bytes 4 h.length),
      length-append front (carrier_text h.carrier),
      length-big_bytes 4 h.length,
      front_length (carrier_kind h.carrier) h.sender h.tree h.path,
    )

piece_length : (p : Piece)
    → length (piece_text p)
    ≡ 14 + length p.header.tree + length p.header.path + length (carrier_text p.header.carrier)
    + length p.bytes
piece_length p =
    omega (
      arith,
      length-append (header_text p.header ++ big_bytes 2 p.number) p.bytes,
      length-append (header_text p.header) (big_bytes 2 p.number),
      length-big_bytes 2 p.number,
      header_length p.header,
    )

bytes_few : (p : Piece) → IsPiece p → length p.bytes ≤ piece_size
bytes_few p good = omega (arith, good.bytes)

pub none_longer : (p : Piece) → IsPiece p → length (piece_text p) ≤ LONGEST_PIECE
none_longer p good =
    omega (
      arith,
      piece_length p,
      good.header.tree,
      (path_length p.header.path good.header.path).few,
      carrier_length p.header.carrier,
      bytes_few p good,
    )

pub as_long : (p : Piece) (c d : Claim) → IsPiece p → p.header.carrier ≡ Promise c d
    → length p.header.path ≡ 255 → length p.bytes ≡ piece_size
    → length (piece_text p) ≡ LONGEST_PIECE
as_long p c d good carried path bytes =
    let carrier : length (carrier_text p.header.carrier) ≡ 19 =
    ap (λ (x : Carrier). length (carrier_text x)) carried ∙ promise_length c d in
    omega (arith, piece_length p, good.header.tree, path, carrier, bytes)
