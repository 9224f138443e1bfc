-- The texts of datagrams are parsed as these, and what is parsed has its text.
use Rattle.std.proofs.Common.{◌≡◌, ◌≤◌, true, cond, [], ◌++◌, length, codes, None, Some, Result, Ok, Err, inl, inr, refl, sym, ap, subst, ◌∙◌, arith}
use Rattle.std.specs.Str.{bytes_eq}
use Rattle.std.proofs.lemmas.Bool.{le-ltb}
use Rattle.std.proofs.lemmas.List.{length-append}
use Rattle.std.proofs.lemmas.Slice.Eq.{bytes_eq-Decides}
use Rattle.faults.specs.Bytes.{Text}
use Rattle.ballots.specs.Value.{Value}
use Rattle.ballots.specs.declared.message.Body.{Body}
use Rattle.ballots.specs.declared.message.Body.TheVariants.{Offer, Promise, Propose, Vote, Agreed, Ask, Nay}
use Rattle.ballots.specs.declared.message.Message.{Message}
use Rattle.wire.specs.Laws.{AreBytes}
use Rattle.wire.specs.Messages.{IsMessage}
use Rattle.wire.specs.Pieces.{IsDatagram, IsPiece, carried_in}
use Rattle.wire.specs.Reading.{◌>>=◌, bytes_at, datagram_at, datagram_by, datagram_of, ends, most_datagram_bytes, piece_at, whole_at}
use Rattle.wire.specs.Spelling.{body_text, carrier_text, datagram_text, message_text, path_text, piece_text}
use Rattle.wire.specs.declared.WireFault.{WireFault}
use Rattle.wire.specs.declared.WireFault.TheVariants.{Magic, TooLong}
use Rattle.wire.specs.declared.datagram.Carrier.{Carrier}
use Rattle.wire.specs.declared.datagram.Carrier.TheVariants as carriers
use Rattle.wire.specs.declared.datagram.Datagram.{Datagram}
use Rattle.wire.specs.declared.datagram.Datagram.TheVariants.{Whole, Piece}
use Rattle.wire.specs.declared.datagram.Piece as pieces
use Rattle.wire.proofs.FieldTexts.{Took, bytes_read, bytes_taken, gives, path_length}
use Rattle.wire.proofs.PieceTexts.{TookPiece, piece_read, piece_tail, piece_taken}
use Rattle.wire.proofs.Readers.{begins_none, read_again, whole_took}
use Rattle.wire.proofs.Steps.{bind_ok, refusal_ok, test_ok, ways, where_false}
use Rattle.wire.proofs.WholeTexts.{TookWhole, whole_read, whole_tail, whole_taken}

-- ---- with a rest

pub datagram_read : (d : Datagram) (rest : Text) → IsDatagram d → datagram_at (datagram_text d ++ rest) ≡ gives d rest
unfolding datagram_at
datagram_read (Whole m) rest good =
    ap (λ (r : Result (Text × Text) WireFault). r >>= λ magic. datagram_by magic.0 magic.1) (bytes_read 4 (codes "DPB1") (whole_tail m ++ rest) refl)
    ∙ whole_read m rest good.0 good.1
datagram_read (Piece p) rest good =
    ap (λ (r : Result (Text × Text) WireFault). r >>= λ magic. datagram_by magic.0 magic.1) (bytes_read 4 (codes "DPB2") (piece_tail p ++ rest) refl)
    ∙ piece_read p rest good

whole_behind : (magic text tail : Text) (y : Datagram × Text) → text ≡ magic ++ tail → bytes_eq magic (codes "DPB1") ≡ true → TookWhole tail y → Took IsDatagram datagram_text text y
whole_behind magic text tail y split same took = record {
  good = subst IsDatagram (sym took.is) took.good;
  spelled = split
      ∙ ap (λ (t : Text). t ++ tail) ((bytes_eq-Decides magic (codes "DPB1")).0 same)
      ∙ ap (λ (t : Text). codes "DPB1" ++ t) took.spelled
      ∙ ap (λ (d : Datagram). datagram_text d ++ y.1) (sym took.is);
  bytes = took.bytes;
}

piece_behind : (magic text tail : Text) (y : Datagram × Text) → text ≡ magic ++ tail → bytes_eq magic (codes "DPB2") ≡ true → TookPiece tail y → Took IsDatagram datagram_text text y
piece_behind magic text tail y split same took = record {
  good = subst IsDatagram (sym took.is) took.good;
  spelled = split
      ∙ ap (λ (t : Text). t ++ tail) ((bytes_eq-Decides magic (codes "DPB2")).0 same)
      ∙ ap (λ (t : Text). codes "DPB2" ++ t) took.spelled
      ∙ ap (λ (d : Datagram). datagram_text d ++ y.1) (sym took.is);
  bytes = took.bytes;
}

pub datagram_taken : (text : Text) (y : Datagram × Text) → AreBytes text → datagram_at text ≡ Ok y → Took IsDatagram datagram_text text y
unfolding datagram_at
datagram_taken text y bytes e =
    let a = bind_ok (bytes_at 4 text) (λ magic. datagram_by magic.0 magic.1) y e in
    let m = bytes_taken 4 text a.0 bytes a.1 in
    elim (ways (bytes_eq a.0.0 (codes "DPB1")) (whole_at a.0.1) (cond (bytes_eq a.0.0 (codes "DPB2")) (piece_at a.0.1) (Err Magic)) y a.2) [
      | inl w ↦ whole_behind a.0.0 text a.0.1 y m.spelled w.0 (whole_taken a.0.1 y m.bytes w.1)
      | inr other ↦
          let w = test_ok (bytes_eq a.0.0 (codes "DPB2")) Magic (piece_at a.0.1) y other.1 in
          piece_behind a.0.0 text a.0.1 y m.spelled w.0 (piece_taken a.0.1 y m.bytes w.1)
    ]

-- ---- lengths

body_short : (b : Body Value) → carried_in b ≡ None → length (body_text b) ≤ 18
body_short (Offer c) none = omega arith
body_short (Promise c None) none = omega arith
body_short (Promise c (Some vote)) none = absurd cc
body_short (Propose c v) none = absurd cc
body_short (Vote c) none = omega arith
body_short (Agreed v) none = absurd cc
body_short Ask none = omega arith
body_short (Nay c d) none = omega arith

carrier_short : (c : Carrier) → length (carrier_text c) ≤ 19
carrier_short (carriers.Promise c d) = omega arith
carrier_short (carriers.Propose c) = omega arith
carrier_short carriers.Agreed = omega arith

whole_short : (m : Message Value) → IsMessage m → carried_in m.body ≡ None → length (message_text m) ≤ most_datagram_bytes
whole_short m good none =
    let body = body_short m.body none in
    let path = (path_length m.path good.path).few in
    let tree = good.tree in
    omega (arith, length-append (m.tree ++ path_text m.path) (body_text m.body), length-append m.tree (path_text m.path))

piece_short : (p : pieces.Piece) → IsPiece p → length (piece_text p) ≤ most_datagram_bytes
piece_short p good =
    let h = p.header in
    let path = (path_length h.path good.header.path).few in
    let tree = good.header.tree in
    let carrier = carrier_short h.carrier in
    let most : length p.bytes ≤ 32768 = omega (arith, good.bytes) in
    let front = h.tree ++ path_text h.path in
    simp length-append (omega arith)

pub datagram_short : (d : Datagram) → IsDatagram d → length (datagram_text d) ≤ most_datagram_bytes
datagram_short (Whole m) good = whole_short m good.0 good.1
datagram_short (Piece p) good = piece_short p good

-- ---- whole texts

pub datagram_again : (d : Datagram) → IsDatagram d → datagram_of (datagram_text d) ≡ Ok d
unfolding datagram_of
datagram_again d good =
    where_false _ _ _ (le-ltb most_datagram_bytes (length (datagram_text d)) (datagram_short d good))
    ∙ read_again datagram_at datagram_text d (λ rest. datagram_read d rest good)

pub datagram_is_spelled : (text : Text) (d : Datagram) → AreBytes text → datagram_of text ≡ Ok d → IsDatagram d × (text ≡ datagram_text d)
unfolding datagram_of
datagram_is_spelled text d bytes e =
    let t = refusal_ok _ TooLong (datagram_at text >>= ends) d e in
    whole_took datagram_at IsDatagram datagram_text text d (λ y at. datagram_taken text y bytes at) t.1

pub no_datagram_begins : (d e : Datagram) (rest : Text) → IsDatagram d → IsDatagram e → datagram_text e ≡ datagram_text d ++ rest → (d ≡ e) × (rest ≡ [])
no_datagram_begins d e rest first other same =
    begins_none datagram_at datagram_text d e rest (λ rest. datagram_read d rest first) (λ rest. datagram_read e rest other) same
