-- Pieces of messages that carry a build.
use Rattle.std.proofs.Common.{◌≡◌, ℕ, ◌-◌, ◌*◌, ◌<◌, ◌≤◌, min, cond, ltb, true, List, [], ◌∷◌, ◌++◌, Result, Ok, Err, inl, inr, refl, sym, ap, subst, ◌∙◌, append_assoc, arith}
use Rattle.std.proofs.lemmas.Bool.{lt-ltb, ltb-true}
use Rattle.byteorder.specs.Endian.{big_bytes}
use Rattle.faults.specs.Bytes.{Text, is_one_of}
use Rattle.claims.specs.declared.claim.Claim.{Claim}
use Rattle.claims.specs.Claim.{IsClaim}
use Rattle.package_record.specs.Content.{most_bytes}
use Rattle.wire.specs.Laws.{AreBytes}
use Rattle.wire.specs.Pieces.{IsCarrier, IsHeader, IsPiece, piece_size}
use Rattle.wire.specs.Reading.{◌>>=◌, bytes_at, carrier_at, carrier_kinds, claim_at, front_at, header_at, header_from, number_at, piece_at, piece_number_at, report_at}
use Rattle.wire.specs.Spelling.{carrier_kind, carrier_text, claim_text}
use Rattle.wire.specs.declared.WireFault.{WireFault}
use Rattle.wire.specs.declared.WireFault.TheVariants.{BadField}
use Rattle.wire.specs.declared.datagram.Carrier.{Carrier}
use Rattle.wire.specs.declared.datagram.Carrier.TheVariants.{Promise, Propose, Agreed}
use Rattle.wire.specs.declared.datagram.Datagram.{Datagram}
use Rattle.wire.specs.declared.datagram.Datagram.TheVariants as datagrams
use Rattle.wire.specs.declared.datagram.Header.{Header}
use Rattle.wire.specs.declared.datagram.Piece.{Piece}
use Rattle.wire.specs.declared.fields.Front.{Front}
use Rattle.wire.proofs.FieldTexts.{Took, byte_read, bytes_read, bytes_taken, claim_read, claim_taken, gives, number_read, number_taken, one_byte}
use Rattle.wire.proofs.Fronts.{IsFront, fields_text, front_of, front_read, front_taken}
use Rattle.wire.proofs.Readers.{one_of}
use Rattle.wire.proofs.Steps.{bind_ok, ok_is, test_ok, where_true}

-- ---- carriers

report_read : (c d : Claim) (rest : Text) → IsClaim c → IsClaim d → report_at ((claim_text c ++ (1 ∷ claim_text d)) ++ rest) ≡ gives (Promise c d) rest
unfolding report_at
report_read c d rest first second =
    ap (λ (t : Text). claim_at t >>= λ claim. number_at 1 1 1 claim.1 >>= λ mark. claim_at mark.1 >>= λ voted. gives (Promise claim.0 voted.0) voted.1)
    (append_assoc (claim_text c) (1 ∷ claim_text d) rest)
    ∙ ap (λ (r : Result (Claim × Text) WireFault). r >>= λ claim. number_at 1 1 1 claim.1 >>= λ mark. claim_at mark.1 >>= λ voted. gives (Promise claim.0 voted.0) voted.1)
    (claim_read c (1 ∷ (claim_text d ++ rest)) first)
    ∙ ap (λ (r : Result (ℕ × Text) WireFault). r >>= λ mark. claim_at mark.1 >>= λ voted. gives (Promise c voted.0) voted.1)
    (byte_read 1 1 1 (claim_text d ++ rest) (omega arith) (omega arith) (omega arith))
    ∙ ap (λ (r : Result (Claim × Text) WireFault). r >>= λ voted. gives (Promise c voted.0) voted.1) (claim_read d rest second)

carrier_read : (c : Carrier) (rest : Text) → IsCarrier c → carrier_at (carrier_kind c) (carrier_text c ++ rest) ≡ gives c rest
carrier_read (Promise c d) rest good = report_read c d rest good.0 good.1
carrier_read (Propose c) rest good = ap (λ (r : Result (Claim × Text) WireFault). r >>= λ c. gives (Propose c.0) c.1) (claim_read c rest good)
carrier_read Agreed rest good = refl

is_carrier_kind : (c : Carrier) → is_one_of carrier_kinds (carrier_kind c) ≡ true
is_carrier_kind (Promise c d) = refl
is_carrier_kind (Propose c) = refl
is_carrier_kind Agreed = refl

-- the result of parsing the carrier of a message of this kind
record TookCarrier (kind : ℕ) (text : Text) (y : Carrier × Text) : Type 0 where
  good : IsCarrier y.0
  kind_is : carrier_kind y.0 ≡ kind
  spelled : text ≡ carrier_text y.0 ++ y.1
  bytes : AreBytes y.1

report_taken : (text : Text) (y : Carrier × Text) → AreBytes text → report_at text ≡ Ok y → TookCarrier 2 text y
unfolding report_at
report_taken text y bytes e =
    let a = bind_ok (claim_at text) (λ claim. number_at 1 1 1 claim.1 >>= λ mark. claim_at mark.1 >>= λ voted. gives (Promise claim.0 voted.0) voted.1) y e in
    let b = bind_ok (number_at 1 1 1 a.0.1) (λ mark. claim_at mark.1 >>= λ voted. gives (Promise a.0.0 voted.0) voted.1) y a.2 in
    let d = bind_ok (claim_at b.0.1) (λ voted. gives (Promise a.0.0 voted.0) voted.1) y b.2 in
    let c = claim_taken text a.0 bytes a.1 in
    let m = number_taken 1 1 1 a.0.1 b.0 c.bytes b.1 in
    let v = claim_taken b.0.1 d.0 m.bytes d.1 in
    let least : 1 ≤ b.0.0 = m.good.0 in
    let most : b.0.0 ≤ 1 = m.good.1 in
    let one : b.0.0 ≡ 1 = omega arith in
    subst (λ (z : Carrier × Text). TookCarrier 2 text z) (ok_is (Promise a.0.0 d.0.0, d.0.1) y d.2) (record {
      good = (c.good, v.good);
      kind_is = refl;
      spelled = c.spelled
          ∙ ap (λ (t : Text). claim_text a.0.0 ++ t) (
          m.spelled
          ∙ ap (λ (t : Text). t ++ b.0.1) (one_byte b.0.0 (omega arith))
          ∙ ap (λ (n : ℕ). n ∷ b.0.1) one
          ∙ ap (λ (t : Text). 1 ∷ t) v.spelled)
          ∙ sym (append_assoc (claim_text a.0.0) (1 ∷ claim_text d.0.0) d.0.1);
      bytes = v.bytes;
    })

proposal_taken : (text : Text) (y : Carrier × Text) → AreBytes text → carrier_at 3 text ≡ Ok y → TookCarrier 3 text y
proposal_taken text y bytes e =
    let a = bind_ok (claim_at text) (λ c. gives (Propose c.0) c.1) y e in
    let t = claim_taken text a.0 bytes a.1 in
    subst (λ (z : Carrier × Text). TookCarrier 3 text z) (ok_is (Propose a.0.0, a.0.1) y a.2) (record { good = t.good; kind_is = refl; spelled = t.spelled; bytes = t.bytes })

agreed_taken : (text : Text) (y : Carrier × Text) → AreBytes text → carrier_at 5 text ≡ Ok y → TookCarrier 5 text y
agreed_taken text y bytes e =
    subst (λ (z : Carrier × Text). TookCarrier 5 text z) (ok_is (Agreed, text) y e) (record { good = tt; kind_is = refl; spelled = refl; bytes = bytes })

carrier_taken : (kind : ℕ) (text : Text) (y : Carrier × Text) → is_one_of carrier_kinds kind ≡ true → AreBytes text → carrier_at kind text ≡ Ok y → TookCarrier kind text y
carrier_taken kind text y good bytes e =
    let here : (k : ℕ) → k ≡ kind → (carrier_at k text ≡ Ok y → TookCarrier k text y) → TookCarrier kind text y =
    λ k is took. subst (λ (k : ℕ). TookCarrier k text y) is (took (subst (λ (k : ℕ). carrier_at k text ≡ Ok y) (sym is) e)) in
    elim (one_of kind 2 (3 ∷ 5 ∷ []) good) [
      | inl is ↦ here 2 is (report_taken text y bytes)
      | inr from_3 ↦ elim (one_of kind 3 (5 ∷ []) from_3) [
        | inl is ↦ here 3 is (proposal_taken text y bytes)
        | inr from_5 ↦ elim (one_of kind 5 [] from_5) [ inl is ↦ here 5 is (agreed_taken text y bytes) | inr none ↦ absurd cc ]
      ]
    ]

-- ---- headers

-- the fields of a header
abbrev pub front_in : Header → Front
front_in h = front_of (carrier_kind h.carrier) h.sender h.tree h.path

-- a header, after its first four bytes
abbrev pub header_tail : Header → Text
header_tail h = (fields_text (front_in h) ++ carrier_text h.carrier) ++ big_bytes 4 h.length

header_read : (h : Header) (rest : Text) → IsHeader h → header_at (header_tail h ++ rest) ≡ gives h rest
unfolding header_at
header_read h rest good =
    let front : IsFront carrier_kinds (front_in h) = record { kind = is_carrier_kind h.carrier; sender = good.sender; tree = good.tree; path = good.path } in
    let fits : h.length ≤ most_bytes = good.fits in
    ap (λ (t : Text). front_at carrier_kinds t >>= λ front. carrier_at front.0.kind front.1 >>= λ carrier. number_at 4 1 most_bytes carrier.1 >>= λ size. gives (header_from front.0 carrier.0 size.0) size.1)
    (append_assoc (fields_text (front_in h) ++ carrier_text h.carrier) (big_bytes 4 h.length) rest ∙ append_assoc (fields_text (front_in h)) (carrier_text h.carrier) (big_bytes 4 h.length ++ rest))
    ∙ ap (λ (r : Result (Front × Text) WireFault). r >>= λ front. carrier_at front.0.kind front.1 >>= λ carrier. number_at 4 1 most_bytes carrier.1 >>= λ size. gives (header_from front.0 carrier.0 size.0) size.1)
    (front_read carrier_kinds (front_in h) (carrier_text h.carrier ++ (big_bytes 4 h.length ++ rest)) front)
    ∙ ap (λ (r : Result (Carrier × Text) WireFault). r >>= λ carrier. number_at 4 1 most_bytes carrier.1 >>= λ size. gives (header_from (front_in h) carrier.0 size.0) size.1)
    (carrier_read h.carrier (big_bytes 4 h.length ++ rest) good.carrier)
    ∙ ap (λ (r : Result (ℕ × Text) WireFault). r >>= λ size. gives (header_from (front_in h) h.carrier size.0) size.1)
    (number_read 4 1 most_bytes h.length rest good.some fits (omega arith))

header_taken : (text : Text) (y : Header × Text) → AreBytes text → header_at text ≡ Ok y → Took IsHeader header_tail text y
unfolding header_at
header_taken text y bytes e =
    let a = bind_ok (front_at carrier_kinds text) (λ front. carrier_at front.0.kind front.1 >>= λ carrier. number_at 4 1 most_bytes carrier.1 >>= λ size. gives (header_from front.0 carrier.0 size.0) size.1) y e in
    let b = bind_ok (carrier_at a.0.0.kind a.0.1) (λ carrier. number_at 4 1 most_bytes carrier.1 >>= λ size. gives (header_from a.0.0 carrier.0 size.0) size.1) y a.2 in
    let d = bind_ok (number_at 4 1 most_bytes b.0.1) (λ size. gives (header_from a.0.0 b.0.0 size.0) size.1) y b.2 in
    let f = front_taken carrier_kinds text a.0 bytes a.1 in
    let c = carrier_taken a.0.0.kind a.0.1 b.0 f.good.kind f.bytes b.1 in
    let n = number_taken 4 1 most_bytes b.0.1 d.0 c.bytes d.1 in
    let front = front_of (carrier_kind b.0.0) a.0.0.sender a.0.0.tree a.0.0.path in
    subst (λ (z : Header × Text). Took IsHeader header_tail text z) (ok_is (header_from a.0.0 b.0.0 d.0.0, d.0.1) y d.2) (record {
      good = record { sender = f.good.sender; tree = f.good.tree; path = f.good.path; carrier = c.good; some = n.good.0; fits = n.good.1 };
      spelled = f.spelled
          ∙ ap (λ (t : Text). fields_text a.0.0 ++ t) (c.spelled ∙ ap (λ (t : Text). carrier_text b.0.0 ++ t) n.spelled)
          ∙ ap (λ (k : ℕ). fields_text (front_of k a.0.0.sender a.0.0.tree a.0.0.path) ++ (carrier_text b.0.0 ++ (big_bytes 4 d.0.0 ++ d.0.1))) (sym c.kind_is)
          ∙ sym (append_assoc (fields_text front ++ carrier_text b.0.0) (big_bytes 4 d.0.0) d.0.1 ∙ append_assoc (fields_text front) (carrier_text b.0.0) (big_bytes 4 d.0.0 ++ d.0.1));
      bytes = n.bytes;
    })

-- ---- pieces

piece_number_read : (size number : ℕ) (rest : Text) → piece_size * number < size → size ≤ most_bytes → piece_number_at size (big_bytes 2 number ++ rest) ≡ gives number rest
unfolding piece_number_at
piece_number_read size number rest before fits =
    let few : number < 128 = omega arith in
    ap (λ (r : Result (ℕ × Text) WireFault). r >>= λ number. cond (ltb (piece_size * number.0) size) (Ok number) (Err BadField))
    (number_read 2 0 65535 number rest (omega arith) (omega arith) (omega arith))
    ∙ where_true _ _ _ (lt-ltb (piece_size * number) size before)

abbrev IsNumber : ℕ → ℕ → Type 0
IsNumber size number = piece_size * number < size

piece_number_taken : (size : ℕ) (text : Text) (y : ℕ × Text) → AreBytes text → piece_number_at size text ≡ Ok y → Took (IsNumber size) (big_bytes 2) text y
unfolding piece_number_at
piece_number_taken size text y bytes e =
    let a = bind_ok (number_at 2 0 65535 text) (λ number. cond (ltb (piece_size * number.0) size) (Ok number) (Err BadField)) y e in
    let t = test_ok (ltb (piece_size * a.0.0) size) BadField (Ok a.0) y a.2 in
    let n = number_taken 2 0 65535 text a.0 bytes a.1 in
    subst (λ (z : ℕ × Text). Took (IsNumber size) (big_bytes 2) text z) (ok_is a.0 y t.1)
    (record { good = ltb-true (piece_size * a.0.0) size t.0; spelled = n.spelled; bytes = n.bytes })

abbrev piece_of : Header → ℕ → List ℕ → Piece
piece_of header number bytes = record { header = header; number = number; bytes = bytes }

-- a piece, after its first four bytes
abbrev pub piece_tail : Piece → Text
piece_tail p = (header_tail p.header ++ big_bytes 2 p.number) ++ p.bytes

pub piece_read : (p : Piece) (rest : Text) → IsPiece p → piece_at (piece_tail p ++ rest) ≡ gives (datagrams.Piece p) rest
unfolding piece_at
piece_read p rest good =
    let h = p.header in
    let fits : h.length ≤ most_bytes = good.header.fits in
    ap (λ (t : Text). header_at t >>= λ header. piece_number_at header.0.length header.1 >>= λ number. bytes_at (min piece_size (header.0.length - piece_size * number.0)) number.1 >>= λ bytes. gives (datagrams.Piece (piece_of header.0 number.0 bytes.0)) bytes.1)
    (append_assoc (header_tail h ++ big_bytes 2 p.number) p.bytes rest ∙ append_assoc (header_tail h) (big_bytes 2 p.number) (p.bytes ++ rest))
    ∙ ap (λ (r : Result (Header × Text) WireFault). r >>= λ header. piece_number_at header.0.length header.1 >>= λ number. bytes_at (min piece_size (header.0.length - piece_size * number.0)) number.1 >>= λ bytes. gives (datagrams.Piece (piece_of header.0 number.0 bytes.0)) bytes.1)
    (header_read h (big_bytes 2 p.number ++ (p.bytes ++ rest)) good.header)
    ∙ ap (λ (r : Result (ℕ × Text) WireFault). r >>= λ number. bytes_at (min piece_size (h.length - piece_size * number.0)) number.1 >>= λ bytes. gives (datagrams.Piece (piece_of h number.0 bytes.0)) bytes.1)
    (piece_number_read h.length p.number (p.bytes ++ rest) good.number fits)
    ∙ ap (λ (r : Result (Text × Text) WireFault). r >>= λ bytes. gives (datagrams.Piece (piece_of h p.number bytes.0)) bytes.1)
    (bytes_read (min piece_size (h.length - piece_size * p.number)) p.bytes rest good.bytes)

-- the result of parsing a piece
pub record TookPiece (text : Text) (y : Datagram × Text) : Type 0 where
  pub piece : Piece
  pub is : y.0 ≡ datagrams.Piece piece
  pub good : IsPiece piece
  pub spelled : text ≡ piece_tail piece ++ y.1
  pub bytes : AreBytes y.1

pub piece_taken : (text : Text) (y : Datagram × Text) → AreBytes text → piece_at text ≡ Ok y → TookPiece text y
unfolding piece_at
piece_taken text y bytes e =
    let a = bind_ok (header_at text) (λ header. piece_number_at header.0.length header.1 >>= λ number. bytes_at (min piece_size (header.0.length - piece_size * number.0)) number.1 >>= λ bytes. gives (datagrams.Piece (piece_of header.0 number.0 bytes.0)) bytes.1) y e in
    let b = bind_ok (piece_number_at a.0.0.length a.0.1) (λ number. bytes_at (min piece_size (a.0.0.length - piece_size * number.0)) number.1 >>= λ bytes. gives (datagrams.Piece (piece_of a.0.0 number.0 bytes.0)) bytes.1) y a.2 in
    let d = bind_ok (bytes_at (min piece_size (a.0.0.length - piece_size * b.0.0)) b.0.1) (λ bytes. gives (datagrams.Piece (piece_of a.0.0 b.0.0 bytes.0)) bytes.1) y b.2 in
    let h = header_taken text a.0 bytes a.1 in
    let n = piece_number_taken a.0.0.length a.0.1 b.0 h.bytes b.1 in
    let f = bytes_taken (min piece_size (a.0.0.length - piece_size * b.0.0)) b.0.1 d.0 n.bytes d.1 in
    subst (λ (z : Datagram × Text). TookPiece text z) (ok_is (datagrams.Piece (piece_of a.0.0 b.0.0 d.0.0), d.0.1) y d.2) (record {
      piece = piece_of a.0.0 b.0.0 d.0.0;
      is = refl;
      good = record { header = h.good; number = n.good; bytes = f.size };
      spelled = h.spelled
          ∙ ap (λ (t : Text). header_tail a.0.0 ++ t) (n.spelled ∙ ap (λ (t : Text). big_bytes 2 b.0.0 ++ t) f.spelled)
          ∙ sym (append_assoc (header_tail a.0.0 ++ big_bytes 2 b.0.0) d.0.0 d.0.1 ∙ append_assoc (header_tail a.0.0) (big_bytes 2 b.0.0) (d.0.0 ++ d.0.1));
      bytes = f.bytes;
    })
