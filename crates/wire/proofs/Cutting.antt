-- The datagrams of a message, and the message that its pieces join to.
use Rattle.std.proofs.Common.{◌≡◌, ℕ, suc, ◌+◌, ◌-◌, ◌*◌, ◌<◌, ◌≤◌, min, List, [], ◌∷◌, ◌++◌, length, get_or, map, drop, Option, None, Some, Result, Ok, refl, sym, ap, subst, ◌∙◌, arith}
use Rattle.std.specs.Prelude.{◌↔◌, All, flat_map, option_map, slice_get}
use Rattle.std.specs.List.{range_with_len}
use Rattle.std.proofs.lemmas.List.{append-nil, length-append, length-drop, length-take, take_all}
use Rattle.std.proofs.lemmas.List.Elements.{All-cons, All-map, All-nil}
use Rattle.std.proofs.lemmas.List.Folds.{flat_map-map}
use Rattle.std.proofs.lemmas.List.FromFn.{length-map-range_with_len, length-range_with_len}
use Rattle.std.proofs.lemmas.Option.{slice_get-get_or, slice_get-map}
use Rattle.std.proofs.lemmas.Simd.{map-map}
use Rattle.faults.specs.Bytes.{Text, line_feed}
use Rattle.package_record.specs.Build.{AreAlike, build_text, records_text, several_lines}
use Rattle.package_record.specs.BuildReading.{whole_build_of}
use Rattle.package_record.specs.Content.{Content, ended, header_lines, most_bytes, record_text}
use Rattle.package_record.specs.Laws.{BuildTextIsReadAgain, WhatIsReadIsABuild}
use Rattle.ballots.specs.Value.{Value}
use Rattle.ballots.specs.declared.message.Body.{Body}
use Rattle.ballots.specs.declared.message.Body.TheVariants.{Offer, Promise, Propose, Vote, Agreed, Ask, Nay}
use Rattle.ballots.specs.declared.message.Message.{Message}
use Rattle.wire.specs.Joining.{AreAllThere, StandsOnce, bytes_numbered, bytes_of}
use Rattle.wire.specs.Laws.{AreAlikeButForTheBuild, AreItsPieces, IsJoined, bytes_in, header_in, number_in}
use Rattle.wire.specs.Messages.{IsBody, IsBuildOf, IsMessage}
use Rattle.wire.specs.Pieces.{IsCarrier, IsDatagram, IsHeader, body_with, carried_in, header_with, message_with, numbers_of, piece_at, piece_size, pieces_of, split_by, split_of}
use Rattle.wire.specs.Reading.{◌>>=◌, build_in, joined}
use Rattle.wire.specs.declared.WireFault.{WireFault}
use Rattle.wire.specs.declared.datagram.Carrier.{Carrier}
use Rattle.wire.specs.declared.datagram.Carrier.TheVariants as carriers
use Rattle.wire.specs.declared.datagram.Datagram.{Datagram}
use Rattle.wire.specs.declared.datagram.Datagram.TheVariants as datagrams
use Rattle.wire.specs.declared.datagram.Header.{Header}
use Rattle.wire.specs.declared.datagram.Piece.{Piece}
use Rattle.wire.proofs.FieldTexts.{whole_build_read, whole_build_taken}
use Rattle.wire.proofs.PieceNumbers.{all_first, all_numbers, at_place, cut_at, first_bytes}
use Rattle.wire.proofs.Steps.{bind_ok, ok_is}

-- ---- the pieces of a text

-- the piece of this number, as a datagram
abbrev sent : Header → Text → ℕ → Datagram
sent h text k = datagrams.Piece (piece_at h text k)

-- the number of bytes of a piece
cut_length : (text : Text) (k : ℕ) → length (cut_at text k) ≡ min piece_size (length text - piece_size * k)
cut_length text k = length-take piece_size (drop (piece_size * k) text) ∙ ap (min piece_size) (length-drop (piece_size * k) text)

piece_good : (h : Header) (text : Text) (k : ℕ) → IsHeader h → length text ≡ h.length → piece_size * k < length text → IsDatagram (sent h text k)
piece_good h text k good size within = record {
  header = good;
  number = subst (λ (m : ℕ). piece_size * k < m) size within;
  bytes = cut_length text k ∙ ap (λ (m : ℕ). min piece_size (m - piece_size * k)) size;
}

pub pieces_good : (h : Header) (text : Text) → IsHeader h → length text ≡ h.length → All IsDatagram (pieces_of h text)
pieces_good h text good size =
    let numbers = all_numbers (length text) in
    All-map IsDatagram (sent h text) (numbers_of (length text))
    (subst (All (λ (k : ℕ). IsDatagram (sent h text k))) (sym numbers.1.same)
    (all_first (λ (k : ℕ). IsDatagram (sent h text k)) numbers.0 (λ k below. piece_good h text k good size (numbers.1.within k below))))

-- this number of first pieces are numbered from 0 on
first_numbered : (h : Header) (text : Text) (count : ℕ)
    → map number_in (map (sent h text) (range_with_len 0 count)) ≡ map Some (range_with_len 0 (length (map (sent h text) (range_with_len 0 count))))
first_numbered h text count =
    map-map number_in (sent h text) (range_with_len 0 count)
    ∙ ap (λ (n : ℕ). map Some (range_with_len 0 n)) (sym (length-map-range_with_len (sent h text) 0 count))

-- all of them but the last are full
first_full : (h : Header) (text : Text) (count k : ℕ) → piece_size * (k + 1) < length text → k < count
    → option_map (λ d. length (bytes_in d)) (slice_get (map (sent h text) (range_with_len 0 count)) k) ≡ Some piece_size
first_full h text count k more below =
    let numbers = range_with_len 0 count in
    let full : length (cut_at text k) ≡ piece_size = cut_length text k ∙ omega arith in
    ap (option_map (λ d. length (bytes_in d))) (slice_get-map (sent h text) numbers k
    ∙ ap (option_map (sent h text)) (slice_get-get_or numbers k 0 (omega (arith, length-range_with_len 0 count))
    ∙ ap Some (at_place count k 0 below)))
    ∙ ap Some full

-- the datagrams of a text are its pieces
pub are_its_pieces : (h : Header) (v : Value) → length (build_text v) ≤ most_bytes → AreItsPieces h v (pieces_of h (build_text v))
are_its_pieces h v few =
    let text = build_text v in
    let numbers = all_numbers (length text) in
    let count = numbers.0 in
    let are = numbers.1 in
    let piece = sent h text in
    let many : length (map piece (range_with_len 0 count)) ≡ count = length-map-range_with_len piece 0 count in
    let first : AreItsPieces h v (map piece (range_with_len 0 count)) = record {
      headers = All-map (λ d. header_in d ≡ Some h) piece (range_with_len 0 count) (all_first (λ k. header_in (piece k) ≡ Some h) count (λ k below. refl));
      numbers = first_numbered h text count;
      bytes = flat_map-map bytes_in piece (range_with_len 0 count) ∙ first_bytes text count ∙ take_all (piece_size * count) text (are.enough few);
      full = λ k below. let within = are.within (k + 1) (omega (arith, many)) in first_full h text count k within (omega (arith, many));
      last = All-map (λ d. (1 ≤ length (bytes_in d)) × (length (bytes_in d) ≤ piece_size)) piece (range_with_len 0 count)
          (all_first (λ k. (1 ≤ length (cut_at text k)) × (length (cut_at text k) ≤ piece_size)) count
          (λ k below. let within = are.within k below in (omega (arith, cut_length text k), omega (arith, cut_length text k))));
    } in
    subst (λ (ks : List ℕ). AreItsPieces h v (map piece ks)) (sym are.same) first

-- ---- messages that carry a build

record_some : (c : Content) → 1 ≤ length (record_text c)
record_some c =
    let files = flat_map (λ f. f.bytes) c.files in
    omega (arith, length-append (ended (header_lines c) ++ line_feed ∷ []) files, length-append (ended (header_lines c)) (line_feed ∷ []))

build_some : (cs : List Content) → AreAlike cs → 1 ≤ length (build_text cs)
build_some [] alike = absurd alike
build_some (c ∷ []) alike = record_some c
build_some (c ∷ d ∷ cs) alike =
    let several = c ∷ d ∷ cs in
    omega (arith, record_some c, length-append (ended (several_lines (length several))) (records_text several), length-append (record_text c) (records_text (d ∷ cs)))

some_is : {A : Type 0} (x y : A) → Some x ≡ Some y → x ≡ y
some_is x y e = cc

carried_good : (name : Text) (b : Body Value) (x : Carrier × Value) → IsBody name b → carried_in b ≡ Some x → IsCarrier x.0 × IsBuildOf name x.1
carried_good name (Offer c) x good e = absurd cc
carried_good name (Promise c None) x good e = absurd cc
carried_good name (Promise c (Some vote)) x good e =
    subst (λ (z : Carrier × Value). IsCarrier z.0 × IsBuildOf name z.1) (some_is (carriers.Promise c vote.0, vote.1) x e) ((good.0, good.1.0), good.1.1)
carried_good name (Propose c v) x good e = subst (λ (z : Carrier × Value). IsCarrier z.0 × IsBuildOf name z.1) (some_is (carriers.Propose c, v) x e) (good.0, good.1)
carried_good name (Vote c) x good e = absurd cc
carried_good name (Agreed v) x good e = subst (λ (z : Carrier × Value). IsCarrier z.0 × IsBuildOf name z.1) (some_is (carriers.Agreed, v) x e) (tt, good)
carried_good name Ask x good e = absurd cc
carried_good name (Nay c d) x good e = absurd cc

pub header_good : (m : Message Value) (carrier : Carrier) (v : Value) → IsMessage m → carried_in m.body ≡ Some (carrier, v) → IsHeader (header_with m carrier v)
header_good m carrier v good e =
    let is = carried_good m.path m.body (carrier, v) good.body e in
    record {
      sender = good.sender;
      tree = good.tree;
      path = good.path;
      carrier = is.0;
      some = build_some v is.1.build_is.alike;
      fits = is.1.build_is.fits;
    }

pub split_good : (m : Message Value) → IsMessage m → All IsDatagram (split_of m)
split_good m good = by (carried_in m.body) refl
  where
    by : (o : Option (Carrier × Value)) → carried_in m.body ≡ o → All IsDatagram (split_by m o)
    by None e = All-cons IsDatagram (datagrams.Whole m) [] (good, e) (All-nil IsDatagram)
    by (Some x) e = pieces_good (header_with m x.0 x.1) (build_text x.1) (header_good m x.0 x.1 good e) refl

pub split_pieces : (m : Message Value) (carrier : Carrier) (v : Value) → IsMessage m → carried_in m.body ≡ Some (carrier, v) → AreItsPieces (header_with m carrier v) v (split_of m)
split_pieces m carrier v good e =
    let h = header_with m carrier v in
    subst (λ (o : Option (Carrier × Value)). AreItsPieces h v (split_by m o)) (sym e) (are_its_pieces h v (header_good m carrier v good e).fits)

-- ---- joining

with_header : (m : Message Value) (b : Body Value) (x : Carrier × Value) → carried_in b ≡ Some x → body_with x.0 x.1 ≡ b
with_header m (Offer c) x e = absurd cc
with_header m (Promise c None) x e = absurd cc
with_header m (Promise c (Some vote)) x e = sym (ap (λ (z : Carrier × Value). body_with z.0 z.1) (some_is (carriers.Promise c vote.0, vote.1) x e))
with_header m (Propose c v) x e = sym (ap (λ (z : Carrier × Value). body_with z.0 z.1) (some_is (carriers.Propose c, v) x e))
with_header m (Vote c) x e = absurd cc
with_header m (Agreed v) x e = sym (ap (λ (z : Carrier × Value). body_with z.0 z.1) (some_is (carriers.Agreed, v) x e))
with_header m Ask x e = absurd cc
with_header m (Nay c d) x e = absurd cc

pub message_again : (m : Message Value) (carrier : Carrier) (v : Value) → carried_in m.body ≡ Some (carrier, v) → message_with (header_with m carrier v) v ≡ m
message_again m carrier v e = ap (λ (b : Body Value). record m { body = b }) (with_header m m.body (carrier, v) e)

pub pieces_join : BuildTextIsReadAgain → (m : Message Value) (carrier : Carrier) (v : Value) → IsMessage m → carried_in m.body ≡ Some (carrier, v) → joined (header_with m carrier v) (build_text v) ≡ Ok m
pieces_join again m carrier v good e =
    let is = carried_good m.path m.body (carrier, v) good.body e in
    let h = header_with m carrier v in
    ap (λ (r : Result Value WireFault). r >>= λ v. Ok (message_with h v)) (whole_build_read again m.path v is.1)
    ∙ ap Ok (message_again m carrier v e)

-- functions that agree on all items
same_flat : {X A : Type 0} (f g : X → List A) (xs : List X) → All (λ x. f x ≡ g x) xs → flat_map f xs ≡ flat_map g xs
same_flat f g [] same = refl
same_flat f g (x ∷ xs) same =
    ap (λ (t : List _). t ++ flat_map f xs) (same 0 x (omega arith)) ∙ ap (λ (t : List _). g x ++ t) (same_flat f g xs (λ k d below. same (suc k) d (omega arith)))

-- the bytes of the only piece of this number
once_bytes : (h : Header) (text : Text) (pieces : List Piece) (k : ℕ) → StandsOnce pieces (piece_at h text k) → bytes_numbered h pieces k ≡ cut_at text k
once_bytes h text pieces k once = ap (flat_map (λ p. p.bytes)) once ∙ append-nil (cut_at text k)

-- the bytes of pieces that are complete are the text
pub pieces_spell : (h : Header) (text : Text) (pieces : List Piece) → length text ≤ most_bytes → length text ≡ h.length → AreAllThere h text pieces → bytes_of h pieces ≡ text
pieces_spell h text pieces few size there =
    let numbers = all_numbers (length text) in
    let count = numbers.0 in
    let are = numbers.1 in
    same_flat (bytes_numbered h pieces) (cut_at text) (numbers_of h.length) (λ k d below. once_bytes h text pieces (get_or (numbers_of h.length) k d) (there k d below))
    ∙ ap (λ (n : ℕ). flat_map (cut_at text) (numbers_of n)) (sym size)
    ∙ ap (flat_map (cut_at text)) are.same
    ∙ first_bytes text count
    ∙ take_all (piece_size * count) text (are.enough few)

pub pieces_join_in_any_order : BuildTextIsReadAgain → (m : Message Value) (carrier : Carrier) (v : Value) (pieces : List Piece)
    → IsMessage m → carried_in m.body ≡ Some (carrier, v) → AreAllThere (header_with m carrier v) (build_text v) pieces
    → joined (header_with m carrier v) (bytes_of (header_with m carrier v) pieces) ≡ Ok m
pieces_join_in_any_order again m carrier v pieces good e there =
    let h = header_with m carrier v in
    ap (joined h) (pieces_spell h (build_text v) pieces (header_good m carrier v good e).fits refl there) ∙ pieces_join again m carrier v good e

carried_with : (c : Carrier) (v : Value) → carried_in (body_with c v) ≡ Some (c, v)
carried_with (carriers.Promise c d) v = refl
carried_with (carriers.Propose c) v = refl
carried_with carriers.Agreed v = refl

body_good : (name : Text) (c : Carrier) (v : Value) → IsCarrier c → IsBuildOf name v → IsBody name (body_with c v)
body_good name (carriers.Promise c d) v carrier build = (carrier.0, (carrier.1, build))
body_good name (carriers.Propose c) v carrier build = (carrier, build)
body_good name carriers.Agreed v carrier build = build

pub joined_is : WhatIsReadIsABuild → (h : Header) (text : Text) (m : Message Value) → IsHeader h → length text ≡ h.length → joined h text ≡ Ok m → IsJoined h text m
joined_is made h text m good size e =
    let a = bind_ok (build_in h.path (whole_build_of text)) (λ v. Ok (message_with h v)) m e in
    let v = whole_build_taken made h.path text a.0 a.1 in
    let length_is : length (build_text a.0) ≡ h.length = sym (ap length v.1) ∙ size in
    subst (λ (m : Message Value). IsJoined h text m) (ok_is (message_with h a.0) m a.2) (record {
      message = record { sender = good.sender; tree = good.tree; path = good.path; body = body_good h.path h.carrier a.0 good.carrier v.0 };
      build = a.0;
      carried = carried_with h.carrier a.0;
      spelled = v.1;
      header = ap (λ (n : ℕ). record h { length = n }) length_is;
    })

pub headers_say_all : (m n : Message Value) (carrier other : Carrier) (v : Value) → carried_in m.body ≡ Some (carrier, v) → carried_in n.body ≡ Some (other, v) → header_with m carrier v ≡ header_with n other v → m ≡ n
headers_say_all m n carrier other v first second same =
    sym (message_again m carrier v first) ∙ ap (λ (h : Header). message_with h v) same ∙ message_again n other v second

-- ---- equal headers

abbrev header_by : ℕ → List ℕ → Text → Carrier → ℕ → Header
header_by sender tree path carrier size = record { sender = sender; tree = tree; path = path; carrier = carrier; length = size }

pub equal_headers : (m n : Message Value) (c d : Carrier) (v w : Value) → carried_in m.body ≡ Some (c, v) → carried_in n.body ≡ Some (d, w)
    → (header_with m c v ≡ header_with n d w) ↔ AreAlikeButForTheBuild m n c d v w
equal_headers m n c d v w first second = (alike, equal)
  where
    alike : header_with m c v ≡ header_with n d w → AreAlikeButForTheBuild m n c d v w
    alike same = record {
      sender = ap (λ (h : Header). h.sender) same;
      tree = ap (λ (h : Header). h.tree) same;
      path = ap (λ (h : Header). h.path) same;
      carrier = ap (λ (h : Header). h.carrier) same;
      as_long = ap (λ (h : Header). h.length) same;
    }

    equal : AreAlikeButForTheBuild m n c d v w → header_with m c v ≡ header_with n d w
    equal alike =
        let size = length (build_text v) in
        ap (λ (s : ℕ). header_by s m.tree m.path c size) alike.sender
        ∙ ap (λ (t : List ℕ). header_by n.sender t m.path c size) alike.tree
        ∙ ap (λ (p : Text). header_by n.sender n.tree p c size) alike.path
        ∙ ap (λ (x : Carrier). header_by n.sender n.tree n.path x size) alike.carrier
        ∙ ap (λ (k : ℕ). header_by n.sender n.tree n.path d k) alike.as_long
