-- The texts of fields are parsed as these, and what is parsed has its text.
use Rattle.std.proofs.Common.{◌≡◌, ℕ, ◌+◌, ◌<◌, ◌≤◌, ◌^◌, Bool, true, false, cond, ◌&&◌, leb, ltb, [], ◌∷◌, ◌++◌, length, take, drop, Option, Some, None, Result, Ok, Err, refl, sym, ap, subst, ◌∙◌, append_assoc, arith, inl, inr}
use Rattle.std.specs.Prelude.{slice_index}
use Rattle.std.specs.Str.{bytes_eq}
use Rattle.std.proofs.lemmas.Bool.{and_from, and_parts, cases_lt, le-leb, leb-true, ltb-false}
use Rattle.std.proofs.lemmas.List.{get_or-drop, get_or-take, get_or_past, length-append, length-take-le, take-append-drop}
use Rattle.std.proofs.lemmas.Slice.Eq.{bytes_eq-Decides}
use Rattle.std.proofs.Math.Nat.{mod-eq_of_lt}
use Rattle.std.proofs.Math.Seq.{drop-append_seam, take-append_seam}
use Rattle.byteorder.specs.Endian.{big_bytes, big_number}
use Rattle.faults.specs.Answers.{unless_fault}
use Rattle.faults.specs.Bytes.{Text, is_empty, is_one_of}
use Rattle.pkgpath.specs.PkgPath.{IsPath, canonical_text, fault_of, path_of, value_of}
use Rattle.pkgpath.specs.declared.PathFault.{PathFault}
use Rattle.claims.specs.declared.claim.Claim.{Claim}
use Rattle.claims.specs.Claim.{IsClaim, greatest_round}
use Rattle.package_record.specs.Build.{build_text, unit_path}
use Rattle.package_record.specs.BuildReading.{whole_build_of}
use Rattle.package_record.specs.Content.{most_bytes}
use Rattle.package_record.specs.Laws.{BuildTextIsReadAgain, WhatIsReadIsABuild}
use Rattle.package_record.specs.Reading.{is_itself}
use Rattle.ballots.specs.Value.{Value}
use Rattle.wire.specs.Laws.{AreBytes}
use Rattle.wire.specs.Messages.{IsBuildOf}
use Rattle.wire.specs.Reading.{◌>>=◌, build_at, build_in, bytes_at, claim_at, kind_at, number_at, path_at, path_in}
use Rattle.wire.specs.Spelling.{claim_text, path_text, sized_build}
use Rattle.wire.specs.declared.WireFault.{WireFault}
use Rattle.wire.specs.declared.WireFault.TheVariants.{BadField, Kind, Truncated}
use Rattle.wire.proofs.Numbers.{big_bytes-big_number, big_number-big_bytes, length-big_bytes}
use Rattle.wire.proofs.Steps.{bind_ok, ok_is, test_ok, where_true}

-- the result, and the text after it
abbrev pub gives : {A : Type 0} → A → Text → Result (A × Text) WireFault
gives x rest = Ok (x, rest)

-- The result is valid, and its text followed by the rest is the whole text.
pub record Took {A : Type 0} (is_good : A → Type 0) (spell : A → Text) (text : Text) (y : A × Text) : Type 0 where
  pub good : is_good y.0
  pub spelled : text ≡ spell y.0 ++ y.1
  pub bytes : AreBytes y.1

pub same_text : (text : Text) → bytes_eq text text ≡ true
same_text text = (bytes_eq-Decides text text).1 refl

-- ---- bytes

all_read : (field rest : Text) → bytes_at (length field) (field ++ rest) ≡ gives field rest
all_read field rest =
    where_true _ _ _ (le-leb (length field) (length (field ++ rest)) (omega (arith, length-append field rest)))
    ∙ ap (λ (t : Text). gives t (drop (length field) (field ++ rest))) (take-append_seam field rest)
    ∙ ap (λ (t : Text). gives field t) (drop-append_seam field rest)

pub bytes_read : (n : ℕ) (field rest : Text) → length field ≡ n → bytes_at n (field ++ rest) ≡ gives field rest
bytes_read n field rest size = subst (λ (m : ℕ). bytes_at m (field ++ rest) ≡ gives field rest) size (all_read field rest)

pub are_bytes_behind : (n : ℕ) (text : Text) → AreBytes text → AreBytes (drop n text)
are_bytes_behind n text bytes k = rw (get_or-drop n text k 0) (bytes (n + k))

are_bytes_before : (n : ℕ) (text : Text) → AreBytes text → n ≤ length text → AreBytes (take n text)
are_bytes_before n text bytes enough k = elim (cases_lt k n) [
  | inl below ↦ rw (get_or-take n text k 0 below) (bytes k)
  | inr above ↦
      let size : length (take n text) ≤ k = omega (arith, length-take-le n text enough) in
      rw (get_or_past (take n text) k 0 size) (omega arith)
]

-- the result of taking n bytes
pub record TookBytes (n : ℕ) (text : Text) (y : Text × Text) : Type 0 where
  pub size : length y.0 ≡ n
  pub field : AreBytes y.0
  pub spelled : text ≡ y.0 ++ y.1
  pub bytes : AreBytes y.1

pub bytes_taken : (n : ℕ) (text : Text) (y : Text × Text) → AreBytes text → bytes_at n text ≡ Ok y → TookBytes n text y
bytes_taken n text y bytes e =
    let t = test_ok (leb n (length text)) Truncated (gives (take n text) (drop n text)) y e in
    let enough : n ≤ length text = leb-true n (length text) t.0 in
    subst (λ (z : Text × Text). TookBytes n text z) (ok_is (take n text, drop n text) y t.1) (record {
      size = length-take-le n text enough;
      field = are_bytes_before n text bytes enough;
      spelled = sym (take-append-drop n text);
      bytes = are_bytes_behind n text bytes;
    })

-- ---- numbers

number_if : ℕ → ℕ → ℕ → Text → Result (ℕ × Text) WireFault
number_if least greatest value rest = cond (leb least value && leb value greatest) (Ok (value, rest)) (Err BadField)

pub number_read : (n least greatest x : ℕ) (rest : Text) → least ≤ x → x ≤ greatest → x < 256 ^ n → number_at n least greatest (big_bytes n x ++ rest) ≡ gives x rest
unfolding number_at
number_read n least greatest x rest low high fits =
    ap (λ (r : Result (Text × Text) WireFault). r >>= λ field. cond (leb least (big_number n field.0) && leb (big_number n field.0) greatest) (Ok (big_number n field.0, field.1)) (Err BadField))
    (bytes_read n (big_bytes n x) rest (length-big_bytes n x))
    ∙ ap (λ (v : ℕ). cond (leb least v && leb v greatest) (gives v rest) (Err BadField)) (big_number-big_bytes n x fits)
    ∙ where_true _ _ _ (and_from _ _ (le-leb least x low) (le-leb x greatest high))

-- a number in this range
abbrev pub IsFrom : ℕ → ℕ → ℕ → Type 0
IsFrom least greatest x = (least ≤ x) × (x ≤ greatest)

pub number_taken : (n least greatest : ℕ) (text : Text) (y : ℕ × Text) → AreBytes text → number_at n least greatest text ≡ Ok y → Took (IsFrom least greatest) (big_bytes n) text y
unfolding number_at
number_taken n least greatest text y bytes e =
    let a = bind_ok (bytes_at n text) (λ field. cond (leb least (big_number n field.0) && leb (big_number n field.0) greatest) (Ok (big_number n field.0, field.1)) (Err BadField)) y e in
    let value = big_number n a.0.0 in
    let t = test_ok (leb least value && leb value greatest) BadField (gives value a.0.1) y a.2 in
    let within = and_parts (leb least value) (leb value greatest) t.0 in
    let took = bytes_taken n text a.0 bytes a.1 in
    subst (λ (z : ℕ × Text). Took (IsFrom least greatest) (big_bytes n) text z) (ok_is (value, a.0.1) y t.1) (record {
      good = (leb-true least value within.0, leb-true value greatest within.1);
      spelled = took.spelled ∙ ap (λ (f : Text). f ++ a.0.1) (sym (big_bytes-big_number n a.0.0 took.size took.field));
      bytes = took.bytes;
    })

pub one_byte : (x : ℕ) → x < 256 → big_bytes 1 x ≡ x ∷ []
one_byte x small = ap (λ (b : ℕ). b ∷ []) (mod-eq_of_lt small)

pub byte_read : (least greatest x : ℕ) (rest : Text) → least ≤ x → x ≤ greatest → x < 256 → number_at 1 least greatest (x ∷ rest) ≡ gives x rest
byte_read least greatest x rest low high small =
    ap (λ (f : Text). number_at 1 least greatest (f ++ rest)) (sym (one_byte x small)) ∙ number_read 1 least greatest x rest low high small

-- ---- claims

abbrev claim_of : ℕ → ℕ → Claim
claim_of round member = record { round = round; member = member }

pub claim_read : (c : Claim) (rest : Text) → IsClaim c → claim_at (claim_text c ++ rest) ≡ gives c rest
unfolding claim_at
claim_read c rest good =
    let most : c.round ≤ greatest_round = good.round.1 in
    let round = number_read 8 1 greatest_round c.round (c.member ∷ rest) good.round.0 most (omega arith) in
    let member = byte_read 0 8 c.member rest (omega arith) (omega (arith, good.member)) (omega (arith, good.member)) in
    ap (λ (t : Text). number_at 8 1 greatest_round t >>= λ round. number_at 1 0 8 round.1 >>= λ member. gives (claim_of round.0 member.0) member.1)
    (append_assoc (big_bytes 8 c.round) (c.member ∷ []) rest)
    ∙ ap (λ (r : Result (ℕ × Text) WireFault). r >>= λ round. number_at 1 0 8 round.1 >>= λ member. gives (claim_of round.0 member.0) member.1) round
    ∙ ap (λ (r : Result (ℕ × Text) WireFault). r >>= λ member. gives (claim_of c.round member.0) member.1) member

pub claim_taken : (text : Text) (y : Claim × Text) → AreBytes text → claim_at text ≡ Ok y → Took IsClaim claim_text text y
unfolding claim_at
claim_taken text y bytes e =
    let a = bind_ok (number_at 8 1 greatest_round text) (λ round. number_at 1 0 8 round.1 >>= λ member. gives (claim_of round.0 member.0) member.1) y e in
    let b = bind_ok (number_at 1 0 8 a.0.1) (λ member. gives (claim_of a.0.0 member.0) member.1) y a.2 in
    let r = number_taken 8 1 greatest_round text a.0 bytes a.1 in
    let m = number_taken 1 0 8 a.0.1 b.0 r.bytes b.1 in
    let eight : b.0.0 ≤ 8 = m.good.1 in
    subst (λ (z : Claim × Text). Took IsClaim claim_text text z) (ok_is (claim_of a.0.0 b.0.0, b.0.1) y b.2) (record {
      good = record { round = r.good; member = omega arith };
      spelled = r.spelled ∙ ap (λ (t : Text). big_bytes 8 a.0.0 ++ t) (m.spelled ∙ ap (λ (t : Text). t ++ b.0.1) (one_byte b.0.0 (omega arith)))
          ∙ sym (append_assoc (big_bytes 8 a.0.0) (b.0.0 ∷ []) b.0.1);
      bytes = m.bytes;
    })

-- ---- paths

-- a path is not empty, and not too long
pub record HasPathLength (path : Text) : Type 0 where
  pub some : 1 ≤ length path
  pub few : length path ≤ 255

no_fault : (path : Text) → IsPath path → fault_of path ≡ None
no_fault path good = none (fault_of path) good
  where
    none : (f : Option PathFault) → unless_fault f (canonical_text (value_of path)) ≡ Ok path → f ≡ None
    none None e = refl
    none (Some f) e = absurd cc

pub path_length : (path : Text) → IsPath path → HasPathLength path
path_length path good = short path (no_fault path good)
  where
    first_fails : {F : Type 0} (b : Bool) (f : F) (rest : Option F) → cond b (Some f) rest ≡ None → (b ≡ false) × (rest ≡ None)
    first_fails true f rest e = absurd cc
    first_fails false f rest e = (refl, e)

    filled : (path : Text) → is_empty path ≡ false → 1 ≤ length path
    filled [] e = absurd cc
    filled (b ∷ bs) e = omega arith

    short : (path : Text) → fault_of path ≡ None → HasPathLength path
    short path e =
        let a = first_fails (is_empty path) _ _ e in
        let b = first_fails (ltb 255 (length path)) _ _ a.1 in
        record { some = filled path a.0; few = ltb-false 255 (length path) b.0 }

path_in_read : (path : Text) → IsPath path → path_in path ≡ Ok path
unfolding path_in
path_in_read path good = where_true _ _ _ (ap (λ r. is_itself r path) good ∙ same_text path)

itself_taken : {F : Type 0} (r : Result Text F) (text : Text) → is_itself r text ≡ true → r ≡ Ok text
itself_taken (Ok t) text e = ap Ok ((bytes_eq-Decides t text).0 e)
itself_taken (Err d) text e = absurd cc

path_in_taken : (text path : Text) → path_in text ≡ Ok path → (text ≡ path) × IsPath path
unfolding path_in
path_in_taken text path e =
    let g = test_ok (is_itself (path_of text) text) BadField (Ok text) path e in
    subst (λ (y : Text). (text ≡ y) × IsPath y) (ok_is text path g.1) (refl, itself_taken (path_of text) text g.0)

pub path_read : (path rest : Text) → IsPath path → path_at (path_text path ++ rest) ≡ gives path rest
unfolding path_at
path_read path rest good =
    let size = path_length path good in
    let few : length path ≤ 255 = size.few in
    ap (λ (t : Text). number_at 2 1 255 t >>= λ size. bytes_at size.0 size.1 >>= λ field. path_in field.0 >>= λ p. gives p field.1)
    (append_assoc (big_bytes 2 (length path)) path rest)
    ∙ ap (λ (r : Result (ℕ × Text) WireFault). r >>= λ size. bytes_at size.0 size.1 >>= λ field. path_in field.0 >>= λ p. gives p field.1)
    (number_read 2 1 255 (length path) (path ++ rest) size.some few (omega arith))
    ∙ ap (λ (r : Result (Text × Text) WireFault). r >>= λ field. path_in field.0 >>= λ p. gives p field.1) (bytes_read (length path) path rest refl)
    ∙ ap (λ (r : Result Text WireFault). r >>= λ p. gives p rest) (path_in_read path good)

pub path_taken : (text : Text) (y : Text × Text) → AreBytes text → path_at text ≡ Ok y → Took IsPath path_text text y
unfolding path_at
path_taken text y bytes e =
    let a = bind_ok (number_at 2 1 255 text) (λ size. bytes_at size.0 size.1 >>= λ field. path_in field.0 >>= λ p. gives p field.1) y e in
    let b = bind_ok (bytes_at a.0.0 a.0.1) (λ field. path_in field.0 >>= λ p. gives p field.1) y a.2 in
    let d = bind_ok (path_in b.0.0) (λ p. gives p b.0.1) y b.2 in
    let n = number_taken 2 1 255 text a.0 bytes a.1 in
    let f = bytes_taken a.0.0 a.0.1 b.0 n.bytes b.1 in
    let p = path_in_taken b.0.0 d.0 d.1 in
    subst (λ (z : Text × Text). Took IsPath path_text text z) (ok_is (d.0, b.0.1) y d.2) (record {
      good = p.1;
      spelled = n.spelled ∙ ap (λ (t : Text). big_bytes 2 a.0.0 ++ t) (f.spelled ∙ ap (λ (t : Text). t ++ b.0.1) p.0)
          ∙ ap (λ (m : ℕ). big_bytes 2 m ++ (d.0 ++ b.0.1)) (sym f.size ∙ ap length p.0)
          ∙ sym (append_assoc (big_bytes 2 (length d.0)) d.0 b.0.1);
      bytes = f.bytes;
    })

-- ---- kinds

pub kind_read : (kinds : Text) (kind : ℕ) (rest : Text) → is_one_of kinds kind ≡ true → kind_at kinds (kind ∷ rest) ≡ gives kind rest
unfolding kind_at
kind_read kinds kind rest good =
    ap (λ (r : Result (Text × Text) WireFault). r >>= λ field. cond (is_one_of kinds (slice_index field.0 0)) (gives (slice_index field.0 0) field.1) (Err Kind))
    (bytes_read 1 (kind ∷ []) rest refl)
    ∙ where_true _ _ _ good

-- one of these kinds
abbrev pub IsKind : Text → ℕ → Type 0
IsKind kinds kind = is_one_of kinds kind ≡ true

-- only the byte
abbrev pub byte_text : ℕ → Text
byte_text b = b ∷ []

one_item : (xs : Text) → length xs ≡ 1 → xs ≡ byte_text (slice_index xs 0)
one_item [] size = absurd (omega arith)
one_item (x ∷ []) size = refl
one_item (x ∷ y ∷ xs) size = absurd (omega arith)

pub kind_taken : (kinds text : Text) (y : ℕ × Text) → AreBytes text → kind_at kinds text ≡ Ok y → Took (IsKind kinds) byte_text text y
unfolding kind_at
kind_taken kinds text y bytes e =
    let a = bind_ok (bytes_at 1 text) (λ field. cond (is_one_of kinds (slice_index field.0 0)) (gives (slice_index field.0 0) field.1) (Err Kind)) y e in
    let t = test_ok (is_one_of kinds (slice_index a.0.0 0)) Kind (gives (slice_index a.0.0 0) a.0.1) y a.2 in
    let took = bytes_taken 1 text a.0 bytes a.1 in
    subst (λ (z : ℕ × Text). Took (IsKind kinds) byte_text text z) (ok_is (slice_index a.0.0 0, a.0.1) y t.1) (record {
      good = t.0;
      spelled = took.spelled ∙ ap (λ (t : Text). t ++ a.0.1) (one_item a.0.0 took.size);
      bytes = took.bytes;
    })

-- ---- builds

pub whole_build_read : BuildTextIsReadAgain → (name : Text) (v : Value) → IsBuildOf name v → build_in name (whole_build_of (build_text v)) ≡ Ok v
whole_build_read again name v good =
    ap (build_in name) (again v good.build_is) ∙ where_true _ _ _ (ap (λ (t : Text). bytes_eq t name) good.unit ∙ same_text name)

pub build_read : BuildTextIsReadAgain → (name : Text) (v : Value) (rest : Text) → IsBuildOf name v → build_at name (sized_build v ++ rest) ≡ gives v rest
unfolding build_at
build_read again name v rest good =
    let text = build_text v in
    let fits : length text ≤ most_bytes = good.build_is.fits in
    ap (λ (t : Text). number_at 4 0 most_bytes t >>= λ size. bytes_at size.0 size.1 >>= λ bytes. build_in name (whole_build_of bytes.0) >>= λ build. gives build bytes.1)
    (append_assoc (big_bytes 4 (length text)) text rest)
    ∙ ap (λ (r : Result (ℕ × Text) WireFault). r >>= λ size. bytes_at size.0 size.1 >>= λ bytes. build_in name (whole_build_of bytes.0) >>= λ build. gives build bytes.1)
    (number_read 4 0 most_bytes (length text) (text ++ rest) (omega arith) fits (omega arith))
    ∙ ap (λ (r : Result (Text × Text) WireFault). r >>= λ bytes. build_in name (whole_build_of bytes.0) >>= λ build. gives build bytes.1) (bytes_read (length text) text rest refl)
    ∙ ap (λ (r : Result Value WireFault). r >>= λ build. gives build rest) (whole_build_read again name v good)

-- a build that was parsed is of the unit, and the text is that of the build
pub whole_build_taken : WhatIsReadIsABuild → (name text : Text) (v : Value) → build_in name (whole_build_of text) ≡ Ok v → IsBuildOf name v × (text ≡ build_text v)
whole_build_taken made name text v e =
    let way = of_unit (whole_build_of text) e in
    let is = made text v way.0 in
    (record { build_is = is.0; unit = way.1 }, is.1)
  where
    of_unit : {F : Type 0} (r : Result Value F) → build_in name r ≡ Ok v → (r ≡ Ok v) × (unit_path v ≡ name)
    of_unit (Ok u) e =
        let t = test_ok (bytes_eq (unit_path u) name) BadField (Ok u) v e in
        let same : u ≡ v = ok_is u v t.1 in
        (ap Ok same, ap unit_path (sym same) ∙ (bytes_eq-Decides (unit_path u) name).0 t.0)
    of_unit (Err f) e = absurd cc

pub build_taken : WhatIsReadIsABuild → (name text : Text) (y : Value × Text) → AreBytes text → build_at name text ≡ Ok y → Took (IsBuildOf name) sized_build text y
unfolding build_at
build_taken made name text y bytes e =
    let a = bind_ok (number_at 4 0 most_bytes text) (λ size. bytes_at size.0 size.1 >>= λ bytes. build_in name (whole_build_of bytes.0) >>= λ build. gives build bytes.1) y e in
    let b = bind_ok (bytes_at a.0.0 a.0.1) (λ bytes. build_in name (whole_build_of bytes.0) >>= λ build. gives build bytes.1) y a.2 in
    let d = bind_ok (build_in name (whole_build_of b.0.0)) (λ build. gives build b.0.1) y b.2 in
    let n = number_taken 4 0 most_bytes text a.0 bytes a.1 in
    let f = bytes_taken a.0.0 a.0.1 b.0 n.bytes b.1 in
    let v = whole_build_taken made name b.0.0 d.0 d.1 in
    subst (λ (z : Value × Text). Took (IsBuildOf name) sized_build text z) (ok_is (d.0, b.0.1) y d.2) (record {
      good = v.0;
      spelled = n.spelled ∙ ap (λ (t : Text). big_bytes 4 a.0.0 ++ t) (f.spelled ∙ ap (λ (t : Text). t ++ b.0.1) v.1)
          ∙ ap (λ (m : ℕ). big_bytes 4 m ++ (build_text d.0 ++ b.0.1)) (sym f.size ∙ ap length v.1)
          ∙ sym (append_assoc (big_bytes 4 (length (build_text d.0))) (build_text d.0) b.0.1);
      bytes = f.bytes;
    })
