-- The texts of fields are parsed as these fields.
use Rattle.std.proofs.Common.{◌≡◌, ℕ, ◌+◌, ◌<◌, ◌≤◌, ◌^◌, Bool, true, false, cond, not, ◌&&◌, ◌||◌, eqb, leb, ltb, List, [], ◌∷◌, ◌++◌, length, get_or, take, drop, Result, Ok, Err, refl, sym, ap, ◌∙◌, arith, inl, inr, codes, decimal}
use Rattle.std.specs.Char.{is_ascii_digit}
use Rattle.std.specs.List.{list_all, position_or_len}
use Rattle.std.specs.Str.{bytes_eq}
use Rattle.std.specs.Str.Parse.{digits_value}
use Rattle.std.proofs.lemmas.Bool.{and_from, cases_lt, eq-eqb, le-leb, le-ltb, lt-ltb, ne_eqb, or_right}
use Rattle.std.proofs.lemmas.Fmt.{decimal_digit, decimal_nonempty, digits_decimal, digits_value-decimal, first_decimal}
use Rattle.std.proofs.lemmas.List.{length-append}
use Rattle.std.proofs.lemmas.Slice.Eq.{bytes_eq-Decides}
use Rattle.std.proofs.lemmas.List.Sums.{position_or_len_is}
use Rattle.std.proofs.Math.ListN.{get_or-append}
use Rattle.std.proofs.lemmas.Str.Parse.{numerals_by_value}
use Rattle.std.proofs.Math.Seq.{drop-append-add, drop-append_seam, get_or-append_seam, take-append_seam}
use Rattle.hex.specs.Hex.{IsBytes, encode_lower}
use Rattle.hex.proofs.HexLemmas.{decode_sized-encode_lower}
use Rattle.faults.specs.Bytes.{Text, begins_with, has_byte, is_empty}
use Rattle.claims.specs.PkgName.{IsName}
use Rattle.claims.specs.PkgPath.{IsPath}
use Rattle.claims.specs.declared.claim.Claim.{Claim}
use Rattle.claims.specs.Claim.{IsClaim, greatest_round}
use Rattle.claims.specs.declared.deps.Dep.{Dep}
use Rattle.package_record.specs.Content.{IsDep, most_bytes}
use Rattle.package_record.specs.Reading.{Place, ◌>>=◌, claim_in, cut_in, dependency_in, digest_in, field_at, if_lower, is_itself, is_number, line_at, name_in, number_in, path_in, size_in}
use Rattle.package_record.specs.declared.RecordFault.{RecordFault}
use Rattle.package_record.specs.declared.RecordFault.TheVariants.{BadLine}
use Rattle.package_record.proofs.Lacking.{lacks_all, lacks_failing, name_lacks, path_lacks}
use Rattle.package_record.proofs.Taken.{digits_test}

-- ---- tests that hold

pub where_true : {X : Type 0} (b : Bool) (x y : X) → b ≡ true → cond b x y ≡ x
where_true b x y holds = rw holds refl

pub where_false : {X : Type 0} (b : Bool) (x y : X) → b ≡ false → cond b x y ≡ y
where_false b x y fails = rw fails refl

pub same_text : (text : Text) → bytes_eq text text ≡ true
same_text text = (bytes_eq-Decides text text).1 refl

-- ---- lines

-- the place after n lines, with these lines left
abbrev pub at : ℕ → List Text → Place
at n ls = record { passed = n; lines = ls }

pub line_read : (n : ℕ) (l : Text) (ls : List Text) → 0 < length ls → line_at (at n (l ∷ ls)) ≡ Ok (l, at (n + 1) ls)
unfolding line_at
line_read n l [] more = absurd (omega arith)
line_read n l (m ∷ ls) more = refl

pub begins : (word text : Text) → begins_with word (word ++ text) ≡ true
begins word text = (bytes_eq-Decides word (take (length word) (word ++ text))).1 (sym (take-append_seam word text))

pub field_read : (word text : Text) (n : ℕ) (ls : List Text) → 0 < length ls → field_at word (at n ((word ++ text) ∷ ls)) ≡ Ok (text, at (n + 1) ls)
unfolding field_at
field_read word text n ls more =
    ap (λ (r : Result (Text × Place) RecordFault). r >>= λ line. cond (begins_with word line.0) (Ok (drop (length word) line.0, line.1)) (Err (BadLine line.1.passed))) (line_read n (word ++ text) ls more)
    ∙ where_true (begins_with word (word ++ text)) _ _ (begins word text)
    ∙ ap (λ (t : Text). Ok (t, at (n + 1) ls)) (drop-append_seam word text)

-- ---- fields

first_place : (byte : ℕ) (front behind : Text) → has_byte byte front ≡ false → position_or_len (λ b. eqb b byte) (front ++ byte ∷ behind) ≡ length front
first_place byte front behind lacks =
    position_or_len_is (λ b. eqb b byte) (front ++ byte ∷ behind) (length front) 0 (omega (arith, length-append front (byte ∷ behind)))
    (λ k below. rw (get_or-append front (byte ∷ behind) 0 k below) (lacks_all byte front lacks k 0 below))
    (λ _. ap (λ b. eqb b byte) (get_or-append_seam front byte behind 0) ∙ eq-eqb byte byte refl)

pub cut_read : (byte n : ℕ) (front behind : Text) → has_byte byte front ≡ false → cut_in byte n (front ++ byte ∷ behind) ≡ Ok (front, behind)
unfolding cut_in
cut_read byte n front behind lacks =
    let text = front ++ byte ∷ behind in
    let place = first_place byte front behind lacks in
    where_true (ltb (position_or_len (λ b. eqb b byte) text) (length text)) _ _ (lt-ltb _ _ (omega (arith, place, length-append front (byte ∷ behind))))
    ∙ ap (parts text) place
    ∙ ap (λ (t : Text). Ok (t, drop (length front + 1) text)) (take-append_seam front (byte ∷ behind))
    ∙ ap (λ (t : Text). Ok (front, t)) (drop-append-add front (byte ∷ behind) 1)
  where
    parts : Text → ℕ → Result (Text × Text) RecordFault
    parts text i = Ok (take i text, drop (i + 1) text)

pub path_read : (n : ℕ) (text : Text) → IsPath text → path_in n text ≡ Ok text
unfolding path_in
path_read n text path = where_true _ _ _ (ap (λ r. is_itself r text) path ∙ same_text text)

pub name_read : (n : ℕ) (text : Text) → IsName text → name_in n text ≡ Ok text
unfolding name_in
name_read n text name = where_true _ _ _ (ap (λ r. is_itself r text) name ∙ same_text text)

pub digest_read : (n : ℕ) (digest : List ℕ) → length digest ≡ 32 → IsBytes digest → digest_in n (encode_lower digest) ≡ Ok digest
unfolding digest_in
digest_read n digest size bytes =
    ap (if_lower n (encode_lower digest)) (decode_sized-encode_lower digest 32 size bytes) ∙ where_true _ _ _ (same_text (encode_lower digest))

pub decimal_digits : (v : ℕ) → v < 2 ^ 64 → list_all is_ascii_digit (decimal v) ≡ true
decimal_digits v small = digits_decimal (numerals_by_value (λ ds. list_all is_ascii_digit ds ≡ true) digits_test) v small

pub decimal_value : (v : ℕ) → v < 2 ^ 64 → digits_value 10 (decimal v) ≡ v
decimal_value v small = digits_value-decimal (numerals_by_value (λ ds. list_all is_ascii_digit ds ≡ true) digits_test) v small

filled : (text : Text) → 0 < length text → not (is_empty text) ≡ true
filled [] some = absurd (omega arith)
filled (b ∷ bs) some = refl

no_zero : (text : Text) → 48 < get_or text 0 0 → not (begins_with (codes "0") text) ≡ true
no_zero [] above = absurd (omega arith)
no_zero (c ∷ cs) above = ap (λ b. not (b && true)) (ne_eqb 48 c (omega arith))

pub decimal_number : (v : ℕ) → v < 2 ^ 64 → is_number (decimal v) ≡ true
decimal_number v small =
    and_from _ _ (and_from _ _ (decimal_digits v small) (filled (decimal v) (decimal_nonempty v small))) (elim (cases_lt 0 v) [
      | inl above ↦ or_right (eqb (length (decimal v)) 1) _ (no_zero (decimal v) (first_decimal v above small))
      | inr least ↦
          let zero : v ≡ 0 = omega arith in
          ap (λ (t : Text). eqb (length t) 1 || not (begins_with (codes "0") t)) (ap decimal zero ∙ decimal_digit 0 (omega arith))
    ])

pub number_read : (least greatest n v : ℕ) → greatest < 2 ^ 64 → least ≤ v → v ≤ greatest → number_in least greatest n (decimal v) ≡ Ok v
unfolding number_in
number_read least greatest n v limit low high =
    let small : v < 2 ^ 64 = omega arith in
    let value = decimal_value v small in
    where_true _ _ _ (and_from _ _ (and_from _ _ (decimal_number v small) (ap (leb least) value ∙ le-leb least v low)) (ap (λ d. leb d greatest) value ∙ le-leb v greatest high))
    ∙ ap Ok value

pub size_read : (total n v : ℕ) → total + v ≤ most_bytes → size_in total n (decimal v) ≡ Ok v
unfolding size_in
size_read total n v within =
    let small : v < 2 ^ 64 = omega arith in
    let value = decimal_value v small in
    where_false _ _ _ (ap not (decimal_number v small)) ∙ where_false _ _ _ (ap (λ d. ltb most_bytes (total + d)) value ∙ le-ltb most_bytes (total + v) within) ∙ ap Ok value

pub claim_read : (n : ℕ) (c : Claim) → IsClaim c → claim_in n (decimal c.round ++ 46 ∷ decimal c.member) ≡ Ok c
unfolding claim_in
claim_read n c good =
    let most : c.round ≤ greatest_round = good.round.1 in
    let eight : c.member ≤ 8 = omega (arith, good.member) in
    let lacks : has_byte 46 (decimal c.round) ≡ false = lacks_failing is_ascii_digit 46 (decimal c.round) refl (decimal_digits c.round (omega arith)) in
    rw (
      cut_read 46 n (decimal c.round) (decimal c.member) lacks,
      number_read 1 greatest_round n c.round (omega arith) good.round.0 most,
      number_read 0 8 n c.member (omega arith) (omega arith) eight,
    )

pub dependency_read : (n : ℕ) (d : Dep) → IsDep d → dependency_in n (d.path ++ 32 ∷ (d.name ++ 32 ∷ encode_lower d.digest)) ≡ Ok d
unfolding dependency_in
dependency_read n d good =
    rw (
      cut_read 32 n d.path (d.name ++ 32 ∷ encode_lower d.digest) (path_lacks 32 d.path refl refl refl good.path),
      path_read n d.path good.path,
      cut_read 32 n d.name (encode_lower d.digest) (name_lacks 32 d.name refl good.name),
      name_read n d.name good.name,
      digest_read n d.digest good.digest good.bytes,
    )
