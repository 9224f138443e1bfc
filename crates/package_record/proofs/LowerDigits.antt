-- Pairs of lower-case hexadecimal digits.
use Rattle.std.proofs.Common.{◌≡◌, ℕ, zero, suc, ◌+◌, ◌*◌, ◌/◌, ◌%◌, ◌<◌, ◌≤◌, List, [], ◌∷◌, ◌++◌, length, take, slice_index, slice_set, Ok, refl, sym, ap, ◌∙◌, arith}
use Rattle.std.proofs.lemmas.List.{append_assoc, take_all, take_more, take_more_set, length-set}
use Rattle.hex.specs.Hex.{IsBytes, decode_of, decode_sized, encode_lower, encode_with, lower_digits}
use Rattle.hex.proofs.HexLemmas.{decode_of-encode_lower, decode_of-ok, decode_sized-ok, decode_sized-twice, length-encode_with}
use Rattle.package_record.proofs.Digests.{bytes-append}

encode_with-append : (t xs ys : List ℕ) → encode_with t (xs ++ ys) ≡ encode_with t xs ++ encode_with t ys
unfolding encode_with
encode_with-append t [] ys = refl
encode_with-append t (x ∷ xs) ys = ap (λ rest. slice_index t (x / 16) ∷ slice_index t (x % 16) ∷ rest) (encode_with-append t xs ys)

-- the digits of one byte
encode_with-one : (t : List ℕ) (high low : ℕ) → low < 16 → encode_with t ((high * 16 + low) ∷ []) ≡ slice_index t high ∷ slice_index t low ∷ []
unfolding encode_with
encode_with-one t high low lt =
    let front : (high * 16 + low) / 16 ≡ high = omega arith in
    let behind : (high * 16 + low) % 16 ≡ low = omega arith in
    rw (front, behind) refl

take-two : (xs : List ℕ) (i : ℕ) → i + 1 < length xs → take (i + 2) xs ≡ take i xs ++ (slice_index xs i ∷ slice_index xs (i + 1) ∷ [])
take-two xs i within =
    let two : i + 2 ≡ i + 1 + 1 = omega arith in
    rw (two, take_more xs (i + 1) 0 within, take_more xs i 0 (omega arith)) (append_assoc (take i xs) _ _)

one_byte : (byte : ℕ) → byte < 256 → IsBytes (byte ∷ [])
one_byte byte small zero = small
one_byte byte small (suc i) = omega arith

-- one more byte is decoded
pub one_more_read : (text bytes : List ℕ) (i high low : ℕ) → 2 * i + 1 < length text → i < length bytes → low < 16
    → slice_index lower_digits high ≡ slice_index text (2 * i) → slice_index lower_digits low ≡ slice_index text (2 * i + 1)
    → encode_lower (take i bytes) ≡ take (2 * i) text
    → encode_lower (take (i + 1) (slice_set bytes i (high * 16 + low))) ≡ take (2 * (i + 1)) text
one_more_read text bytes i high low within room fits front behind before =
    let two : 2 * (i + 1) ≡ 2 * i + 2 = omega arith in
    rw (two, take-two text (2 * i) within, take_more_set bytes i (high * 16 + low) room, encode_with-append lower_digits (take i bytes) ((high * 16 + low) ∷ []), encode_with-one lower_digits high low fits, before, front, behind) refl

-- one more byte is encoded
pub one_more_written : (bytes text : List ℕ) (i high low : ℕ) → i < length bytes → 2 * i + 1 < length text
    → high ≡ slice_index lower_digits (slice_index bytes i / 16) → low ≡ slice_index lower_digits (slice_index bytes i % 16)
    → encode_lower (take i bytes) ≡ take (2 * i) text
    → encode_lower (take (i + 1) bytes) ≡ take (2 * (i + 1)) (slice_set (slice_set text (2 * i) high) (2 * i + 1) low)
unfolding encode_with
one_more_written bytes text i high low within room front behind before =
    let two : 2 * (i + 1) ≡ 2 * i + 1 + 1 = omega arith in
    let set : length (slice_set text (2 * i) high) ≡ length text = length-set text (2 * i) high in
    rw (two, take_more_set (slice_set text (2 * i) high) (2 * i + 1) low (omega arith), take_more_set text (2 * i) high (omega arith), take_more bytes i 0 within, encode_with-append lower_digits (take i bytes) (slice_index bytes i ∷ []), before, front, behind) (sym (append_assoc (take (2 * i) text) _ _))

-- all bytes are encoded
pub whole_written : (bytes text : List ℕ) (i : ℕ) → length bytes ≡ 32 → length text ≡ 64 → 32 ≤ i
    → encode_lower (take i bytes) ≡ take (2 * i) text → text ≡ encode_lower bytes
whole_written bytes text i size long done written =
    sym (rw (take_all i bytes (omega arith), take_all (2 * i) text (omega arith)) at written)

-- the digits of a byte are at its place
digits_at : (t bytes : List ℕ) (i : ℕ) → i < length bytes
    → (slice_index (encode_with t bytes) (2 * i) ≡ slice_index t (slice_index bytes i / 16))
    × (slice_index (encode_with t bytes) (2 * i + 1) ≡ slice_index t (slice_index bytes i % 16))
unfolding encode_with
digits_at t [] i within = absurd (omega arith)
digits_at t (x ∷ xs) zero within = (refl, refl)
digits_at t (x ∷ xs) (suc i) within =
    let two : 2 * suc i ≡ suc (suc (2 * i)) = omega arith in
    let three : 2 * suc i + 1 ≡ suc (suc (2 * i + 1)) = omega arith in
    rw (three, two) (digits_at t xs i (omega arith))

-- if the text is that of some bytes, its digits are found
pub both_found : (text bytes : List ℕ) (i high low : ℕ) → IsBytes bytes → encode_lower bytes ≡ text → 2 * i + 1 < length text
    → ((value : ℕ) → value < 16 → slice_index lower_digits value ≡ slice_index text (2 * i) → high ≡ value)
    → ((value : ℕ) → value < 16 → slice_index lower_digits value ≡ slice_index text (2 * i + 1) → low ≡ value)
    → (high < 16) × (low < 16)
both_found text bytes i high low fits written within front behind =
    let twice = length-encode_with lower_digits bytes in
    let long : length (encode_lower bytes) ≡ length text = ap length written in
    let digits = digits_at lower_digits bytes i (omega (arith, twice, long)) in
    let small = fits i in
    let first = front (slice_index bytes i / 16) (omega arith) (sym digits.0 ∙ ap (λ xs. slice_index xs (2 * i)) written) in
    let second = behind (slice_index bytes i % 16) (omega arith) (sym digits.1 ∙ ap (λ xs. slice_index xs (2 * i + 1)) written) in
    (omega arith, omega arith)

-- one byte more
pub one_more_byte : (bytes : List ℕ) (i byte : ℕ) → i < length bytes → byte < 256 → IsBytes (take i bytes) → IsBytes (take (i + 1) (slice_set bytes i byte))
one_more_byte bytes i byte room small before =
    rw (take_more_set bytes i byte room) (bytes-append (take i bytes) (byte ∷ []) before (one_byte byte small))

-- all digits are decoded
pub whole_read : (text bytes : List ℕ) (i : ℕ) → length bytes ≡ 32 → length text ≡ 64 → 32 ≤ i → IsBytes (take i bytes)
    → encode_lower (take i bytes) ≡ take (2 * i) text → (decode_sized text 32 ≡ Ok bytes) × (encode_lower bytes ≡ text)
whole_read text bytes i size long done fits read =
    let written : encode_lower bytes ≡ text = rw (take_all i bytes (omega arith), take_all (2 * i) text (omega arith)) at read in
    let all : IsBytes bytes = rw (take_all i bytes (omega arith)) at fits in
    (decode_sized-twice text 32 long ∙ ap decode_of (sym written) ∙ decode_of-encode_lower bytes all, written)

-- decoding a text gives bytes
pub decoded_bytes : (text bytes : List ℕ) → decode_sized text 32 ≡ Ok bytes → (length text ≡ 64) × IsBytes bytes
decoded_bytes text bytes read =
    let long = decode_sized-ok text 32 bytes read in
    (long, (decode_of-ok text bytes (sym (decode_sized-twice text 32 long) ∙ read)).3)
