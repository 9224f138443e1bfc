-- Texts of notices are read as they are written.
use Rattle.std.proofs.Common.{◌≡◌, ◌∙◌, ℕ, ◌+◌, ◌<◌, ◌^◌, ◌++◌, [], ◌∷◌, Bool, true, false, ◌&&◌, Option, None, Some, eqb, ap, arith, drop, length, length-append, refl, subst, sym}
use Rattle.std.specs.Prelude.{slice_index}
use Rattle.std.proofs.Math.Bool.{and-false}
use Rattle.std.proofs.Math.Seq.{drop-append-add, get_or-append_seam}
use Rattle.std.proofs.lemmas.List.{append-nil}
use Rattle.byteorder.specs.Endian.{big_bytes, big_number}
use Rattle.byteorder.specs.Numbers.{big_number-reads_back, length-bytes_high_first}
use Rattle.faults.specs.Bytes.{Text}
use Rattle.udp.specs.Inbox.{came_as}
use Rattle.udp.specs.Notices.{IsNoticeOf, is_notice, notice_text}
use Rattle.udp.specs.declared.notice.Listing.{Listing}
use Rattle.udp.specs.declared.notice.Notice.{Notice}

-- a digest has 32 bytes, so a notice has 41
pub length-notice_text : (digest : Text) (notice : Notice) → length digest ≡ 32 → length (notice_text digest notice) ≡ 41
length-notice_text digest notice long =
    let rest = length-append digest (notice.member ∷ big_bytes 4 notice.unit) in
    let unit = length-bytes_high_first 4 notice.unit in
    omega (arith, long, rest, unit)

-- so in 41 bytes the digest has 32
pub length-digest : (digest text : Text) (notice : Notice) → length text ≡ 41 → text ≡ notice_text digest notice → length digest ≡ 32
length-digest digest text notice long is =
    let same : length text ≡ length (notice_text digest notice) = ap length is in
    let rest = length-append digest (notice.member ∷ big_bytes 4 notice.unit) in
    let unit = length-bytes_high_first 4 notice.unit in
    omega (arith, long, same, rest, unit)

-- the number of the member is at place 36
pub member_at : (digest : Text) (notice : Notice) → length digest ≡ 32 → slice_index (notice_text digest notice) 36 ≡ notice.member
member_at digest notice long =
    subst (λ (n : ℕ). slice_index (digest ++ notice.member ∷ big_bytes 4 notice.unit) n ≡ notice.member) long
    (get_or-append_seam digest notice.member (big_bytes 4 notice.unit) 0)

-- the number of the unit is in the bytes behind it
pub unit_at : (digest : Text) (notice : Notice) → length digest ≡ 32 → notice.unit < 2 ^ 32 → big_number 4 (drop 37 (notice_text digest notice)) ≡ notice.unit
unit_at digest notice long small =
    let bytes = big_bytes 4 notice.unit in
    let behind : drop 33 (digest ++ notice.member ∷ bytes) ≡ bytes =
    subst (λ (n : ℕ). drop (n + 1) (digest ++ notice.member ∷ bytes) ≡ bytes) long (drop-append-add digest (notice.member ∷ bytes) 1) in
    ap (big_number 4) (behind ∙ sym (append-nil bytes)) ∙ big_number-reads_back 4 notice.unit [] small

-- a notice is its two numbers
pub same_notice : (a b : Notice) → a.member ≡ b.member → a.unit ≡ b.unit → a ≡ b
same_notice a b member unit =
    ap (λ (m : ℕ). let n : Notice = record { member = m; unit = a.unit } in n) member
    ∙ ap (λ (u : ℕ). let n : Notice = record { member = b.member; unit = u } in n) unit

-- the notice that is read from these places is the only one
pub is_read_one : (listing : Listing) (text : Text) (read notice : Notice) → length listing.digest ≡ 32 → listing.units < 2 ^ 32
    → read.member ≡ slice_index text 36 → read.unit ≡ big_number 4 (drop 37 text) → IsNoticeOf listing text notice → read ≡ notice
is_read_one listing text read notice long few member unit is =
    let one : read.member ≡ notice.member =
    member ∙ (ap (λ (t : Text). slice_index t 36) is.0 ∙ member_at listing.digest notice long) in
    let other : read.unit ≡ notice.unit =
    unit ∙ (ap (λ (t : Text). big_number 4 (drop 37 t)) is.0 ∙ unit_at listing.digest notice long (omega (arith, is.1))) in
    same_notice read notice one other

-- fewer than four bytes don't begin as a notice does
two_of_four : (a b : Bool) → (a && (b && false)) ≡ false
two_of_four true b = and-false b
two_of_four false b = refl

three_of_four : (a b c : Bool) → (a && (b && (c && false))) ≡ false
three_of_four true b c = two_of_four b c
three_of_four false b c = refl

-- a text that doesn't begin as a notice does, if its bytes in a datagram don't
pub plain_text : (key : Option Text) (text : Text) → is_notice (came_as key text) ≡ false → is_notice text ≡ false
plain_text None text plain = plain
plain_text (Some key) [] plain = refl
plain_text (Some key) (a ∷ []) plain = and-false (eqb 68 a)
plain_text (Some key) (a ∷ b ∷ []) plain = two_of_four (eqb 68 a) (eqb 80 b)
plain_text (Some key) (a ∷ b ∷ c ∷ []) plain = three_of_four (eqb 68 a) (eqb 80 b) (eqb 66 c)
plain_text (Some key) (a ∷ b ∷ c ∷ d ∷ text) plain = plain
