-- Texts followed by seals.
use Rattle.std.proofs.Common.{◌≡◌, ◌∙◌, ℕ, ◌+◌, ◌-◌, ◌<◌, List, ◌++◌, ap, arith, drop, length, length-append, sym, take}
use Rattle.std.proofs.Math.Seq.{drop-append_seam, take-append_seam}
use Rattle.std.proofs.lemmas.List.{append_cancel_left}
use Rattle.seals.proofs.Lengths.{length-hmac}
use Rattle.seals.specs.Hmac.{hmac}
use Rattle.seals.specs.Sealed.{sealed}

-- equal lists have equal parts if the first parts have the same length
pub parts_by_length : (xs ys s t : List ℕ) → length xs ≡ length ys → xs ++ s ≡ ys ++ t
    → (xs ≡ ys) × (s ≡ t)
parts_by_length xs ys s t lengths same =
    let front : xs ≡ ys =
    sym (take-append_seam xs s) ∙ (ap (take (length xs)) same
    ∙ (ap (λ n. take n (ys ++ t)) lengths ∙ take-append_seam ys t)) in
    (front, append_cancel_left ys s t (rw front at same))

-- a seal has 32 bytes
pub length-sealed : (key text : List ℕ) → length (sealed key text) ≡ length text + 32
length-sealed key text =
    length-append text (hmac key text) ∙ ap (λ n. length text + n) (length-hmac key text)

-- a sealed text determines its text
pub sealed-text : (key other text another : List ℕ) → sealed key text ≡ sealed other another
    → text ≡ another
sealed-text key other text another same =
    let long = length-sealed key text in
    let long_other = length-sealed other another in
    let equal = ap length same in
    let lengths : length text ≡ length another = omega arith in
    (parts_by_length text another (hmac key text) (hmac other another) lengths same).0

-- fewer bytes than a seal has aren't a sealed text
pub sealed-short : (key text bytes : List ℕ) → length bytes < 32 → ¬ (bytes ≡ sealed key text)
sealed-short key text bytes short is =
    let long = ap length is ∙ length-sealed key text in
    omega arith

-- a sealed text is the text before the last 32 bytes, and then its seal
pub sealed-parts : (key text bytes front back : List ℕ)
    → front ≡ take (length bytes - 32) bytes → back ≡ drop (length bytes - 32) bytes
    → bytes ≡ sealed key text → (front ≡ text) × (hmac key front ≡ back)
sealed-parts key text bytes front back is_front is_back is =
    let long = ap length is ∙ length-sealed key text in
    let at : length bytes - 32 ≡ length text = omega arith in
    let is_text : front ≡ text =
    is_front ∙ (ap (λ n. take n bytes) at
    ∙ (ap (take (length text)) is ∙ take-append_seam text (hmac key text))) in
    let is_seal : back ≡ hmac key text =
    is_back ∙ (ap (λ n. drop n bytes) at
    ∙ (ap (drop (length text)) is ∙ drop-append_seam text (hmac key text))) in
    (is_text, ap (hmac key) is_text ∙ sym is_seal)
