-- The words of a value, one after another.
use Rattle.std.proofs.Common.{◌≡◌, ◌<◌, ◌≤◌, ◌+◌, ℕ, zero, suc, Bool, true, false, not, nat_lt, List, [], ◌∷◌, length, take, drop, filter, position, get_or, None, Some, refl, ap, sym, ◌∙◌, arith}
use Rattle.std.specs.List.{position_or_len, slice_split}
use Rattle.std.proofs.lemmas.Bool.{ltb-false}
use Rattle.std.proofs.lemmas.List.{drop_all, get_or-drop, length-drop, length-take-le}
use Rattle.std.proofs.lemmas.List.Quantifiers.{position-Some}
use Rattle.std.proofs.lemmas.List.Splits.{slice_split-cons_yes}
use Rattle.std.proofs.lemmas.List.Sums.{fails_before_first}
use Rattle.faults.specs.Bytes.{Text, blank, is_empty, tab}
use Rattle.faults.proofs.FirstPlaces.{first_place, pieces_from_None, pieces_from_Some}
use Rattle.memchr.specs.Find.{IsFirstByte, is_byte2}
use Rattle.listing.specs.Dependencies.{words_of}
use Rattle.listing.specs.Lines.{is_blank}
use Rattle.listing.proofs.Places.{from_none}

-- the non-empty pieces
abbrev pub said : List Text → List Text
said pieces = filter (λ w. not (is_empty w)) pieces

not_false : (b : Bool) → not b ≡ false → b ≡ true
not_false true h = refl
not_false false h = cc

-- a non-empty piece is a word
said_first : (piece : Text) (pieces : List Text) → 0 < length piece → said (piece ∷ pieces) ≡ piece ∷ said pieces
said_first [] pieces l = absurd (omega arith)
said_first (b ∷ piece) pieces l = refl

-- searching for two bytes is searching for blanks
either_blank : (b : ℕ) → is_byte2 blank tab b ≡ is_blank b
either_blank b = search (arith)

-- blanks before a word contribute no words
blanks_say_nothing : (value : Text) (s : ℕ) → s ≤ length value → ((k : ℕ) → k < s → is_blank (get_or value k 0) ≡ true) → words_of value ≡ words_of (drop s value)
blanks_say_nothing value zero le front = refl
blanks_say_nothing [] (suc s) le front = absurd (omega arith)
blanks_say_nothing (x ∷ value) (suc s) le front =
    ap said (slice_split-cons_yes is_blank x value (front zero (omega arith)))
    ∙ blanks_say_nothing value s (omega arith) (λ k l. front (suc k) (omega arith))

-- a value of blanks has no word
pub no_word : (value : Text) → position (λ b. not (is_blank b)) value ≡ None → words_of value ≡ []
no_word value e =
    let far = ltb-false _ _ (from_none (nat_lt (position_or_len (λ b. not (is_blank b)) value) (length value)) (position_or_len (λ b. not (is_blank b)) value) e) in
    blanks_say_nothing value (length value) (omega arith)
    (λ k l. not_false (is_blank (get_or value k 0)) (fails_before_first (λ b. not (is_blank b)) value k 0 (omega (arith, far))))
    ∙ ap words_of (drop_all (length value) value (omega arith))

-- a value has the same words from its first non-blank byte on
words_from : (value : Text) (s : ℕ) → position (λ b. not (is_blank b)) value ≡ Some s → words_of value ≡ words_of (drop s value)
words_from value s e =
    let found = position-Some (λ b. not (is_blank b)) value s 0 e in
    blanks_say_nothing value s (omega (arith, found.0)) (λ k l. not_false (is_blank (get_or value k 0)) (found.2 k l))

clash : (b : Bool) → not b ≡ true → b ≡ true → ⊥
clash true h e = cc
clash false h e = cc

-- if the first byte is not blank, the first blank is not at index 0
not_at_front : (text : Text) → not (is_blank (get_or text 0 0)) ≡ true → (e : ℕ) → is_byte2 blank tab (get_or text e 0) ≡ true → 0 < e
not_at_front text h zero passes = absurd (clash (is_blank (get_or text 0 0)) h (sym (either_blank (get_or text 0 0)) ∙ passes))
not_at_front text h (suc e) passes = omega arith

-- the first non-blank byte is the first byte of the rest
at_front : (value : Text) (s : ℕ) → not (is_blank (get_or value s 0)) ≡ true → not (is_blank (get_or (drop s value) 0 0)) ≡ true
at_front value s h =
    let place : s + 0 ≡ s = omega arith in
    ap (λ b. not (is_blank b)) (get_or-drop s value 0 0 ∙ ap (λ i. get_or value i 0) place) ∙ h

-- the word up to a blank, and the text after it
pub word_and_more : (value : Text) (s e : ℕ) → position (λ b. not (is_blank b)) value ≡ Some s
    → IsFirstByte (is_byte2 blank tab) (drop s value) (Some e)
    → words_of value ≡ take e (drop s value) ∷ words_of (drop (e + 1) (drop s value))
word_and_more value s e start end =
    let found = position-Some (λ b. not (is_blank b)) value s 0 start in
    let at : position is_blank (drop s value) ≡ Some e = ap (λ p. position p (drop s value)) (λ i b. sym (either_blank b) i) ∙ first_place (is_byte2 blank tab) (drop s value) (Some e) end in
    words_from value s start ∙ ap said (pieces_from_Some is_blank (drop s value) e at)
    ∙ said_first (take e (drop s value)) (slice_split is_blank (drop (e + 1) (drop s value)))
    (omega (arith, length-take-le e (drop s value) (omega (arith, end.0.high)), not_at_front (drop s value) (at_front value s found.1) e end.1))

-- a word at the end of the value
pub last_word : (value : Text) (s : ℕ) → position (λ b. not (is_blank b)) value ≡ Some s
    → IsFirstByte (is_byte2 blank tab) (drop s value) None → words_of value ≡ drop s value ∷ []
last_word value s start end =
    let at : position is_blank (drop s value) ≡ None = ap (λ p. position p (drop s value)) (λ i b. sym (either_blank b) i) ∙ first_place (is_byte2 blank tab) (drop s value) None end in
    let found = position-Some (λ b. not (is_blank b)) value s 0 start in
    words_from value s start ∙ ap said (pieces_from_None is_blank (drop s value) at)
    ∙ said_first (drop s value) [] (omega (arith, length-drop s value, found.0))
