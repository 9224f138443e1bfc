-- A line feed after a text changes none of its tokens, and so not its value.
use Rattle.std.proofs.Common.{◌≡◌, ℕ, zero, suc, ◌+◌, ◌-◌, Bool, true, false, cond, ◌&&◌, ◌||◌, ◌==◌, List, [], ◌∷◌, ◌++◌, length, take, drop, get_or, Option, Some, None, option_map, option_and_then, nat_lt, IsUtf8, subst, refl, sym, ap, ap₂, ◌∙◌, arith}
use Rattle.std.proofs.Math.Seq.{drop-nil, get_or-append_seam, take-append_seam}
use Rattle.std.proofs.lemmas.List.{length-append, take-append-le}
use Rattle.std.proofs.lemmas.Str.{IsCharBoundary-before_ascii, IsUtf8-append, IsUtf8-encode, IsUtf8-from_is_utf8, IsUtf8-take, encode_ascii, is_utf8-from_IsUtf8}
use Rattle.std.specs.Char.{encode_utf8, is_ascii_digit, is_digit}
use Rattle.std.specs.List.{prefix_len, starts_with}
use Rattle.std.specs.Prelude.{if◌then◌else◌, nat_eq}
use Rattle.std.specs.Str.{is_utf8}
use Rattle.faults.specs.Bytes.{Text, line_feed}
use Rattle.json.specs.Ascii as ascii
use Rattle.json.specs.Lex.{Class, backslash, operator, other, quote, space, Lexeme, Mode, between, in_escape, in_string, in_word, fresh, class, lex, lex_byte, operator_lexeme, punctuate, string_token, token}
use Rattle.json.specs.Text.{Within, after_backslash, after_high, after_u, plain, code_unit, content, is_high_surrogate, is_low_surrogate, prepend, short_escape, surrogate_pair}
use Rattle.json.specs.Token.{Token, boolean, null, number, bad}
use Rattle.json.specs.Word.{after_digits, after_exponent, after_fraction, after_minus, after_number, after_sign, after_whole, ends_word, literal, number_before, word}
use Rattle.json.specs.Json.{if_last, value}
use Rattle.serde_json.specs.Read.{max_depth, of_json, read}
use Rattle.traces.specs.Builds.{builds_of, packages_of}
use Rattle.traces.specs.Fields.{◌>>=◌}
use Rattle.traces.specs.Trace.{outer_in, trace_from, trace_of, value_of}

-- the text followed by a line feed
abbrev fed : List ℕ → List ℕ
fed t = t ++ 10 ∷ []

-- ---- parts of a number: each takes the same number of bytes

-- if both branches leave the same, so does the choice
either : (b : Bool) (s t u v : Option (List ℕ)) → s ≡ option_map fed t → u ≡ option_map fed v → cond b s u ≡ option_map fed (cond b t v)
either true s t u v first second = first
either false s t u v first second = second

-- one part after the other
in_turn : (f : List ℕ → Option (List ℕ)) → ((t : List ℕ) → f (fed t) ≡ option_map fed (f t)) → (o : Option (List ℕ)) → option_and_then f (option_map fed o) ≡ option_map fed (option_and_then f o)
in_turn f same None = refl
in_turn f same (Some t) = same t

-- the number of leading digits is the same
digits_fed : (t : List ℕ) → prefix_len is_ascii_digit (fed t) ≡ prefix_len is_ascii_digit t
digits_fed [] = refl
digits_fed (x ∷ xs) = ap (λ n. cond (is_ascii_digit x) (1 + n) 0) (digits_fed xs)

-- what follows a digit and this number of bytes
rest_at : (b : Bool) (x : ℕ) (xs : List ℕ) (n : ℕ) → drop n (fed xs) ≡ fed (drop n xs) → drop (cond b (1 + n) 0) (fed (x ∷ xs)) ≡ fed (drop (cond b (1 + n) 0) (x ∷ xs))
rest_at true x xs n same = let e : 1 + n ≡ suc n = omega arith in rw e same
rest_at false x xs n same = refl

-- what follows the digits
rest_fed : (t : List ℕ) → drop (prefix_len is_ascii_digit t) (fed t) ≡ fed (drop (prefix_len is_ascii_digit t) t)
rest_fed [] = refl
rest_fed (x ∷ xs) = rest_at (is_ascii_digit x) x xs (prefix_len is_ascii_digit xs) (rest_fed xs)

-- some digits
after_digits_fed : (t : List ℕ) → after_digits (fed t) ≡ option_map fed (after_digits t)
after_digits_fed t =
    ap (λ n. cond (n == 0) None (Some (drop n (fed t)))) (digits_fed t)
    ∙ either (prefix_len is_ascii_digit t == 0) None None (Some (drop (prefix_len is_ascii_digit t) (fed t))) (Some (drop (prefix_len is_ascii_digit t) t)) refl (ap Some (rest_fed t))

-- an optional first byte
skipped : (b : Bool) (x : ℕ) (xs : List ℕ) → cond b (drop 1 (fed (x ∷ xs))) (fed (x ∷ xs)) ≡ fed (cond b (drop 1 (x ∷ xs)) (x ∷ xs))
skipped true x xs = refl
skipped false x xs = refl

-- a minus
after_minus_fed : (t : List ℕ) → after_minus (fed t) ≡ fed (after_minus t)
after_minus_fed [] = refl
after_minus_fed (x ∷ xs) = skipped (x == 45) x xs

-- a minus or plus
after_sign_fed : (t : List ℕ) → after_sign (fed t) ≡ fed (after_sign t)
after_sign_fed [] = refl
after_sign_fed (x ∷ xs) = skipped ((x == 45) || (x == 43)) x xs

-- the whole part
after_whole_fed : (t : List ℕ) → after_whole (fed t) ≡ option_map fed (after_whole t)
after_whole_fed [] = refl
after_whole_fed (x ∷ xs) = either (x == 48) (Some (fed xs)) (Some xs) (after_digits (fed (x ∷ xs))) (after_digits (x ∷ xs)) refl (after_digits_fed (x ∷ xs))

-- the fraction
after_fraction_fed : (t : List ℕ) → after_fraction (fed t) ≡ option_map fed (after_fraction t)
after_fraction_fed [] = refl
after_fraction_fed (x ∷ xs) = either (x == 46) (after_digits (fed xs)) (after_digits xs) (Some (fed (x ∷ xs))) (Some (x ∷ xs)) (after_digits_fed xs) refl

-- the exponent
after_exponent_fed : (t : List ℕ) → after_exponent (fed t) ≡ option_map fed (after_exponent t)
after_exponent_fed [] = refl
after_exponent_fed (x ∷ xs) =
    either ((x == 101) || (x == 69)) (after_digits (after_sign (fed xs))) (after_digits (after_sign xs)) (Some (fed (x ∷ xs))) (Some (x ∷ xs)) (ap after_digits (after_sign_fed xs) ∙ after_digits_fed (after_sign xs)) refl

-- the number
after_number_fed : (t : List ℕ) → after_number (fed t) ≡ option_map fed (after_number t)
unfolding after_number
after_number_fed t =
    ap (λ u. option_and_then after_exponent (option_and_then after_fraction (after_whole u))) (after_minus_fed t)
    ∙ ap (λ o. option_and_then after_exponent (option_and_then after_fraction o)) (after_whole_fed (after_minus t))
    ∙ ap (option_and_then after_exponent) (in_turn after_fraction after_fraction_fed (after_whole (after_minus t)))
    ∙ in_turn after_exponent after_exponent_fed (option_and_then after_fraction (after_whole (after_minus t)))

-- ---- words

-- a word ends at a line feed, as at the end
ends_fed : (t : List ℕ) → ends_word (fed t) ≡ ends_word t
ends_fed [] = refl
ends_fed (x ∷ xs) = refl

-- also after its first bytes, whether they exist or not
drop_ends_fed : (n : ℕ) (t : List ℕ) → ends_word (drop n (fed t)) ≡ ends_word (drop n t)
drop_ends_fed zero t = ends_fed t
drop_ends_fed (suc n) [] = ap ends_word (drop-nil n) ∙ sym (ap ends_word (drop-nil (suc n)))
drop_ends_fed (suc n) (x ∷ xs) = drop_ends_fed n xs

-- this number of bytes, without the rest
taken : (t rest : List ℕ) → take (length (fed t) - length (fed rest)) (fed t) ≡ take (length t - length rest) t
taken t rest =
    let n : length (fed t) - length (fed rest) ≡ length t - length rest = omega (arith, length-append t (10 ∷ []), length-append rest (10 ∷ [])) in
    ap (λ k. take k (fed t)) n ∙ take-append-le (length t - length rest) t (10 ∷ []) (omega arith)

-- the number that ends before the rest
number_before_fed : (t : List ℕ) (o : Option (List ℕ)) → number_before (fed t) (option_map fed o) ≡ number_before t o
number_before_fed t None = refl
number_before_fed t (Some rest) = ap₂ (λ b s. cond b (number s) bad) (ends_fed rest) (taken t rest)

-- no byte of the name is a line feed
abbrev Feedless : List ℕ → Type 0
Feedless [] = Unit
Feedless (x ∷ xs) = ((x == 10) ≡ false) × Feedless xs

-- such a name is at the front if it was before
starts_fed : (t name : List ℕ) → Feedless name → starts_with nat_eq (fed t) name ≡ starts_with nat_eq t name
starts_fed t [] none = refl
starts_fed [] (n ∷ ns) none = rw none.0 refl
starts_fed (x ∷ xs) (n ∷ ns) none = ap (λ b. (n == x) && b) (starts_fed xs ns none.1)

-- such a literal
literal_fed : (name : List ℕ) (k : Token) (t : List ℕ) → Feedless name → literal name k (fed t) ≡ literal name k t
literal_fed name k t none = ap₂ (λ b c. cond (b && c) k bad) (starts_fed t name none) (drop_ends_fed (length name) t)

-- a word that is a number, if it is one
number_fed : (t : List ℕ) → number_before (fed t) (after_number (fed t)) ≡ number_before t (after_number t)
number_fed t = ap (number_before (fed t)) (after_number_fed t) ∙ number_before_fed t (after_number t)

-- each word
word_fed : (x : ℕ) (xs : List ℕ) → word (x ∷ fed xs) ≡ word (x ∷ xs)
unfolding word
word_fed x xs =
    let t = x ∷ xs in
    ap₂ (λ a b. cond (x == 116) a b) (literal_fed ascii.true_text (boolean true) t (refl, (refl, (refl, (refl, tt)))))
    (ap₂ (λ a b. cond (x == 102) a b) (literal_fed ascii.false_text (boolean false) t (refl, (refl, (refl, (refl, (refl, tt))))))
    (ap₂ (λ a b. cond (x == 110) a b) (literal_fed ascii.null_text null t (refl, (refl, (refl, (refl, tt))))) (number_fed t)))

-- ---- what is between quotes

-- continuations that agree
alike : {A B : Type 0} (f g : A → Option B) → ((a : A) → f a ≡ g a) → (o : Option A) → option_and_then f o ≡ option_and_then g o
alike f g same None = refl
alike f g same (Some a) = same a

-- a test that fails at its last part
fails_last : (a b c : Bool) → (a && b && c && false) ≡ false
fails_last false b c = refl
fails_last true false c = refl
fails_last true true false = refl
fails_last true true true = refl

-- a line feed is not a digit
unit_cut : (a b c : ℕ) → code_unit a b c 10 ≡ None
unfolding code_unit
unit_cut a b c = rw (fails_last (is_digit a 16) (is_digit b 16) (is_digit c 16)) refl

-- what the digits of a unit are followed by
abbrev unit_read : List ℕ → ℕ → Option (List ℕ)
unit_read xs u = cond (is_high_surrogate u) (content (after_high u) xs) (cond (is_low_surrogate u) None (prepend (encode_utf8 u) (content plain xs)))

-- what the digits of a pair's second unit are followed by
abbrev pair_read : ℕ → List ℕ → ℕ → Option (List ℕ)
pair_read h xs l = cond (is_low_surrogate l) (prepend (encode_utf8 (surrogate_pair h l)) (content plain xs)) None

-- None, in both branches
never : {A : Type 0} (b : Bool) {o : Option A} → o ≡ None → cond b o None ≡ None
never true is = is
never false is = refl

-- an open quote stays open: a line feed neither closes it nor may occur in it
content_fed : (w : Within) (xs : List ℕ) → content w (fed xs) ≡ content w xs
unfolding content short_escape
content_fed plain [] = refl
content_fed plain (x ∷ xs) =
    ap₂ (λ a b. cond (x == 34) (Some []) (cond (x == 92) a (cond (nat_lt x 32) None (prepend (x ∷ []) b)))) (content_fed after_backslash xs) (content_fed plain xs)
content_fed after_backslash [] = refl
content_fed after_backslash (x ∷ xs) =
    ap₂ (λ a b. cond (x == 117) a (option_and_then (λ c. prepend (c ∷ []) b) (short_escape x))) (content_fed after_u xs) (content_fed plain xs)
content_fed after_u [] = refl
content_fed after_u (a ∷ []) = refl
content_fed after_u (a ∷ b ∷ []) = refl
content_fed after_u (a ∷ b ∷ c ∷ []) = ap (option_and_then (unit_read [])) (unit_cut a b c)
content_fed after_u (a ∷ b ∷ c ∷ d ∷ xs) = alike (unit_read (fed xs)) (unit_read xs) (λ u. ap₂ (λ k l. cond (is_high_surrogate u) k (cond (is_low_surrogate u) None (prepend (encode_utf8 u) l))) (content_fed (after_high u) xs) (content_fed plain xs)) (code_unit a b c d)
content_fed (after_high h) [] = refl
content_fed (after_high h) (s ∷ []) = refl
content_fed (after_high h) (s ∷ u ∷ []) = refl
content_fed (after_high h) (s ∷ u ∷ a ∷ []) = refl
content_fed (after_high h) (s ∷ u ∷ a ∷ b ∷ []) = refl
content_fed (after_high h) (s ∷ u ∷ a ∷ b ∷ c ∷ []) = never ((s == 92) && (u == 117)) (ap (option_and_then (pair_read h [])) (unit_cut a b c))
content_fed (after_high h) (s ∷ u ∷ a ∷ b ∷ c ∷ d ∷ xs) =
    ap (λ o. cond ((s == 92) && (u == 117)) o None)
    (alike (pair_read h (fed xs)) (pair_read h xs) (λ l. ap (λ k. cond (is_low_surrogate l) (prepend (encode_utf8 (surrogate_pair h l)) k) None) (content_fed plain xs)) (code_unit a b c d))

-- ---- lexemes

-- a byte, if what follows it is lexed alike
lex_byte_fed : (m : Mode) (c : Class) (x : ℕ) (xs : List ℕ) (k l : Mode → List Lexeme) → ((n : Mode) → k n ≡ l n) → lex_byte m c x (fed xs) k ≡ lex_byte m c x xs l
lex_byte_fed between quote x xs k l same = ap₂ (λ o r. token (string_token o) ∷ r) (content_fed plain xs) (same in_string)
lex_byte_fed between backslash x xs k l same = ap (λ r. token bad ∷ r) (same in_word)
lex_byte_fed between operator x xs k l same = ap (λ r. operator_lexeme x ∷ r) (same between)
lex_byte_fed between space x xs k l same = same between
lex_byte_fed between other x xs k l same = ap₂ (λ t r. token t ∷ r) (word_fed x xs) (same in_word)
lex_byte_fed in_word quote x xs k l same = same in_word
lex_byte_fed in_word backslash x xs k l same = same in_word
lex_byte_fed in_word operator x xs k l same = ap (λ r. operator_lexeme x ∷ r) (same between)
lex_byte_fed in_word space x xs k l same = same between
lex_byte_fed in_word other x xs k l same = same in_word
lex_byte_fed in_string quote x xs k l same = same between
lex_byte_fed in_string backslash x xs k l same = same in_escape
lex_byte_fed in_string operator x xs k l same = same in_string
lex_byte_fed in_string space x xs k l same = same in_string
lex_byte_fed in_string other x xs k l same = same in_string
lex_byte_fed in_escape c x xs k l same = same in_string

-- a line feed is neither a lexeme nor part of one
lex_fed : (m : Mode) (t : List ℕ) → lex m (fed t) ≡ lex m t
unfolding lex
lex_fed between [] = refl
lex_fed in_word [] = refl
lex_fed in_string [] = refl
lex_fed in_escape [] = refl
lex_fed m (x ∷ xs) = lex_byte_fed m (class x) x xs (λ n. lex n (fed xs)) (λ n. lex n xs) (λ n. lex_fed n xs)

-- the value of the tokens
read_fed : (t : List ℕ) → read (fed t) ≡ read t
read_fed t = ap (λ ls. option_and_then of_json (option_and_then (λ p. if_last p.0 p.1) (value max_depth (punctuate fresh ls)))) (lex_fed between t)

-- ---- UTF-8

-- tests that imply each other
one_by_two : (a b : Bool) → (a ≡ true → b ≡ true) → (b ≡ true → a ≡ true) → a ≡ b
one_by_two true b to from = sym (to refl)
one_by_two false true to from = from refl
one_by_two false false to from = refl

-- a line feed is valid UTF-8
feed_is_text : IsUtf8 (10 ∷ [])
feed_is_text = subst IsUtf8 (encode_ascii 10 (omega arith)) (IsUtf8-encode 10 search)

-- valid UTF-8 stays valid
text_fed : (t : List ℕ) → is_utf8 t ≡ true → is_utf8 (fed t) ≡ true
text_fed t is = is_utf8-from_IsUtf8 (fed t) (IsUtf8-append t (10 ∷ []) (IsUtf8-from_is_utf8 t is) feed_is_text)

-- invalid UTF-8 stays invalid
text_left : (t : List ℕ) → is_utf8 (fed t) ≡ true → is_utf8 t ≡ true
text_left t is =
    let long : length (fed t) ≡ length t + 1 = length-append t (10 ∷ []) in
    let last : get_or (fed t) (length t) 0 ≡ 10 = get_or-append_seam t 10 [] 0 in
    let whole = IsUtf8-from_is_utf8 (fed t) is in
    let front = IsUtf8-take (fed t) (length t) whole (IsCharBoundary-before_ascii (fed t) (length t) (omega arith) (omega arith)) in
    is_utf8-from_IsUtf8 t (subst IsUtf8 (take-append_seam t (10 ∷ [])) front)

-- the JSON value of a text
value_fed : (t : List ℕ) → value_of (fed t) ≡ value_of t
value_fed t = ap₂ (λ b d. if b then d else None) (one_by_two (is_utf8 (fed t)) (is_utf8 t) (text_left t) (text_fed t)) (read_fed t)

-- ---- traces and BUILDS

-- the trace, or the place of its fault
pub trace_fed : (t : Text) → trace_of (t ++ line_feed ∷ []) ≡ trace_of t
trace_fed t = ap (λ d. trace_from (d >>= outer_in)) (value_fed t)

-- the contents as BUILDS
pub builds_fed : (t : Text) → builds_of (t ++ line_feed ∷ []) ≡ builds_of t
builds_fed t = ap (λ d. d >>= packages_of) (value_fed t)
