-- The text of a run file determines its parts.
use Rattle.std.proofs.Common.{◌≡◌, ◌∙◌, ℕ, ◌<◌, List, [], ◌∷◌, ◌++◌, Option, None, Some, ap, append_assoc, arith, codes, drop, flat_map, get_or, length, length-append, refl, suc, sym, take}
use Rattle.std.specs.Fmt.{decimal}
use Rattle.std.specs.Str.Parse.{AllDigits}
use Rattle.std.proofs.Math.Seq.{take-append_seam}
use Rattle.std.proofs.lemmas.Fmt.{decimal_injective, decimal_is_IsNumeral}
use Rattle.std.proofs.lemmas.List.{append_cancel_left}
use Rattle.std.proofs.lemmas.Str.Parse.{digit_from_value}
use Rattle.faults.specs.Bytes.{Text, comma, line_feed}
use Rattle.hex.specs.Hex.{decode_of, encode_lower, lower_digits}
use Rattle.hex.proofs.HexLemmas.{decode_of-encode_lower, length-encode_with}
use Rattle.run_file.specs.RunFile.{AreBytes, AreSameRun, IsOwner, IsShown, between_commas, run_text, shown_key}
use Rattle.stable_record.specs.History.{IsBytes}
use Rattle.stable_record.specs.declared.identity.Identity.{Identity}

-- ---- numerals, up to their end

-- the text continues with a byte that is no digit
abbrev EndsDigits : Text → Type 0
EndsDigits text = get_or text 0 48 < 48

digits_end : (xs ys s t : Text) → AllDigits 10 xs → AllDigits 10 ys → EndsDigits s → EndsDigits t
    → xs ++ s ≡ ys ++ t → (xs ≡ ys) × (s ≡ t)
digits_end [] [] s t dx dy ends_s ends_t is = (refl, is)
digits_end [] (d ∷ ds) s t dx dy ends_s ends_t is =
    let first : get_or s 0 48 ≡ d = ap (λ l. get_or l 0 48) is in
    let digit = digit_from_value d dy.0 in
    absurd (omega (arith, first, digit, ends_s))
digits_end (c ∷ cs) [] s t dx dy ends_s ends_t is =
    let first : c ≡ get_or t 0 48 = ap (λ l. get_or l 0 48) is in
    let digit = digit_from_value c dx.0 in
    absurd (omega (arith, first, digit, ends_t))
digits_end (c ∷ cs) (d ∷ ds) s t dx dy ends_s ends_t is =
    let first : c ≡ d = ap (λ l. get_or l 0 48) is in
    let rest = digits_end cs ds s t dx.1 dy.1 ends_s ends_t (ap (drop 1) is) in
    (ap (λ n. n ∷ cs) first ∙ ap (λ l. d ∷ l) rest.0, rest.1)

are_digits : (n : ℕ) → n < 256 → AllDigits 10 (decimal n)
are_digits n small = (decimal_is_IsNumeral n (omega arith)).0.1

-- numbers before such texts
decimals_end : (m n : ℕ) (s t : Text) → m < 256 → n < 256 → EndsDigits s → EndsDigits t
    → decimal m ++ s ≡ decimal n ++ t → (m ≡ n) × (s ≡ t)
decimals_end m n s t small_m small_n ends_s ends_t is =
    let parts = digits_end (decimal m) (decimal n) s t (are_digits m small_m) (are_digits n small_n) ends_s ends_t is in
    (decimal_injective m n (omega arith) (omega arith) parts.0, parts.1)

-- ---- numbers between commas, up to the end of the line

abbrev behind_commas : List ℕ → Text
behind_commas numbers = flat_map (λ n. comma ∷ decimal n) numbers

ends : (numbers : List ℕ) (s : Text) → EndsDigits (behind_commas numbers ++ line_feed ∷ s)
ends [] s = omega arith
ends (n ∷ ns) s = omega arith

commas_end : (ns ms : List ℕ) (s t : Text) → IsBytes ns → IsBytes ms
    → behind_commas ns ++ line_feed ∷ s ≡ behind_commas ms ++ line_feed ∷ t → (ns ≡ ms) × (s ≡ t)
commas_end [] [] s t bytes_n bytes_m is = (refl, ap (drop 1) is)
commas_end [] (m ∷ ms) s t bytes_n bytes_m is =
    absurd (let no : 10 ≡ 44 = ap (λ l. get_or l 0 0) is in omega (arith, no))
commas_end (n ∷ ns) [] s t bytes_n bytes_m is =
    absurd (let no : 44 ≡ 10 = ap (λ l. get_or l 0 0) is in omega (arith, no))
commas_end (n ∷ ns) (m ∷ ms) s t bytes_n bytes_m is =
    let behind = sym (append_assoc (decimal n) (behind_commas ns) (line_feed ∷ s)) ∙ ap (drop 1) is
    ∙ append_assoc (decimal m) (behind_commas ms) (line_feed ∷ t) in
    let parts = decimals_end n m (behind_commas ns ++ line_feed ∷ s) (behind_commas ms ++ line_feed ∷ t)
    (bytes_n 0) (bytes_m 0) (ends ns s) (ends ms t) behind in
    let rest = commas_end ns ms s t (λ k. bytes_n (suc k)) (λ k. bytes_m (suc k)) parts.1 in
    (ap (λ k. k ∷ ns) parts.0 ∙ ap (λ l. m ∷ l) rest.0, rest.1)

-- a number has a digit
no_number : (n : ℕ) (s t : Text) → n < 256 → EndsDigits s → EndsDigits t → s ≡ decimal n ++ t → ⊥
no_number n s t small ends_s ends_t is =
    let number = decimal_is_IsNumeral n (omega arith) in
    let parts = digits_end [] (decimal n) s t tt number.0.1 ends_s ends_t is in
    omega (arith, number.0.0, ap length parts.0)

between_end : (ns ms : List ℕ) (s t : Text) → IsBytes ns → IsBytes ms
    → between_commas ns ++ line_feed ∷ s ≡ between_commas ms ++ line_feed ∷ t → (ns ≡ ms) × (s ≡ t)
between_end [] [] s t bytes_n bytes_m is = (refl, ap (drop 1) is)
between_end [] (m ∷ ms) s t bytes_n bytes_m is =
    absurd (no_number m (line_feed ∷ s) (behind_commas ms ++ line_feed ∷ t) (bytes_m 0) (ends [] s) (ends ms t)
    (is ∙ append_assoc (decimal m) (behind_commas ms) (line_feed ∷ t)))
between_end (n ∷ ns) [] s t bytes_n bytes_m is =
    absurd (no_number n (line_feed ∷ t) (behind_commas ns ++ line_feed ∷ s) (bytes_n 0) (ends [] t) (ends ns s)
    (sym is ∙ append_assoc (decimal n) (behind_commas ns) (line_feed ∷ s)))
between_end (n ∷ ns) (m ∷ ms) s t bytes_n bytes_m is =
    commas_end (n ∷ ns) (m ∷ ms) s t bytes_n bytes_m (ap (λ l. comma ∷ l) is)

-- ---- digits of bytes

encode_injective : (xs ys : Text) → IsBytes xs → IsBytes ys → encode_lower xs ≡ encode_lower ys → xs ≡ ys
encode_injective xs ys bytes_x bytes_y is =
    let x = decode_of-encode_lower xs bytes_x in
    let y = decode_of-encode_lower ys bytes_y in
    let same : decode_of (encode_lower xs) ≡ decode_of (encode_lower ys) = ap decode_of is in
    cc

-- prefixes of the same length
fronts : (xs ys s t : Text) → length xs ≡ length ys → xs ++ s ≡ ys ++ t → (xs ≡ ys) × (s ≡ t)
fronts xs ys s t lengths is =
    let front : xs ≡ ys =
    sym (take-append_seam xs s) ∙ (ap (take (length xs)) is ∙ (ap (λ n. take n (ys ++ t)) lengths ∙ take-append_seam ys t)) in
    (front, append_cancel_left ys s t (rw front at is))

encoded_end : (xs ys s t : Text) (n : ℕ) → AreBytes n xs → AreBytes n ys
    → encode_lower xs ++ s ≡ encode_lower ys ++ t → (xs ≡ ys) × (s ≡ t)
encoded_end xs ys s t n are_x are_y is =
    let long_x = length-encode_with lower_digits xs in
    let long_y = length-encode_with lower_digits ys in
    let lengths : length (encode_lower xs) ≡ length (encode_lower ys) = omega (arith, are_x.counted, are_y.counted) in
    let parts = fronts (encode_lower xs) (encode_lower ys) s t lengths is in
    (encode_injective xs ys are_x.are_bytes are_y.are_bytes parts.0, parts.1)

keys_apart : (key other : Option Text) → IsShown key → IsShown other
    → shown_key key ++ line_feed ∷ [] ≡ shown_key other ++ line_feed ∷ [] → key ≡ other
keys_apart None None shown shown_other is = refl
keys_apart None (Some other) shown shown_other is =
    let long = length-encode_with lower_digits other in
    absurd (omega (arith, long, shown_other.counted, ap length is, length-append (encode_lower other) (line_feed ∷ [])))
keys_apart (Some key) None shown shown_other is =
    let long = length-encode_with lower_digits key in
    absurd (omega (arith, long, shown.counted, ap length is, length-append (encode_lower key) (line_feed ∷ [])))
keys_apart (Some key) (Some other) shown shown_other is =
    ap Some (encoded_end key other (line_feed ∷ []) (line_feed ∷ []) 16 shown shown_other is).0

-- ---- the whole text

-- the text from its parts
abbrev spelled : Text → Text → Text → Text → Text
spelled tree weights me key =
    codes "dpbn run 1" ++ (line_feed ∷ (codes "listing " ++ (tree ++ (line_feed ∷ (codes "weights "
    ++ (weights ++ (line_feed ∷ (codes "member " ++ (me ++ (line_feed ∷ (codes "key "
    ++ (key ++ line_feed ∷ []))))))))))))

abbrev line : Text → Text → Text
line front text = (front ++ text) ++ line_feed ∷ []

line_in : (front text rest : Text) → line front text ++ rest ≡ front ++ (text ++ (line_feed ∷ rest))
line_in front text rest =
    append_assoc (front ++ text) (line_feed ∷ []) rest ∙ append_assoc front text (line_feed ∷ rest)

abbrev first : Text
first = codes "dpbn run 1" ++ line_feed ∷ []

lines_in : (tree weights me key : Text)
    → first ++ (line (codes "listing ") tree ++ (line (codes "weights ") weights ++ (line (codes "member ") me ++ (line (codes "key ") key ++ []))))
    ≡ spelled tree weights me key
lines_in tree weights me key =
    let keys = codes "key " ++ (key ++ line_feed ∷ []) in
    let members = codes "member " ++ (me ++ (line_feed ∷ keys)) in
    let weighed = codes "weights " ++ (weights ++ (line_feed ∷ members)) in
    ap (λ r. first ++ (line (codes "listing ") tree ++ (line (codes "weights ") weights ++ (line (codes "member ") me ++ r)))) (line_in (codes "key ") key [])
    ∙ ap (λ r. first ++ (line (codes "listing ") tree ++ (line (codes "weights ") weights ++ r))) (line_in (codes "member ") me keys)
    ∙ ap (λ r. first ++ (line (codes "listing ") tree ++ r)) (line_in (codes "weights ") weights members)
    ∙ ap (λ r. first ++ r) (line_in (codes "listing ") tree weighed)

pub run_text-spelled : (i : Identity) (key : Option Text)
    → run_text i key ≡ spelled (encode_lower i.tree) (between_commas i.weights.items) (decimal i.me) (shown_key key)
run_text-spelled i key = lines_in (encode_lower i.tree) (between_commas i.weights.items) (decimal i.me) (shown_key key)

-- this is the run file's text
pub told : (i : Identity) (key : Option Text) (tree weights shown : Text) → tree ≡ encode_lower i.tree
    → weights ≡ between_commas i.weights.items → shown ≡ shown_key key
    → spelled tree weights (decimal i.me) shown ≡ run_text i key
told i key tree weights shown is_tree are_weights is_shown =
    ap (λ t. spelled t weights (decimal i.me) shown) is_tree
    ∙ ap (λ w. spelled (encode_lower i.tree) w (decimal i.me) shown) are_weights
    ∙ ap (λ k. spelled (encode_lower i.tree) (between_commas i.weights.items) (decimal i.me) k) is_shown
    ∙ sym (run_text-spelled i key)

module _ (i j : Identity) (key other : Option Text) (own : IsOwner i) (others : IsOwner j)
    (shown : IsShown key) (shown_other : IsShown other) (is : run_text i key ≡ run_text j other) where
  behind_tree : (i.tree ≡ j.tree) × (line_feed ∷ (codes "weights " ++ (between_commas i.weights.items ++ (line_feed ∷ (codes "member " ++ (decimal i.me ++ (line_feed ∷ (codes "key " ++ (shown_key key ++ line_feed ∷ []))))))))
      ≡ line_feed ∷ (codes "weights " ++ (between_commas j.weights.items ++ (line_feed ∷ (codes "member " ++ (decimal j.me ++ (line_feed ∷ (codes "key " ++ (shown_key other ++ line_feed ∷ [])))))))))
  behind_tree = encoded_end i.tree j.tree _ _ 32 own.tree others.tree
      (ap (drop 19) (sym (run_text-spelled i key) ∙ is ∙ run_text-spelled j other))

  behind_weights : (i.weights.items ≡ j.weights.items) × (codes "member " ++ (decimal i.me ++ (line_feed ∷ (codes "key " ++ (shown_key key ++ line_feed ∷ []))))
      ≡ codes "member " ++ (decimal j.me ++ (line_feed ∷ (codes "key " ++ (shown_key other ++ line_feed ∷ [])))))
  behind_weights = between_end i.weights.items j.weights.items _ _ own.weights others.weights (ap (drop 9) behind_tree.1)

  behind_member : (i.me ≡ j.me) × (line_feed ∷ (codes "key " ++ (shown_key key ++ line_feed ∷ [])) ≡ line_feed ∷ (codes "key " ++ (shown_key other ++ line_feed ∷ [])))
  behind_member = decimals_end i.me j.me _ _ own.me others.me (omega arith) (omega arith) (ap (drop 7) behind_weights.1)

  pub same_run : AreSameRun i j key other
  same_run = record {
    tree = behind_tree.0;
    weights = behind_weights.0;
    me = behind_member.0;
    key = keys_apart key other shown shown_other (ap (drop 5) behind_member.1);
  }
