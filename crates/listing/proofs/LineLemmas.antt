-- The parts of a line, by index.
use Rattle.std.proofs.Common.{◌≡◌, ◌<◌, ◌≤◌, ◌+◌, ◌-◌, ◌==◌, ◌&&◌, ◌||◌, ◌++◌, ◌∷◌, ℕ, Bool, true, false, not, length, take, drop, get_or, refl, sym, ap, ◌∙◌, arith, eq-eqb}
use Rattle.std.proofs.Math.Bool.{and-false, or-true}
use Rattle.std.specs.List.{after_first, after_last, before_last, position_or_len, suffix_len}
use Rattle.std.proofs.Math.Seq.{drop-append-add, take-append_seam}
use Rattle.std.proofs.lemmas.List.Folds.{list_any-append}
use Rattle.std.proofs.lemmas.List.Sums.{prefix_len_is}
use Rattle.std.specs.Str.{bytes_eq}
use Rattle.std.specs.Cmp.Lexicographic.{nat_list_eq_equiv}
use Rattle.std.proofs.lemmas.List.{get_or-drop, length-drop, take_rest}
use Rattle.faults.specs.Bytes.{Text, dot, equals_sign, has_byte, is_among}
use Rattle.faults.proofs.FirstPlaces.{ends_before}
use Rattle.listing.specs.Lines.{build_depends, full_name, ignore, is_blank, is_cut, key_of, lib_depends, path_text, run_depends, trimmed, value_text, variable_text, variables}
use Rattle.listing.proofs.Places.{none_anywhere, some_there, suffix_len_is}

-- a text that is not one of the variables
pub is_no_variable : (name : Text) → bytes_eq name full_name ≡ false → bytes_eq name build_depends ≡ false → bytes_eq name lib_depends ≡ false
    → bytes_eq name run_depends ≡ false → bytes_eq name ignore ≡ false → is_among variables name ≡ false
is_no_variable name a b c d e =
    let symm = nat_list_eq_equiv.symm in
    let f : bytes_eq full_name name ≡ false = symm full_name name ∙ a in
    let g : bytes_eq build_depends name ≡ false = symm build_depends name ∙ b in
    let h : bytes_eq lib_depends name ≡ false = symm lib_depends name ∙ c in
    let i : bytes_eq run_depends name ≡ false = symm run_depends name ∙ d in
    let j : bytes_eq ignore name ≡ false = symm ignore name ∙ e in
    λ k. f k || (g k || (h k || (i k || (j k || false))))

-- ---- trimming

pub trimmed_is : (text : Text) (s e : ℕ) → s ≤ e → e ≤ length text
    → ((k : ℕ) → k < s → is_blank (get_or text k 0) ≡ true) → (s < length text → is_blank (get_or text s 0) ≡ false)
    → ((k : ℕ) → e ≤ k → k < length text → is_blank (get_or text k 0) ≡ true) → (s < e → is_blank (get_or text (e - 1) 0) ≡ false)
    → take (e - s) (drop s text) ≡ trimmed text
trimmed_is text s e se el front stop back last =
    let n = prefix_len_is is_blank text s 0 (omega arith) front stop in
    let len = length-drop s text in
    let m : suffix_len is_blank (drop s text) ≡ length text - e =
    suffix_len_is is_blank (drop s text) (length text - e) (omega (arith, len))
    (λ k l h. ap is_blank (get_or-drop s text k 0) ∙ back (s + k) (omega (arith, len)) (omega (arith, len)))
    (λ l. let place : s + (length (drop s text) - (length text - e) - 1) ≡ e - 1 = omega (arith, len) in
    ap is_blank (get_or-drop s text (length (drop s text) - (length text - e) - 1) 0)
    ∙ ap (λ i. is_blank (get_or text i 0)) place ∙ last (omega (arith, len))) in
    let shorter : length (drop s text) - suffix_len is_blank (drop s text) ≡ e - s = omega (arith, len, m) in
    sym (ap (λ i. take (length (drop i text) - suffix_len is_blank (drop i text)) (drop i text)) n
    ∙ ap (λ i. take i (drop s text)) shorter)

-- ---- a line that is split

-- the number of bytes after the last dot
after_dot : (key : Text) (j : ℕ) → j < length key → get_or key j 0 ≡ dot
    → ((k : ℕ) → j < k → k < length key → (get_or key k 0 == dot) ≡ false)
    → suffix_len (λ b. not (b == dot)) key ≡ length key - (j + 1)
after_dot key j within here last =
    suffix_len_is (λ b. not (b == dot)) key (length key - (j + 1)) (omega arith)
    (λ k l h. ap not (last k (omega arith) h))
    (λ l. let place : length key - (length key - (j + 1)) - 1 ≡ j = omega arith in
    ap (λ i. not (get_or key i 0 == dot)) place ∙ ap not (eq-eqb _ _ here))

-- a line that is split at its first `=` into a key and a value
module _ (line key value : Text) (cut : line ≡ key ++ equals_sign ∷ value)
    (none : has_byte equals_sign key ≡ false) where
  key_ends : position_or_len (λ b. b == equals_sign) line ≡ length key
  key_ends =
      ap (position_or_len (λ b. b == equals_sign)) cut
      ∙ ends_before (λ b. b == equals_sign) key equals_sign value none refl

  key_is : key_of line ≡ key
  key_is = (λ i. take (key_ends i) (cut i)) ∙ take-append_seam key (equals_sign ∷ value)

  value_is : after_first (λ b. b == equals_sign) line ≡ value
  value_is = (λ i. drop (key_ends i + 1) (cut i)) ∙ drop-append-add key (equals_sign ∷ value) 1

  has_equals : has_byte equals_sign line ≡ true
  has_equals =
      ap (has_byte equals_sign) cut
      ∙ list_any-append (λ b. b == equals_sign) key (equals_sign ∷ value)
      ∙ or-true (has_byte equals_sign key)

  pub no_dot : ((k : ℕ) → k < length key → (get_or key k 0 == dot) ≡ false) → is_cut line ≡ false
  no_dot lacks =
      ap (λ text. has_byte equals_sign line && has_byte dot text) key_is
      ∙ ap (λ b. has_byte equals_sign line && b) (none_anywhere (λ b. b == dot) key lacks)
      ∙ and-false (has_byte equals_sign line)

  pub value_text_is : trimmed value ≡ value_text line
  value_text_is = sym (ap trimmed value_is)

  -- the key's last dot
  module _ (j : ℕ) (within : j < length key) (here : get_or key j 0 ≡ dot) where
    pub dot_cuts : is_cut line ≡ true
    dot_cuts =
        ap (λ text. has_byte equals_sign line && has_byte dot text) key_is
        ∙ (λ i. has_equals i && some_there (λ b. b == dot) key j within (eq-eqb _ _ here) i)

    module _ (last : (k : ℕ) → j < k → k < length key → (get_or key k 0 == dot) ≡ false) where
      pub path_text_at : take j key ≡ path_text line
      path_text_at =
          let n = after_dot key j within here last in
          let place : j ≡ length key - suffix_len (λ b. not (b == dot)) key - 1 = omega (arith, n) in
          ap (λ m. take m key) place ∙ ap (before_last (λ b. b == dot)) (sym key_is)

      pub variable_text_at : take (length key - (j + 1)) (drop (j + 1) key) ≡ variable_text line
      variable_text_at =
          let n = after_dot key j within here last in
          let place : j + 1 ≡ length key - suffix_len (λ b. not (b == dot)) key = omega (arith, n) in
          take_rest key (j + 1) ∙ ap (λ m. drop m key) place
          ∙ ap (after_last (λ b. b == dot)) (sym key_is)
