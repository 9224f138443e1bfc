-- The first difference of two texts.
use Rattle.std.proofs.Common.{◌≡◌, ◌≢◌, ◌∙◌, ℕ, ◌+◌, ◌<◌, ◌≤◌, ◌==◌, [], ◌∷◌, ◌++◌, None, Some, ap, count_by, drop, get_or, length, refl, sym, take}
use Rattle.std.specs.Prelude.{slice_get}
use Rattle.std.proofs.Math.Seq.{drop-cons}
use Rattle.std.proofs.lemmas.List.{append-nil, append_cancel_left, drop_all, nil_from_length, take-append-drop, take_all}
use Rattle.faults.specs.Bytes.{Text, line_feed}
use Rattle.run_file.specs.Difference.{PartIn}

-- the first i bytes of both texts are the same, and they end in this line
pub record AreSameSoFar (text other : Text) (i line : ℕ) (rest : Text) : Type 0 where
  pub parts : other ≡ take i text ++ rest
  pub counted : line ≡ count_by (λ byte. byte == line_feed) (take i text) + 1

pub part_here : (text other : Text) (i line : ℕ) (rest : Text) → AreSameSoFar text other i line rest
    → slice_get (drop i text) 0 ≢ slice_get rest 0 → PartIn text other line
part_here text other i line rest same part = record {
  both = take i text;
  rest = drop i text;
  other_rest = rest;
  parts = sym (take-append-drop i text);
  other_parts = same.parts;
  part = part;
  counted = same.counted;
}

-- the other text ends there
pub other_ends : (text other : Text) (i line : ℕ) (rest : Text) → AreSameSoFar text other i line rest
    → i < length text → length rest ≡ 0 → PartIn text other line
other_ends text other i line rest same within none =
    part_here text other i line rest same (λ equal.
    let some : Some (get_or text i 0) ≡ None = sym (ap (λ l. slice_get l 0) (drop-cons text i 0 within)) ∙ equal
    ∙ ap (λ l. slice_get l 0) (nil_from_length rest none) in
    absurd (let no : Some (get_or text i 0) ≡ None = some in cc))

-- the other text continues with another byte
pub other_byte : (text other : Text) (i line : ℕ) (rest : Text) (first : ℕ) (behind : Text)
    → AreSameSoFar text other i line rest → i < length text → rest ≡ first ∷ behind
    → (first ≡ get_or text i 0 → ⊥) → PartIn text other line
other_byte text other i line rest first behind same within is differs =
    part_here text other i line rest same (λ equal.
    let some : Some (get_or text i 0) ≡ Some first = sym (ap (λ l. slice_get l 0) (drop-cons text i 0 within)) ∙ equal
    ∙ ap (λ l. slice_get l 0) is in
    differs (let e : first ≡ get_or text i 0 = cc in e))

-- the other text continues where this one ends
pub other_goes_on : (text other : Text) (i line : ℕ) (rest : Text) → AreSameSoFar text other i line rest
    → length text ≤ i → ¬ (length rest ≡ 0) → PartIn text other line
other_goes_on text other i line [] same past some = absurd (some refl)
other_goes_on text other i line (first ∷ behind) same past some =
    part_here text other i line (first ∷ behind) same (λ equal.
    let none : None ≡ Some first = sym (ap (λ l. slice_get l 0) (drop_all i text past)) ∙ equal in
    absurd (let no : None ≡ Some first = none in cc))

-- both end there
pub both_end : (text other : Text) (i line : ℕ) (rest : Text) → AreSameSoFar text other i line rest
    → length text ≤ i → length rest ≡ 0 → text ≡ other
both_end text other i line rest same past none =
    sym (take_all i text past) ∙ sym (append-nil (take i text)) ∙ ap (λ l. take i text ++ l) (sym (nil_from_length rest none))
    ∙ sym same.parts

-- ---- there is one such line

-- what both begin with, up to the difference, is unique
front_once : (p q r s t u : Text) → p ++ r ≡ q ++ t → p ++ s ≡ q ++ u → slice_get r 0 ≢ slice_get s 0
    → slice_get t 0 ≢ slice_get u 0 → p ≡ q
front_once [] [] r s t u one two part_p part_q = refl
front_once [] (y ∷ q) r s t u one two part_p part_q =
    absurd (part_p (ap (λ l. slice_get l 0) one ∙ sym (ap (λ l. slice_get l 0) two)))
front_once (x ∷ p) [] r s t u one two part_p part_q =
    absurd (part_q (sym (ap (λ l. slice_get l 0) one) ∙ ap (λ l. slice_get l 0) two))
front_once (x ∷ p) (y ∷ q) r s t u one two part_p part_q =
    let first : x ≡ y = ap (λ l. get_or l 0 0) one in
    let rest = front_once p q r s t u (ap (drop 1) one) (ap (drop 1) two) part_p part_q in
    ap (λ n. n ∷ p) first ∙ ap (λ l. y ∷ l) rest

pub one_line : (text other : Text) (n m : ℕ) → PartIn text other n → PartIn text other m → n ≡ m
one_line text other n m p q =
    let same = front_once p.both q.both p.rest p.other_rest q.rest q.other_rest (sym p.parts ∙ q.parts)
    (sym p.other_parts ∙ q.other_parts) p.part q.part in
    p.counted ∙ ap (λ l. count_by (λ byte. byte == line_feed) l + 1) same ∙ sym q.counted

pub same_never_part : (text other : Text) (n : ℕ) → text ≡ other → PartIn text other n → ⊥
same_never_part text other n same p =
    p.part (ap (λ l. slice_get l 0) (append_cancel_left p.both p.rest p.other_rest (sym p.parts ∙ same ∙ p.other_parts)))

-- the answer is this line
pub some_line : (text other : Text) (n : ℕ) → PartIn text other n → (m : ℕ) → PartIn text other m → Some n ≡ Some m
some_line text other n p m q = ap Some (one_line text other n m p q)

-- the answer is that they are the same
pub no_line : (text other : Text) → text ≡ other → (m : ℕ) → PartIn text other m → None ≡ Some m
no_line text other same m q = absurd (same_never_part text other m same q)
