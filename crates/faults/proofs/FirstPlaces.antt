-- The first place at which a test passes, and splitting a text there.
use Rattle.std.proofs.Common.{◌≡◌, ◌<◌, ◌≤◌, ◌+◌, ◌-◌, ◌++◌, ℕ, suc, zero, Bool, true, false, not, cond, nat_lt, eqb, List, [], ◌∷◌, length, position, take, drop, get_or, Option, None, Some, refl, sym, ap, ◌∙◌, arith, inl, inr}
use Rattle.std.specs.List.{list_any, position_or_len, slice_split}
use Rattle.std.proofs.lemmas.Bool.{cases_lt, le-ltb, lt-ltb, eqb-true, or_parts}
use Rattle.std.proofs.lemmas.List.{drop_more, get_or-take, length-take, take-append-drop, take_rest}
use Rattle.std.proofs.lemmas.List.Splits.{slice_split_first, slice_split_none}
use Rattle.std.proofs.lemmas.List.Sums.{fails_before_first, prefix_len_is}
use Rattle.memchr.specs.Find.{IsFirstByte}
use Rattle.faults.specs.Bytes.{has_byte}

-- what is not true is false
pub not_true : (b : Bool) → ¬ (b ≡ true) → b ≡ false
not_true true h = absurd (h refl)
not_true false h = refl

-- a search for the first byte finds its position
pub first_place : (p : ℕ → Bool) (xs : List ℕ) (r : Option ℕ) → IsFirstByte p xs r → position p xs ≡ r
first_place p xs None h =
    let all : position_or_len p xs ≡ length xs =
    prefix_len_is (λ b. not (p b)) xs (length xs) 0 (omega arith) (λ k l. ap not (not_true (p (get_or xs k 0)) (h k (omega arith) l))) (λ l. absurd (omega arith)) in
    ap (λ n. cond (nat_lt n (length xs)) (Some n) None) all ∙ ap (λ b. cond b (Some (length xs)) None) (le-ltb (length xs) (length xs) (omega arith))
first_place p xs (Some i) h =
    let at : position_or_len p xs ≡ i =
    prefix_len_is (λ b. not (p b)) xs i 0 (omega (arith, h.0.high))
    (λ k l. ap not (not_true (p (get_or xs k 0)) (h.0.before k (omega arith) l))) (λ l. ap not h.1) in
    ap (λ n. cond (nat_lt n (length xs)) (Some n) None) at ∙ ap (λ b. cond b (Some i) None) (lt-ltb i (length xs) h.0.high)

-- the text up to the first separator, and the pieces of the text after it
pub pieces_from_Some : (p : ℕ → Bool) (text : List ℕ) (i : ℕ) → position p text ≡ Some i → slice_split p text ≡ take i text ∷ slice_split p (drop (i + 1) text)
pieces_from_Some p text i e = elim (cases_lt (position_or_len p text) (length text)) [
  | inl within ↦
      let at : position_or_len p text ≡ i = let found = rw (lt-ltb _ _ within) at e in cc in
      rw (← at) (slice_split_first p text 0 within)
  | inr past ↦ cc (rw (le-ltb _ _ past) at e)
]

-- a text without a separator is its one piece
pub pieces_from_None : (p : ℕ → Bool) (text : List ℕ) → position p text ≡ None → slice_split p text ≡ text ∷ []
pieces_from_None p text e = elim (cases_lt (position_or_len p text) (length text)) [
  | inl within ↦ cc (rw (lt-ltb _ _ within) at e)
  | inr past ↦ slice_split_none p text (λ k d l. fails_before_first p text k d (omega arith))
]

-- a byte that is searched for and not found doesn't occur in the text
pub has_no_byte : (c : ℕ) (text : List ℕ) → ((k : ℕ) → k < length text → ¬ (eqb (get_or text k 0) c ≡ true)) → has_byte c text ≡ false
has_no_byte c [] none = refl
has_no_byte c (b ∷ bs) none =
    let first : eqb b c ≡ false = not_true (eqb b c) (none zero (omega arith)) in
    rw first (has_no_byte c bs (λ k l. none (suc k) (omega arith)))

-- a text is the part before a place, the byte there, and the part after it
pub cut_at : (text : List ℕ) (i : ℕ) → i < length text → text ≡ take i text ++ get_or text i 0 ∷ drop (i + 1) text
cut_at text i within = sym (ap (λ rest. take i text ++ rest) (sym (drop_more text i 0 within)) ∙ take-append-drop i text)

-- a text that is split at the first place of a byte: the part before it lacks the byte
pub halves_at : (c : ℕ) (text : List ℕ) (i : ℕ) → IsFirstByte (λ b. eqb b c) text (Some i)
    → (text ≡ take i text ++ c ∷ take (length text - (i + 1)) (drop (i + 1) text)) × (has_byte c (take i text) ≡ false)
halves_at c text i h =
    let within = h.0.high in
    let is : get_or text i 0 ≡ c = eqb-true (get_or text i 0) c h.1 in
    let whole = cut_at text i within ∙ ap (λ b. take i text ++ b ∷ drop (i + 1) text) is in
    let before : has_byte c (take i text) ≡ false =
    has_no_byte c (take i text) (λ k l.
    let below : k < i = omega (arith, length-take i text) in
    rw (get_or-take i text k 0 below) (h.0.before k (omega arith) below)) in
    (rw (take_rest text (i + 1)) whole, before)

-- the part before the first element that passes is all that precedes it
pub ends_before : (p : ℕ → Bool) (xs : List ℕ) (y : ℕ) (ys : List ℕ) → list_any p xs ≡ false
    → p y ≡ true → position_or_len p (xs ++ y ∷ ys) ≡ length xs
ends_before p [] y ys none here = ap (λ b. cond (not b) (1 + position_or_len p ys) 0) here
ends_before p (x ∷ xs) y ys none here =
    let parts = or_parts (p x) (list_any p xs) none in
    ap (λ b. cond (not b) (1 + position_or_len p (xs ++ y ∷ ys)) 0) parts.0
    ∙ ap (λ n. 1 + n) (ends_before p xs y ys parts.1 here) ∙ omega arith
