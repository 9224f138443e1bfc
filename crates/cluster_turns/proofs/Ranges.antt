-- Ranges of numbers.
use Rattle.std.proofs.Common.{◌≡◌, ◌≤◌, ◌<◌, ◌+◌, ◌-◌, ◌++◌, ℕ, zero, suc, [], ◌∷◌, drop, take, refl, ap, ◌∙◌, arith}
use Rattle.std.specs.List.{range_with_len}

none_less : (n : ℕ) → 0 + n ≡ n
none_less n = omega arith

one_less : (m n : ℕ) → suc m + n ≡ suc (m + n)
one_less m n = omega arith

-- a range is a shorter one and the rest
pub range_parts : (a m n : ℕ) → range_with_len a (m + n)
    ≡ range_with_len a m ++ range_with_len (a + m) n
range_parts a zero n =
    let here : a ≡ a + 0 = omega arith in
    ap (range_with_len a) (none_less n) ∙ ap (λ b. range_with_len b n) here
range_parts a (suc m) n =
    let here : a + 1 + m ≡ a + suc m = omega arith in
    ap (range_with_len a) (one_less m n)
    ∙ (ap (λ xs. a ∷ xs) (range_parts (a + 1) m n)
    ∙ ap (λ b. (a ∷ range_with_len (a + 1) m) ++ range_with_len b n) here)

-- the range from one number to below another, split at one of its numbers
pub range_at : (a b k : ℕ) → a ≤ k → k < b
    → range_with_len a (b - a)
    ≡ range_with_len a (k - a) ++ k ∷ range_with_len (k + 1) (b - (k + 1))
range_at a b k from below =
    let count : b - a ≡ (k - a) + suc (b - (k + 1)) = omega (arith, from, below) in
    let here : a + (k - a) ≡ k = omega (arith, from) in
    ap (range_with_len a) count
    ∙ (range_parts a (k - a) (suc (b - (k + 1)))
    ∙ ap (λ j. range_with_len a (k - a) ++ j ∷ range_with_len (j + 1) (b - (k + 1))) here)

-- a range that is longer by one
pub range_more : (a k : ℕ) → a ≤ k
    → range_with_len a (k + 1 - a) ≡ range_with_len a (k - a) ++ k ∷ []
range_more a k from =
    let count : k + 1 - a ≡ (k - a) + 1 = omega (arith, from) in
    let here : a + (k - a) ≡ k = omega (arith, from) in
    ap (range_with_len a) count
    ∙ (range_parts a (k - a) 1 ∙ ap (λ j. range_with_len a (k - a) ++ j ∷ []) here)

pub take_range : (a m n : ℕ) → take m (range_with_len a (m + n)) ≡ range_with_len a m
take_range a zero n = refl
take_range a (suc m) n =
    ap (λ c. take (suc m) (range_with_len a c)) (one_less m n)
    ∙ ap (λ xs. a ∷ xs) (take_range (a + 1) m n)

pub drop_range : (a m n : ℕ) → drop m (range_with_len a (m + n)) ≡ range_with_len (a + m) n
drop_range a zero n =
    let here : a ≡ a + 0 = omega arith in
    ap (range_with_len a) (none_less n) ∙ ap (λ b. range_with_len b n) here
drop_range a (suc m) n =
    let here : a + 1 + m ≡ a + suc m = omega arith in
    ap (λ c. drop (suc m) (range_with_len a c)) (one_less m n)
    ∙ (drop_range (a + 1) m n ∙ ap (λ b. range_with_len b n) here)
