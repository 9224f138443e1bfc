-- Indexes in a text where a test first or last passes.
use Rattle.std.proofs.Common.{◌≡◌, ◌<◌, ◌≤◌, ◌-◌, ℕ, suc, zero, Bool, true, false, cond, ◌||◌, nat_lt, List, [], ◌∷◌, length, take, drop, reverse, position, get_or, None, Some, refl, sym, ap, ◌∙◌, arith}
use Rattle.std.proofs.Math.Bool.{or-true}
use Rattle.std.specs.List.{suffix_len, position_or_len, before_first, list_any}
use Rattle.std.proofs.lemmas.Bool.{ltb-true, ltb-false}
use Rattle.std.proofs.lemmas.List.{drop_all, get_or-reverse, length-reverse, take_all, take_rest}
use Rattle.std.proofs.lemmas.List.Sums.{prefix_len_is}

-- the last n elements pass, and the one before them, if there is one, does not
pub suffix_len_is : (p : ℕ → Bool) (xs : List ℕ) (n : ℕ) → n ≤ length xs
    → ((k : ℕ) → length xs - n ≤ k → k < length xs → p (get_or xs k 0) ≡ true)
    → (n < length xs → p (get_or xs (length xs - n - 1) 0) ≡ false) → suffix_len p xs ≡ n
suffix_len_is p xs n le back stop =
    prefix_len_is p (reverse xs) n 0 (omega (arith, length-reverse xs))
    (λ k l. ap p (get_or-reverse xs k 0 (omega arith)) ∙ back (length xs - 1 - k) (omega arith) (omega arith))
    (λ l. let within : n < length xs = omega (arith, length-reverse xs) in
    let same : length xs - 1 - n ≡ length xs - n - 1 = omega arith in
    ap p (get_or-reverse xs n 0 within) ∙ ap (λ i. p (get_or xs i 0)) same ∙ stop within)

-- what a found position says
pub from_some : (b : Bool) (n i : ℕ) → cond b (Some n) None ≡ Some i → (b ≡ true) × (n ≡ i)
from_some true n i e = (refl, cc)
from_some false n i e = cc

pub from_none : (b : Bool) (n : ℕ) → cond b (Some n) None ≡ None → b ≡ false
from_none true n e = cc
from_none false n e = refl

-- the index at which a test first passes is in range, and is the number of elements before it
pub place_is : (p : ℕ → Bool) (xs : List ℕ) (i : ℕ) → position p xs ≡ Some i → (position_or_len p xs ≡ i) × (i < length xs)
place_is p xs i e =
    let h = from_some (nat_lt (position_or_len p xs) (length xs)) (position_or_len p xs) i e in
    (h.1, omega (arith, ltb-true _ _ h.0, h.1))

-- the elements before the first that passes, or all of them
pub before_first_at : (p : ℕ → Bool) (xs : List ℕ) (i : ℕ) → position p xs ≡ Some i → before_first p xs ≡ take i xs
before_first_at p xs i e = ap (λ n. take n xs) (place_is p xs i e).0

pub before_first_none : (p : ℕ → Bool) (xs : List ℕ) → position p xs ≡ None → before_first p xs ≡ xs
before_first_none p xs e = take_all (position_or_len p xs) xs (ltb-false _ _ (from_none (nat_lt (position_or_len p xs) (length xs)) (position_or_len p xs) e))

-- the elements from the first that passes on
pub from_place : (p : ℕ → Bool) (xs : List ℕ) (i : ℕ) → position p xs ≡ Some i → take (length xs - i) (drop i xs) ≡ drop (position_or_len p xs) xs
from_place p xs i e = take_rest xs i ∙ ap (λ n. drop n xs) (sym (place_is p xs i e).0)

pub nothing_from : (p : ℕ → Bool) (xs : List ℕ) → position p xs ≡ None → [] ≡ drop (position_or_len p xs) xs
nothing_from p xs e = sym (drop_all (position_or_len p xs) xs (ltb-false _ _ (from_none (nat_lt (position_or_len p xs) (length xs)) (position_or_len p xs) e)))

-- ---- whether some byte passes

pub none_anywhere : (p : ℕ → Bool) (xs : List ℕ) → ((k : ℕ) → k < length xs → p (get_or xs k 0) ≡ false) → list_any p xs ≡ false
none_anywhere p [] h = refl
none_anywhere p (x ∷ xs) h = ap (λ b. b || list_any p xs) (h zero (omega arith)) ∙ none_anywhere p xs (λ k l. h (suc k) (omega arith))

pub some_there : (p : ℕ → Bool) (xs : List ℕ) (k : ℕ) → k < length xs → p (get_or xs k 0) ≡ true → list_any p xs ≡ true
some_there p [] k l h = absurd (omega arith)
some_there p (x ∷ xs) zero l h = ap (λ b. b || list_any p xs) h
some_there p (x ∷ xs) (suc k) l h = ap (λ b. p x || b) (some_there p xs k (omega arith) h) ∙ or-true (p x)
