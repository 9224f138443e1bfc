-- Numbers in decimal digits.
use Rattle.std.proofs.Common.{◌≡◌, ℕ, ◌+◌, ◌-◌, ◌*◌, ◌<◌, Bool, true, List, [], ◌∷◌, length, get_or, take, min, refl, arith}
use Rattle.std.specs.List.{list_all}
use Rattle.std.proofs.lemmas.List.{take_more}
use Rattle.std.proofs.lemmas.List.Folds.{list_all-append}

-- one more digit, if numbers saturate at the limit
pub saturates : (limit value number times digit sum more byte worth : ℕ) → number ≡ min value limit → times ≡ min (number * 10) limit → digit ≡ byte - 48
    → sum ≡ min (times + digit) limit → more ≡ value * 10 + worth → worth + 48 ≡ byte → sum ≡ min more limit
saturates limit value number times digit sum more byte worth e1 e2 e3 e4 e5 e6 = omega arith

pub all_more : (p : ℕ → Bool) (xs : List ℕ) (i : ℕ) → i < length xs → list_all p (take i xs) ≡ true → p (get_or xs i 0) ≡ true → list_all p (take (i + 1) xs) ≡ true
all_more p xs i lt before here = rw (take_more xs i 0 lt, list_all-append p (take i xs) (get_or xs i 0 ∷ []), before, here) refl
