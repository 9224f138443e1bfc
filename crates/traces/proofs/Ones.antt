-- Members that each weigh 1.
use Rattle.std.proofs.Common.{◌≡◌, ◌∙◌, ◌&&◌, ℕ, zero, suc, ◌≤◌, Bool, List, [], ◌∷◌, None, Some, true, false, true≢false, replicate, take, refl, sym, ap, nat_le}
use Rattle.std.proofs.lemmas.Bool.{le-leb}
use Rattle.std.proofs.lemmas.List.{length-replicate, take-replicate}
use Rattle.std.specs.List.{list_all}
use Rattle.ballots.specs.Weights.{are_weights, is_weight}
use Rattle.traces.specs.Trace.{ones_of}

all_weigh : (n : ℕ) → list_all is_weight (replicate n 1) ≡ true
all_weigh zero = refl
all_weigh (suc n) = all_weigh n

and_true : (b : Bool) → (b && true && true) ≡ b
and_true true = refl
and_true false = refl

-- the table from which the weights are taken
abbrev pub nine : List ℕ
nine = 1 ∷ 1 ∷ 1 ∷ 1 ∷ 1 ∷ 1 ∷ 1 ∷ 1 ∷ 1 ∷ []

first_ones : (n : ℕ) → n ≤ 9 → take n nine ≡ replicate n 1
first_ones n le = take-replicate {X = ℕ} n 9 1 le

are_weights_ones : (n : ℕ) → n ≤ 9 → are_weights (take n nine) ≡ nat_le 1 n
are_weights_ones n le = rw (first_ones n le, length-replicate {A = ℕ} n 1, le-leb n 9 le, all_weigh n) (and_true (nat_le 1 n))

-- the weights of no member
pub no_ones : (n : ℕ) → n ≤ 9 → are_weights (take n nine) ≡ false → ones_of n ≡ None
no_ones n le bad = rw (sym (are_weights_ones n le) ∙ bad) refl

ones_by : (n : ℕ) (b : Bool) → n ≤ 9 → nat_le 1 n ≡ b → (b ≡ false → false ≡ true) → ones_of n ≡ Some (take n nine)
ones_by n true le is good = rw is (ap Some (sym (first_ones n le)))
ones_by n false le is good = absurd (true≢false (sym (good refl)))

-- the weights of some members
pub some_ones : (n : ℕ) → n ≤ 9 → (are_weights (take n nine) ≡ false → false ≡ true) → ones_of n ≡ Some (take n nine)
some_ones n le good = ones_by n (nat_le 1 n) le refl (λ none. good (are_weights_ones n le ∙ none))
