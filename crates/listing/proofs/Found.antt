-- The result of a search for the last byte that passes.
use Rattle.std.proofs.Common.{◌≡◌, ◌<◌, ◌≤◌, ◌+◌, ℕ, Bool, true, false, List, length, get_or, arith}
use Rattle.faults.proofs.FirstPlaces.{not_true}

-- no byte after the last one found passes
pub none_behind : (p : ℕ → Bool) (xs : List ℕ) (i : ℕ) → ((k : ℕ) → i + 1 ≤ k → k < length xs → ¬ (p (get_or xs k 0) ≡ true))
    → (k : ℕ) → i < k → k < length xs → p (get_or xs k 0) ≡ false
none_behind p xs i h k above below = not_true (p (get_or xs k 0)) (h k (omega arith) below)

-- no byte passes
pub none_found : (p : ℕ → Bool) (xs : List ℕ) → ((k : ℕ) → 0 ≤ k → k < length xs → ¬ (p (get_or xs k 0) ≡ true))
    → (k : ℕ) → k < length xs → p (get_or xs k 0) ≡ false
none_found p xs h k below = not_true (p (get_or xs k 0)) (h k (omega arith) below)
