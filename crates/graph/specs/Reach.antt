-- The positions that lists of positions lead to.
use Rattle.std.specs.Prelude.{◌≡◌, ◌⊎◌, ℕ, Bool, true, List, All, Contains}
use Rattle.graph.specs.Lists.{times}

-- The set contains, with each member, all of the member's list.
abbrev pub IsClosed : (ℕ → List ℕ) → (ℕ → Bool) → Type 0
IsClosed next S = (x d : ℕ) → S x ≡ true → Contains (next x) d → S d ≡ true

-- The lists lead from the first position to the second: every closed set that contains the first
-- contains the second.
abbrev pub IsReached : (ℕ → List ℕ) → ℕ → ℕ → Type 0
IsReached next p q = (S : ℕ → Bool) → S p ≡ true → IsClosed next S → S q ≡ true

-- The lists lead to the position from some of these: every closed set that contains all of these
-- contains it.
abbrev pub IsReachedFrom : (ℕ → List ℕ) → List ℕ → ℕ → Type 0
IsReachedFrom next ps q =
    (S : ℕ → Bool) → All (λ p. S p ≡ true) ps → IsClosed next S → S q ≡ true

-- The number is one if the fact holds, otherwise zero.
abbrev pub IsOneIf : Type 0 → ℕ → Type 0
IsOneIf P n = (P × (n ≡ 1)) ⊎ (¬ P × (n ≡ 0))

-- The list contains exactly the positions that are reached, each once.
abbrev pub AreReached : (ℕ → List ℕ) → ℕ → List ℕ → Type 0
AreReached next from ps = (p : ℕ) → IsOneIf (IsReached next from p) (times p ps)

-- The list contains exactly the positions that are reached from some of these, each once.
abbrev pub AreReachedFrom : (ℕ → List ℕ) → List ℕ → List ℕ → Type 0
AreReachedFrom next from ps = (p : ℕ) → IsOneIf (IsReachedFrom next from p) (times p ps)
