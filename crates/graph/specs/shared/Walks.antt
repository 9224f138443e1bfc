-- Marks by position, and the list of the marked positions, as a walk stores them.
use Rattle.std.specs.Prelude.{◌≡◌, ◌≤◌, ℕ, Bool, true, false, List, Vec, count_by, length, vec_capacity}
use Rattle.graph.specs.Lists.{one_if, times}
use Rattle.graph.specs.Marks.{has_mark}
use Rattle.graph.specs.Reach.{IsClosed}

-- The lists lead from the first set to all of the second: every closed set that contains the first
-- contains the second.
abbrev pub LeadsTo : (ℕ → List ℕ) → (ℕ → Bool) → (ℕ → Bool) → Type 0
LeadsTo next from to =
    (S : ℕ → Bool) → IsClosed next S → ((p : ℕ) → from p ≡ true → S p ≡ true)
    → (p : ℕ) → to p ≡ true → S p ≡ true

-- The list contains exactly the marked positions, each once.
pub record AreFound (marks : List Bool) (found : List ℕ) : Type 0 where
  pub once : (p : ℕ) → times p found ≡ one_if (has_mark marks p)
  pub as_many : count_by (λ m. m) marks ≡ length found

-- Between two walks nothing is marked, and there is room to find all positions.
pub record IsIdle {Z : Type 0} (marks : List Bool) (found : Vec ℕ Z) : Type 0 where
  pub unmarked : (p : ℕ) → has_mark marks p ≡ false
  pub room : length marks ≤ vec_capacity found
