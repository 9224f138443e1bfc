-- Which packages are not installable, given which are held. A set of positions is given by its
-- characteristic function.
use Rattle.std.specs.Prelude.{◌≡◌, ◌<◌, ◌↔◌, ℕ, Bool, false, List, [], Contains, cond, length}
use Rattle.graph.specs.Marks.{has_mark}
use Rattle.listing.specs.Tree.{Tree, run_at}
use Rattle.engine.specs.Letters.{IsInstallable}

-- the run dependencies of the package at a position if it is held, otherwise none
abbrev pub held_runs : Tree → (ℕ → Bool) → ℕ → List ℕ
held_runs tree held p = cond (held p) (run_at tree p) []

-- The set contains exactly the packages that are not installable.
abbrev pub AreLacking : Tree → (ℕ → Bool) → (ℕ → Bool) → Type 0
AreLacking tree held lacking =
    (p : ℕ) → p < length tree → (lacking p ≡ false) ↔ IsInstallable tree held p

-- These are the positions below n that have no mark.
abbrev pub AreUnmarked : List Bool → ℕ → List ℕ → Type 0
AreUnmarked marks n ps = (p : ℕ) → Contains ps p ↔ ((p < n) × (has_mark marks p ≡ false))
