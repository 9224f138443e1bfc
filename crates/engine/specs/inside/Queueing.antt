-- Which units wait, and for how many packages.
use Rattle.std.specs.Prelude.{◌≡◌, ◌<◌, ◌⊎◌, ℕ, not, List, None, Some, count_by, length, slice_index_or}
use Rattle.engine.specs.Division.{Division, IsDivision, number_of, unit_at}
use Rattle.engine.specs.declared.Letter.{Letter}
use Rattle.engine.specs.declared.Letter.TheVariants.{T, Q, B, I, Ignored}
use Rattle.engine.specs.shared.Shown.{is_installed, letter_at}

-- how many of the positions have another letter than I
abbrev pub waited_for : List Letter → List ℕ → ℕ
waited_for letters ps = count_by (λ q. not (is_installed (letter_at letters q))) ps

-- what the unit needs to be built
abbrev pub needs_of : Division → ℕ → List ℕ
needs_of d u = (unit_at d u).build

-- The letter of the package at p fits its unit: T while the unit waits, Q when it doesn't, B or I
-- in either case, and Ignored if there is no unit.
abbrev pub FitsUnit : Division → List ℕ → ℕ → Letter → Type 0
FitsUnit d waits p T = (u : ℕ) × (number_of d p ≡ Some u) × (0 < slice_index_or waits u 0)
FitsUnit d waits p Q = (u : ℕ) × (number_of d p ≡ Some u) × (slice_index_or waits u 0 ≡ 0)
FitsUnit d waits p B = (u : ℕ) × (number_of d p ≡ Some u)
FitsUnit d waits p I = (u : ℕ) × (number_of d p ≡ Some u)
FitsUnit d waits p Ignored = number_of d p ≡ None

-- The letters and the wait counts of the units fit each other.
pub record AreFitting (d : Division) (letters : List Letter) (waits : List ℕ) : Type 0 where
  pub division : IsDivision d
  pub each_letter : length letters ≡ length d.tree
  pub each_unit : length waits ≡ length d.units
  pub fit : (p : ℕ) → p < length d.tree → FitsUnit d waits p (letter_at letters p)

-- Each unit's wait count is the number of its build dependencies that have another letter than I.
pub record AreQueueing (d : Division) (letters : List Letter) (waits : List ℕ) : Type 0 where
  pub are_fitting : AreFitting d letters waits
  pub waited : (u : ℕ) → u < length d.units
      → slice_index_or waits u 0 ≡ waited_for letters (needs_of d u)

-- Some packages changed from T to Q, and nothing else changed.
pub record AreQueued (before now : List Letter) : Type 0 where
  pub each : length now ≡ length before
  pub same : (p : ℕ) → (letter_at now p ≡ letter_at before p)
      ⊎ ((letter_at before p ≡ T) × (letter_at now p ≡ Q))
