-- Which packages may become installable when one is built, and which of them do.
use Rattle.std.specs.Prelude.{◌≡◌, ◌+◌, ◌<◌, ◌≤◌, ◌++◌, ℕ, Bool, true, false, List, [], Vec, All, Contains, count_by, length, slice_index_or, sum_by, vec_capacity}
use Rattle.graph.specs.Lists.{list_at, one_if, times}
use Rattle.graph.specs.Marks.{has_mark}
use Rattle.graph.specs.shared.Walks.{AreFound}
use Rattle.engine.specs.declared.Letter.{Letter}
use Rattle.engine.specs.declared.Letter.TheVariants.{B}
use Rattle.engine.specs.shared.Shown.{letter_at}

-- how many are marked
abbrev pub marked_many : List Bool → ℕ
marked_many marks = count_by (λ m. m) marks

-- Between two searches nothing is marked, and there is room to find all packages and to drop all.
pub record AreIdle {Z : Type 0} (marks : List Bool) (found dropped : Vec ℕ Z) : Type 0 where
  pub unmarked : (p : ℕ) → has_mark marks p ≡ false
  pub room : length marks ≤ vec_capacity found
  pub room_to_drop : length marks ≤ vec_capacity dropped

-- how many times the lists of these positions contain the position
abbrev pub told : List (List ℕ) → ℕ → List ℕ → ℕ
told lists p xs = sum_by (λ x. times p (list_at lists x)) xs

-- The position is marked; for each marked one, the built ones in its list are marked too; and all
-- marked ones are built.
pub record IsGathered
    (letters : List Letter) (runs : List (List ℕ)) (p : ℕ) (marks : List Bool)
    (found : List ℕ) : Type 0 where
  pub are_found : AreFound marks found
  pub itself : has_mark marks p ≡ true
  pub built : (q : ℕ) → has_mark marks q ≡ true → letter_at letters q ≡ B
  pub closed : (x y : ℕ) → has_mark marks x ≡ true → Contains (list_at runs x) y
      → letter_at letters y ≡ B → has_mark marks y ≡ true

-- Those that lost their marks were dropped, each once.
pub record AreParted
    (marks_before marks : List Bool) (dropped_before dropped : List ℕ) : Type 0 where
  pub once : (p : ℕ) → one_if (has_mark marks p) + times p dropped
      ≡ one_if (has_mark marks_before p) + times p dropped_before
  pub as_many : marked_many marks + length dropped
      ≡ marked_many marks_before + length dropped_before

-- Some of these positions, which were marked, were appended to the dropped ones.
abbrev pub Adds : List ℕ → List Bool → List ℕ → List ℕ → Type 0
Adds positions marks before dropped =
    (more : List ℕ) × (dropped ≡ before ++ more)
    × All (λ y. Contains positions y × (has_mark marks y ≡ true)) more

-- The set contains, with each member, all marked ones in its list.
abbrev pub IsClosedIn : List (List ℕ) → List Bool → (ℕ → Bool) → Type 0
IsClosedIn runs marks S =
    (x y : ℕ) → S x ≡ true → Contains (list_at runs x) y → has_mark marks y ≡ true → S y ≡ true

-- Each such set that contains the first ones contains all dropped ones.
abbrev pub IsCaused : List (List ℕ) → List Bool → List ℕ → List ℕ → Type 0
IsCaused runs marks first dropped =
    (S : ℕ → Bool) → All (λ q. S q ≡ true) first → IsClosedIn runs marks S
    → All (λ q. S q ≡ true) dropped

-- Of the found packages, which were marked, some are left, which lack nothing, and some were
-- dropped, which lack something. The count of each package is lower by the number of times that the
-- lists of those that are left contain it. A set contains all dropped ones if it is closed among
-- the marked ones and contains those that lack more than marked ones.
pub record IsSifted
    (runs : List (List ℕ)) (found : List ℕ) (marks left : List Bool)
    (dropped before now : List ℕ) : Type 0 where
  pub parted : AreParted marks left [] dropped
  pub lacked : (p : ℕ) → p < length before
      → slice_index_or now p 0 + told runs p found ≡ slice_index_or before p 0 + told runs p dropped
  pub rest : (p : ℕ) → has_mark left p ≡ true → slice_index_or now p 0 ≡ 0
  pub some : All (λ q. 0 < slice_index_or now q 0) dropped
  pub caused : (S : ℕ → Bool)
      → ((y : ℕ) → has_mark marks y ≡ true → told runs y found < slice_index_or before y 0
      → S y ≡ true)
      → IsClosedIn runs marks S → All (λ q. S q ≡ true) dropped

-- what is known of the packages found for a position
pub record IsSettled
    (letters : List Letter) (before now : List ℕ) (runs : List (List ℕ)) (p : ℕ)
    (found : List ℕ) : Type 0 where
  pub marks : List Bool
  pub left : List Bool
  pub dropped : List ℕ
  pub gathered : IsGathered letters runs p marks found
  pub sifted : IsSifted runs found marks left dropped before now
