-- The invariant of a snapshot's letters.
use Rattle.std.specs.Prelude.{◌≡◌, ◌<◌, ℕ, Bool, List, length}
use Rattle.listing.specs.Tree.{IsTree, Tree}
use Rattle.engine.specs.Letters.{IsLetter}
use Rattle.engine.specs.declared.Letter.{Letter}
use Rattle.engine.specs.shared.Keeping.{holds}
use Rattle.engine.specs.shared.Shown.{letter_at}

-- The letters are those of the packages if these are held.
abbrev pub AreLettersOf : Tree → (ℕ → Bool) → List Letter → Type 0
AreLettersOf tree held letters =
    (p : ℕ) → p < length tree → IsLetter tree held p (letter_at letters p)

-- There is a letter for each package, and it is the right one if exactly the packages with a letter
-- of held ones are held.
pub record AreShown (tree : Tree) (letters : List Letter) : Type 0 where
  pub few : IsTree tree
  pub each : length letters ≡ length tree
  pub are : AreLettersOf tree (holds letters) letters
