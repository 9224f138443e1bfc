-- The invariant of the parts of an engine.
use Rattle.std.specs.Prelude.{◌≡◌, ◌<◌, ◌^◌, ℕ, Bool, List, length, slice_index_or}
use Rattle.graph.specs.Lists.{AreReversed}
use Rattle.graph.specs.Walked.{Walked}
use Rattle.listing.specs.Tree.{run_at}
use Rattle.engine.specs.Division.{Division}
use Rattle.engine.specs.declared.Letter.{Letter}
use Rattle.engine.specs.declared.Letter.TheVariants.{B, I}
use Rattle.engine.specs.Letters.{IsInstallable}
use Rattle.engine.specs.inside.Queueing.{AreQueueing, needs_of, waited_for}
use Rattle.engine.specs.shared.Shown.{is_held, letter_at}

-- Whether the package at the position is held, by its letter.
abbrev pub holds : List Letter → ℕ → Bool
holds letters p = is_held (letter_at letters p)

-- The letters are those of the packages. For each package, the number of its run dependencies with
-- another letter than I is counted, and for each unit, what it waits for. If a package has the
-- letter B, no set of held packages contains it and all run dependencies of its members.
pub record AreKept
    (d : Division) (letters : List Letter) (lacks waits : List ℕ) (runs needs : List (List ℕ))
    (search : Walked) : Type 0 where
  pub queueing : AreQueueing d letters waits
  pub each : length lacks ≡ length d.tree
  pub are_lacks : (p : ℕ) → p < length d.tree
      → slice_index_or lacks p 0 ≡ waited_for letters (run_at d.tree p)
  pub few : (p : ℕ) → p < length d.tree → length (run_at d.tree p) < 2 ^ 64
  pub installed : (p : ℕ) → letter_at letters p ≡ I → slice_index_or lacks p 0 ≡ 0
  pub built : (p : ℕ) → letter_at letters p ≡ B → ¬ IsInstallable d.tree (holds letters) p
  pub runs_turned : AreReversed (length d.tree) (length d.tree) (run_at d.tree) runs
  pub needs_turned : AreReversed (length d.tree) (length d.units) (needs_of d) needs
  pub over_all : search.len ≡ length d.tree
