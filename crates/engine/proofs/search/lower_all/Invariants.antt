use Rattle.std.proofs.Common.{◌≡◌, ◌+◌, ◌<◌, ℕ, get_or, length, take}
use Rattle.engine.specs.inside.Searching.{told}
use Rattle.engine.proofs.search.lower_all.Given as goal

abbrev pub invariant-loop-position : goal.invariant-loop-position
invariant-loop-position l = (p : ℕ) → p < length l.initial.lacks
    → get_or l.lacks p 0 + told l.runs p (take l.position-index l.found) ≡ get_or l.initial.lacks p 0
