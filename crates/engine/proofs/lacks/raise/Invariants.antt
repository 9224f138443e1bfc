use Rattle.std.proofs.Common.{◌≡◌, ◌+◌, ◌<◌, ℕ, get_or, length, take}
use Rattle.graph.specs.Lists.{times}
use Rattle.engine.proofs.lacks.raise.Given as goal

abbrev pub invariant-loop-position : goal.invariant-loop-position
invariant-loop-position l = (p : ℕ) → p < length l.initial.lacks → get_or l.lacks p 0 ≡ get_or l.initial.lacks p 0 + times p (take l.position-index l.positions)
