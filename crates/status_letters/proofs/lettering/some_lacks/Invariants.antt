use Rattle.std.proofs.Common.{◌≡◌, ◌<◌, ℕ, false, get_or}
use Rattle.graph.specs.Marks.{has_mark}
use Rattle.status_letters.proofs.lettering.some_lacks.Given as goal

abbrev pub invariant-loop-position : goal.invariant-loop-position
invariant-loop-position l = (k : ℕ) → k < l.position-index → has_mark l.lacking (get_or l.positions k 0) ≡ false
