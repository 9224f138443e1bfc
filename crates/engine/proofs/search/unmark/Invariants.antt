use Rattle.std.proofs.Common.{◌≡◌, ◌<◌, ℕ, false, true, get_or}
use Rattle.graph.specs.Marks.{has_mark}
use Rattle.engine.proofs.search.unmark.Given as goal

abbrev pub invariant-loop-position : goal.invariant-loop-position
invariant-loop-position l = record {
  fewer : (p : ℕ) → has_mark l.marks p ≡ true → has_mark l.initial.marks p ≡ true;
  taken : (k : ℕ) → k < l.position-index → has_mark l.marks (get_or l.found k 0) ≡ false;
}
