use Rattle.std.proofs.Common.{◌≡◌, ◌<◌, ℕ, All, [], get_or, true, vec_capacity}
use Rattle.graph.specs.Marks.{has_mark}
use Rattle.engine.specs.inside.Searching.{AreParted}
use Rattle.engine.proofs.search.drop_lacking.Given as goal

abbrev pub invariant-loop-position : goal.invariant-loop-position
invariant-loop-position l = record {
  parted : AreParted l.initial.marks l.marks [] l.dropped.items;
  only : (p : ℕ) → has_mark l.marks p ≡ true → has_mark l.initial.marks p ≡ true;
  rest : (k : ℕ) → k < l.position-index → has_mark l.marks (get_or l.found k 0) ≡ true → get_or l.lacks (get_or l.found k 0) 0 ≡ 0;
  some : All (λ p. 0 < get_or l.lacks p 0) l.dropped.items;
  room : vec_capacity l.dropped ≡ vec_capacity l.initial.dropped;
}
