use Rattle.std.proofs.Common.{◌≡◌, vec_capacity}
use Rattle.engine.proofs.Dropping.{IsDropping}
use Rattle.engine.proofs.search.drop.Given as goal

abbrev pub invariant-loop-position : goal.invariant-loop-position
invariant-loop-position l = record {
  dropping : IsDropping l.initial.marks l.initial.dropped.items l.marks l.dropped.items l.positions l.position-index;
  room : vec_capacity l.dropped ≡ vec_capacity l.initial.dropped;
}
