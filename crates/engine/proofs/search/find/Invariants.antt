use Rattle.std.proofs.Common.{◌≡◌, vec_capacity}
use Rattle.engine.proofs.Finding.{IsFinding}
use Rattle.engine.proofs.search.find.Given as goal

abbrev pub invariant-loop-position : goal.invariant-loop-position
invariant-loop-position l = record {
  finding : IsFinding l.letters l.initial.marks l.initial.found.items l.marks l.found.items l.positions l.position-index;
  room : vec_capacity l.found ≡ vec_capacity l.initial.found;
}
