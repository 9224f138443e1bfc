use Rattle.std.proofs.Common.{◌≡◌, ◌+◌, ℕ, cond, length, nat_eq, take, vec_capacity}
use Rattle.graph.specs.Lists.{list_at, times}
use Rattle.graph.specs.inside.Links.{AreLinked, linked_lists}
use Rattle.graph.proofs.naming.Naming.add.Given as goal

abbrev pub invariant-loop-other : goal.invariant-loop-other
invariant-loop-other l = record {
  linked : AreLinked l.self-inside.links.items l.self-inside.latest.items;
  each : length l.self-inside.latest.items ≡ length l.fn.self;
  named : (d x : ℕ) → times x (list_at (linked_lists l.self-inside.links.items l.self-inside.latest.items) d)
      ≡ times x (list_at l.fn.self d) + cond (nat_eq l.position x) (times d (take l.other-index l.named)) 0;
  len : length l.self-inside.links.items ≡ length l.initial.self-inside.links.items + l.other-index;
  room : vec_capacity l.self-inside.links ≡ vec_capacity l.initial.self-inside.links;
}
