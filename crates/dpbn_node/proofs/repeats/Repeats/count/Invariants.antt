use Rattle.std.proofs.Common.{◌≡◌, ◌++◌, drop, length, map, take}
use Rattle.dpbn_node.specs.Repeats.{once_more}
use Rattle.dpbn_node.proofs.repeats.Repeats.count.Given as goal

abbrev pub invariant-loop-place : goal.invariant-loop-place
invariant-loop-place l = record {
  many : length l.self.known.items ≡ length l.fn.self.known.items;
  so_far : l.self.known.items ≡ map (once_more l.number) (take l.place l.fn.self.known.items) ++ drop l.place l.fn.self.known.items;
}
