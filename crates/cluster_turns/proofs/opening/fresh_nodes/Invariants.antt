use Rattle.std.proofs.Common.{◌≡◌, length}
use Rattle.cluster_turns.specs.inside.Opening.{AreFresh}
use Rattle.cluster_turns.proofs.opening.fresh_nodes.Given as goal

abbrev pub invariant-loop-disk : goal.invariant-loop-disk
invariant-loop-disk g l = record {
  count : length l.nodes.items ≡ length l.yielded;
  number : l.me ≡ length l.yielded;
  fresh : AreFresh g.D.Disk l.tree l.weights l.fn.disks.items l.nodes.items;
}
