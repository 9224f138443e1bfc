use Rattle.std.proofs.Common.{◌≡◌, map}
use Rattle.cluster_turns.proofs.cluster.disks_of.Given as goal

abbrev pub invariant-loop-node : goal.invariant-loop-node
invariant-loop-node g l = l.disks.items ≡ map (λ n. n.log.disk) l.yielded
