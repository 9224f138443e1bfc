use Rattle.std.proofs.Common.{◌≡◌, ◌≤◌, length}
use Rattle.dpbn_cluster.proofs.answering.logs_of_files.Given as goal

abbrev pub invariant-loop-member : goal.invariant-loop-member
invariant-loop-member l = (length l.disks.items ≡ l.member) × (l.member ≤ l.members)
