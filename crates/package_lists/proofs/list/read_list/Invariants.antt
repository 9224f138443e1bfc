use Rattle.std.proofs.Common.{length}
use Rattle.package_lists.proofs.Lines.{ReadSoFar}
use Rattle.package_lists.proofs.list.read_list.Given as goal

abbrev pub invariant-lines : goal.invariant-lines
invariant-lines l = ReadSoFar l.text l.left l.number l.packages

abbrev pub decreases-lines : goal.decreases-lines
decreases-lines l = length l.left
