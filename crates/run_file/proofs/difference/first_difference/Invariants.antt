use Rattle.run_file.proofs.Differing.{AreSameSoFar}
use Rattle.run_file.proofs.difference.first_difference.Given as goal

abbrev pub invariant-loop-byte : goal.invariant-loop-byte
invariant-loop-byte l = AreSameSoFar l.text l.other l.byte-index l.line l.rest
