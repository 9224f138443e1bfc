use Rattle.std.proofs.Common.{◌≡◌, ◌++◌, length, map}
use Rattle.faults.specs.Answers.{first_given}
use Rattle.faults.specs.Bytes.{bar}
use Rattle.faults.specs.Pieces.{pieces_at}
use Rattle.pkgspec.specs.Spec.{alternative_fault, alternative_of}
use Rattle.pkgspec.proofs.spec.parse_alternatives.Given as goal

abbrev pub invariant-alternatives : goal.invariant-alternatives
invariant-alternatives l = record {
  read : map alternative_of (pieces_at bar l.fn.text) ≡ l.alternatives.items ++ map alternative_of l.left;
  faultless : first_given alternative_fault (pieces_at bar l.fn.text) ≡ first_given alternative_fault l.left;
}

abbrev pub decreases-alternatives : goal.decreases-alternatives
decreases-alternatives l = length l.left
