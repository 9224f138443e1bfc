use Rattle.std.proofs.Common.{◌≡◌, drop, length}
use Rattle.listing.specs.Dependencies.{words_of}
use Rattle.listing.proofs.Numbers.{ReadSoFar}
use Rattle.listing.proofs.dependency.Dependencies.read.Given as goal

abbrev pub invariant-words : goal.invariant-words
invariant-words l = record {
  read : ReadSoFar l.line l.value l.initial.self l.self l.numbers.items (length l.numbers.items);
  left : drop (length l.numbers.items) (words_of l.value) ≡ words_of l.left;
}

abbrev pub decreases-words : goal.decreases-words
decreases-words l = length l.left
