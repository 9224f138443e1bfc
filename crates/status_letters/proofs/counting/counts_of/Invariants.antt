use Rattle.std.proofs.Common.{◌≡◌, take}
use Rattle.engine.specs.State.{counts_of}
use Rattle.status_letters.proofs.counting.counts_of.Given as goal

abbrev pub invariant-loop-letter : goal.invariant-loop-letter
invariant-loop-letter l = l.counts ≡ counts_of (take l.letter-index l.letters)
