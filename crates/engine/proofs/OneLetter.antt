-- A package has one letter.
use Rattle.std.proofs.Common.{rules}
use Rattle.engine.specs.Laws.{OnlyOneLetterApplies}

pub only_one_letter : OnlyOneLetterApplies
only_one_letter = search rules
