use Rattle.engine.proofs.SomeLetter.{some_letter}
use Rattle.engine.proofs.laws.each_package_has_a_letter.Goals as goal

pub returns : goal.returns
returns c = some_letter
