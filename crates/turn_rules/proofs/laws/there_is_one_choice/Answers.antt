use Rattle.turn_rules.proofs.OneChoice.{only_one}
use Rattle.turn_rules.proofs.SomeOwn.{some_choice}
use Rattle.turn_rules.proofs.laws.there_is_one_choice.Goals as goal

pub returns-clause-only_one : goal.returns-clause-only_one
returns-clause-only_one c = only_one

pub returns-clause-some : goal.returns-clause-some
returns-clause-some c = some_choice
