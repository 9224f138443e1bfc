use Rattle.turn_rules.proofs.MadeAnswers.{nothing_made}
use Rattle.turn_rules.proofs.laws.nobody_answers_what_is_not_made.Goals as goal

pub returns : goal.returns
returns c = nothing_made
