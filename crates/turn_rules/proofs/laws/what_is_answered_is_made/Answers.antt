use Rattle.turn_rules.proofs.MadeAnswers.{answers_what_is_made}
use Rattle.turn_rules.proofs.laws.what_is_answered_is_made.Goals as goal

pub returns : goal.returns
returns c = answers_what_is_made
