use Rattle.claims.proofs.Restored.{answer_noted, message_noted}
use Rattle.claims.proofs.one_path.steps_are_noted.Goals as goal

pub returns-clause-message : goal.returns-clause-message
returns-clause-message g c = λ enough x closed. message_noted _ enough x closed

pub returns-clause-input : goal.returns-clause-input
returns-clause-input g c = λ enough x closed. answer_noted _ enough x closed
