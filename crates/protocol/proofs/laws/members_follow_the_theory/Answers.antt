use Rattle.protocol.proofs.Answering.{message_is}
use Rattle.protocol.proofs.Asked.{input_is}
use Rattle.protocol.proofs.laws.members_follow_the_theory.Goals as goal

pub returns-clause-inputs : goal.returns-clause-inputs
returns-clause-inputs c = λ s letter input a is no e. input_is s letter input a is no e

pub returns-clause-messages : goal.returns-clause-messages
returns-clause-messages c = λ s letter m a is e. message_is s m a is e
