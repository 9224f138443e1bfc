use Rattle.node.proofs.Readying.{message_ready, message_refused}
use Rattle.node.proofs.node.Node.prepare_message.Goals as goal

pub prepare_input-requires-clause-message : goal.prepare_input-requires-clause-message
prepare_input-requires-clause-message g c = c.requires.message

pub prepare_input-requires-clause-pieces : goal.prepare_input-requires-clause-pieces
prepare_input-requires-clause-pieces g c = c.requires.pieces

pub returns-in-Ok-clause-step : goal.returns-in-Ok-clause-step
returns-in-Ok-clause-step g c = message_ready c.args.self.now.node c.args.message c.args.change c.in-Ok.ready c.in-Ok.ensures.step

pub returns-in-Ok-clause-same : goal.returns-in-Ok-clause-same
returns-in-Ok-clause-same g c = c.prepare_input.ensures.same

pub returns-in-Err-clause-step : goal.returns-in-Err-clause-step
returns-in-Err-clause-step g c =
    rw c.foreign.ensures (message_refused c.args.self.now.node c.args.message c.args.change c.in-Err.refusal c.in-Err.ensures.step)

pub returns-in-Err-clause-same : goal.returns-in-Err-clause-same
returns-in-Err-clause-same g c = c.prepare_input.ensures.same
