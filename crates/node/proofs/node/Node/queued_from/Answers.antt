use Rattle.std.proofs.Common.{subst}
use Rattle.engine.specs.State as engines
use Rattle.protocol.specs.State.{engine_of}
use Rattle.node.specs.State.{LoggedNode}
use Rattle.node.proofs.node.Node.queued_from.Goals as goal

pub returns-clause-queued : goal.returns-clause-queued
returns-clause-queued g c =
    subst (λ (n : LoggedNode g.row.D.Denot). engines.IsQueuedFrom (engine_of n.node.member) c.args.from c.queued_from.result) c.self.view_is c.queued_from.ensures.queued
