use Rattle.std.proofs.Common.{subst}
use Rattle.engine.specs.State.{IsEngine, IsQueuedFrom, State}
use Rattle.engine.proofs.Reading.{is_engine, is_queued_from}
use Rattle.engine.proofs.engine.Engine.queued_from.Goals as goal

pub returns-clause-queued : goal.returns-clause-queued
returns-clause-queued c = subst (λ (s : State). IsQueuedFrom s c.args.from c.queued_from.result) c.self.view_is
    (is_queued_from c.self.invariant.1 c.args.from c.queued_from.result c.queued_from.ensures)

pub returns-clause-engine : goal.returns-clause-engine
returns-clause-engine c = subst IsEngine c.self.view_is (is_engine c.self.invariant.1)
