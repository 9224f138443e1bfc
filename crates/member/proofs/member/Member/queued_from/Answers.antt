use Rattle.std.proofs.Common.{rules, ap, subst, ◌∙◌}
use Rattle.engine.specs.State as engines
use Rattle.protocol.specs.State.{engine_of}
use Rattle.member.proofs.member.Member.queued_from.Goals as goal

pub returns-clause-queued : goal.returns-clause-queued
returns-clause-queued c =
    subst (λ e. engines.IsQueuedFrom e c.args.from c.queued_from.result)
    (c.self.invariant.engine ∙ ap engine_of c.self.view_is) c.queued_from.ensures.queued

pub returns-clause-member : goal.returns-clause-member
returns-clause-member c = search rules
