use Rattle.std.proofs.Common.{Bool, IfOk, subst, sym}
use Rattle.dpbr_run.specs.Run.{IsResultOf}
use Rattle.dpbr_run.proofs.events.result_of.Goals as goal

pub returns-then-has_events-clause-ok : goal.returns-then-has_events-clause-ok
returns-then-has_events-clause-ok c read is =
    subst (λ (b : Bool). IfOk c.run_with_events.result (λ text. IsResultOf b c.args.tree.now read text.items)) (sym c.if-has_events.true)
    (c.run_with_events.ensures.ok read is)

pub returns-else-has_events-clause-ok : goal.returns-else-has_events-clause-ok
returns-else-has_events-clause-ok c read is =
    subst (λ (b : Bool). IfOk c.run_of_events.result (λ text. IsResultOf b c.args.tree.now read text.items)) (sym c.if-has_events.false)
    (c.run_of_events.ensures.ok read is)
