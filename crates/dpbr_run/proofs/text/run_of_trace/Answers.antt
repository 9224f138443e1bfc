use Rattle.std.proofs.Common.{inl, inr}
use Rattle.std.proofs.lemmas.Result.{err_from_is_err_and, IfErr-weaker}
use Rattle.dpbr_run.proofs.Refusing.{event_refused}
use Rattle.dpbr_run.proofs.text.run_of_trace.Goals as goal

pub returns-in_err-trace-clause-refused : goal.returns-in_err-trace-clause-refused
returns-in_err-trace-clause-refused c =
    let p = err_from_is_err_and c.from_residual.result c.from_residual.ensures.1 in
    rw (p.1, p.2) (inr (inl c.in_err-trace.ensures.refused))

pub returns-clause-ok : goal.returns-clause-ok
returns-clause-ok c = c.run_of_events.ensures.ok c.args.trace.now c.in_ok-trace.ensures.ok

pub returns-clause-refused : goal.returns-clause-refused
returns-clause-refused c =
    IfErr-weaker c.run_of_events.result _ _ (event_refused c.args.trace.now c.args.tree.now) (c.run_of_events.ensures.refused c.args.trace.now c.in_ok-trace.ensures.ok)
