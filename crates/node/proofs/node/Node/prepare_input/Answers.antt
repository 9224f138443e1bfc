use Rattle.std.proofs.lemmas.Result.{err_from_is_err_and}
use Rattle.node.proofs.Readying.{step_lost, step_prepared, step_refused, step_written}
use Rattle.node.proofs.node.Node.prepare_input.Goals as goal

pub invariant_of-self : goal.invariant_of-self
invariant_of-self g c = rw c.prepare.ensures.same c.self.invariant

pub returns-in-Err-clause-step : goal.returns-in-Err-clause-step
returns-in-Err-clause-step g c =
    rw (← c.self.view_is) (step_refused _ c.args.input c.args.change _ c.in-Err.ensures.step)

pub returns-in-Err-clause-same : goal.returns-in-Err-clause-same
returns-in-Err-clause-same g c = rw c.prepare.ensures.same c.self.view_is

pub of-requires-clause-sends : goal.of-requires-clause-sends
of-requires-clause-sends g c = (step_written _ c.self.invariant.node c.args.input c.requires.message c.in-Ok.step c.in-Ok.ensures.step).sends

pub of-requires-clause-note : goal.of-requires-clause-note
of-requires-clause-note g c = (step_written _ c.self.invariant.node c.args.input c.requires.message c.in-Ok.step c.in-Ok.ensures.step).note

pub invariant_of-self-in_err-of : goal.invariant_of-self-in_err-of
invariant_of-self-in_err-of g c = rw c.prepare.ensures.same c.self.invariant

pub returns-in_err-of-clause-step : goal.returns-in_err-of-clause-step
returns-in_err-of-clause-step g c =
    let p = err_from_is_err_and c.from_residual.result c.from_residual.ensures.1 in
    rw (p.1, p.2, ← c.self.view_is) (step_lost _ c.args.input c.args.change _ c.in-Ok.ensures.step)

pub returns-in_err-of-clause-same : goal.returns-in_err-of-clause-same
returns-in_err-of-clause-same g c = rw c.prepare.ensures.same c.self.view_is

pub invariant_of-self-2 : goal.invariant_of-self-2
invariant_of-self-2 g c = rw c.prepare.ensures.same c.self.invariant

pub returns-clause-step : goal.returns-clause-step
returns-clause-step g c =
    let kept = rw (← c.self.view_is) at c.requires.pieces in
    rw (c.in_ok-of.ensures, ← c.self.view_is)
    (step_prepared _ c.self.invariant.node c.args.input c.requires.message c.in-Ok.step c.in-Ok.ensures.step c.in-Ok.ensures.taken c.args.change kept)

pub returns-clause-same : goal.returns-clause-same
returns-clause-same g c = rw c.prepare.ensures.same c.self.view_is
