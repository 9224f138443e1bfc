use Rattle.std.proofs.Common.{◌≡◌, false}
use Rattle.node.proofs.Readying.{input_may, input_ready, input_refused, stopped_input}
use Rattle.node.proofs.node.Node.prepare.Goals as goal

pub prepare_input-requires-clause-pieces : goal.prepare_input-requires-clause-pieces
prepare_input-requires-clause-pieces g c = rw (← c.self.view_is) (record { each = c.self.invariant.node.pieces; once = c.self.invariant.node.once; let_through = c.self.invariant.node.let_through })

pub returns-then-self-clause-step : goal.returns-then-self-clause-step
returns-then-self-clause-step g c = rw (← c.self.view_is) (stopped_input _ c.args.input c.if-self.true)

pub returns-in-Ok-clause-step : goal.returns-in-Ok-clause-step
returns-in-Ok-clause-step g c =
    let running : c.args.self.now.node.stopped ≡ false = rw (← c.self.view_is) c.if-self.false in
    rw c.prepare_input.ensures.same (input_ready c.args.self.now.node c.args.input running c.in-Ok.ready c.in-Ok.ensures.step)

pub returns-in-Ok-clause-ready : goal.returns-in-Ok-clause-ready
returns-in-Ok-clause-ready g c =
    let running : c.args.self.now.node.stopped ≡ false = rw (← c.self.view_is) c.if-self.false in
    rw c.prepare_input.ensures.same (input_may c.args.self.now.node c.args.input running c.in-Ok.ready c.in-Ok.ensures.step)

pub returns-in-Err-clause-step : goal.returns-in-Err-clause-step
returns-in-Err-clause-step g c =
    let running : c.args.self.now.node.stopped ≡ false = rw (← c.self.view_is) c.if-self.false in
    rw (c.prepare_input.ensures.same, c.refused.ensures) (input_refused c.args.self.now.node c.args.input running c.in-Err.refusal c.in-Err.ensures.step)
