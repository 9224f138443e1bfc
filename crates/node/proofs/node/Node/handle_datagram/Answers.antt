use Rattle.std.proofs.Common.{Err, ap, inl}
use Rattle.std.proofs.lemmas.Result.{err_from_is_err_and}
use Rattle.node.proofs.OneStep.{filled_is_ready, ready_lacks}
use Rattle.node.specs.Step.{Comes}
use Rattle.node.proofs.node.Node.handle_datagram.Goals as goal

pub returns-in_err-ready-clause-full : goal.returns-in_err-ready-clause-full
returns-in_err-ready-clause-full g c =
    let p = err_from_is_err_and c.from_residual.result c.from_residual.ensures.1 in
    rw (p.1, p.2)
    (λ filled. inl (ap Err (filled_is_ready c.args.self.now (Comes c.args.bytes.now) filled c.prepare_datagram.new.self.node c.in_err-ready.field-0.0 c.in_err-ready.ensures.step)))

pub returns-clause-full : goal.returns-clause-full
returns-clause-full g c = λ filled.
    let lacks = ready_lacks c.args.self.now (Comes c.args.bytes.now) filled c.prepare_datagram.new.self.node c.in_ok-ready.ready c.in_ok-ready.ensures.step in
    c.finish.ensures.full (rw c.in_ok-ready.ensures.same lacks)
