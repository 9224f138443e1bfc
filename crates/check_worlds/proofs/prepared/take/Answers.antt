use Rattle.std.proofs.Common.{ap, subst, sym}
use Rattle.node.specs.OnLog.{IsOnLog}
use Rattle.node.specs.Step.{Does}
use Rattle.std.proofs.lemmas.Result.{err_from_is_err_and}
use Rattle.check_worlds.proofs.Later.{as_prepared, if_ok_so}
use Rattle.check_worlds.proofs.prepared.take.Goals as goal

pub returns-in_err-ready : goal.returns-in_err-ready
returns-in_err-ready g c =
    let p = err_from_is_err_and c.from_residual.result c.from_residual.ensures.1 in
    rw p.1 (record { handled = tt; on_log = λ kept on. tt })

pub returns : goal.returns
returns g c =
    let old = c.args.node.now in
    let mid = c.prepare.new.self in
    let same = c.in_ok-ready.ensures.same in
    record {
      handled = if_ok_so c.finish.result _ _ (λ out taken.
          as_prepared old.node mid.node c.finish.new.self.node (Does c.args.input) c.in_ok-ready.ready out (ap (λ x. x.node) same) c.in_ok-ready.ensures.step taken) c.finish.ensures.taken;
      on_log = λ kept on. c.finish.ensures.on_log kept (subst (λ x. IsOnLog g.D.Disk.history x) (sym same) on);
    }
