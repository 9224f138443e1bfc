use Rattle.std.proofs.Common.{subst}
use Rattle.node.specs.Calls.{HasHandled}
use Rattle.node.specs.Step.{Comes}
use Rattle.check_worlds.proofs.Later.{if_ok_so}
use Rattle.check_worlds.proofs.reopened.receive_after_reopening.Goals as goal

pub returns-in-Ok : goal.returns-in-Ok
returns-in-Ok g c =
    let handled = c.handle_datagram-answer.ensures in
    let new = c.handle_datagram-answer.new.self.node in
    record {
      handled = λ kept on own.
          let before = handled.kept kept in
          if_ok_so c.handle_datagram-answer.result _ _
          (λ out taken. subst (λ x. HasHandled x new (Comes c.args.bytes.now) out) (c.in-Ok.ensures.opened before on own) taken) handled.taken;
      on_log = λ kept. handled.on_log kept (c.in-Ok.ensures.on_log (handled.kept kept));
    }
