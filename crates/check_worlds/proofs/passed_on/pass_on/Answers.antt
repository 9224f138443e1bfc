use Rattle.node.specs.Step.{Does}
use Rattle.std.proofs.lemmas.Result.{err_from_is_err_and}
use Rattle.check_worlds.proofs.Following.{notes_stay, ok_if}
use Rattle.check_worlds.proofs.Later.{passed}
use Rattle.check_worlds.proofs.passed_on.pass_on.Goals as goal

pub returns-in_err-out : goal.returns-in_err-out
returns-in_err-out g c =
    let p = err_from_is_err_and c.from_residual.result c.from_residual.ensures.1 in
    rw p.1 (record { passed_on = tt; noted = λ kept on. tt })

pub returns : goal.returns
returns g c = record {
  passed_on = passed c.receive_first.result c.args.sender.now.node c.handle.new.self.node c.args.receiver.now.node c.receive_first.new.receiver.node (Does c.args.input) c.in_ok-out.out
      c.in_ok-out.ensures.taken c.receive_first.ensures;
  noted = λ kept on. ok_if c.receive_first.result _ (notes_stay g.D.Disk.history c.handle.new.self (c.in_ok-out.ensures.on_log kept on));
}
