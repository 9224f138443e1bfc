use Rattle.std.proofs.lemmas.Result.{err_from_is_err_and}
use Rattle.node.specs.Step.{Comes, Does}
use Rattle.check_worlds.proofs.Following.{none_lost, none_lost_then}
use Rattle.check_worlds.proofs.chained.take_then_receive.Goals as goal

pub returns-in_err-first : goal.returns-in_err-first
returns-in_err-first g c =
    let p = err_from_is_err_and c.from_residual.result c.from_residual.ensures.1 in
    let old = c.args.node.now in
    rw p.1
    (record {
      handled = tt;
      on_log = λ kept on. tt;
      no_note_lost = λ kept on. none_lost g.D.Disk.history old on (Does c.args.input) (g.D.Disk.history c.handle.new.self.log.disk) (c.handle.ensures.any_moment kept on);
    })

pub returns-in_err-second : goal.returns-in_err-second
returns-in_err-second g c =
    let p = err_from_is_err_and c.from_residual-in_err-second.result c.from_residual-in_err-second.ensures.1 in
    let old = c.args.node.now in
    let mid = c.handle.new.self in
    let new = c.handle_datagram.new.self in
    let h = g.D.Disk.history in
    rw p.1
    (record {
      handled = tt;
      on_log = λ kept on. tt;
      no_note_lost = λ kept on.
          let before = c.handle_datagram.ensures.kept kept in
          none_lost_then old.node mid.node (Does c.args.input) c.in_ok-first.first (h old.log.disk) (h mid.log.disk) (h new.log.disk) c.in_ok-first.ensures.taken
          (none_lost h old on (Does c.args.input) (h mid.log.disk) (c.handle.ensures.any_moment before on))
          (none_lost h mid (c.in_ok-first.ensures.on_log before on) (Comes c.args.bytes.now) (h new.log.disk) (c.handle_datagram.ensures.any_moment kept (c.in_ok-first.ensures.on_log before on)));
    })

pub returns : goal.returns
returns g c =
    let old = c.args.node.now in
    let mid = c.handle.new.self in
    let new = c.handle_datagram.new.self in
    let h = g.D.Disk.history in
    record {
      handled = record { between = mid.node; one = c.in_ok-first.ensures.taken; other = c.in_ok-second.ensures.taken };
      on_log = λ kept on. c.in_ok-second.ensures.on_log kept (c.in_ok-first.ensures.on_log (c.handle_datagram.ensures.kept kept) on);
      no_note_lost = λ kept on.
          let before = c.handle_datagram.ensures.kept kept in
          none_lost_then old.node mid.node (Does c.args.input) c.in_ok-first.first (h old.log.disk) (h mid.log.disk) (h new.log.disk) c.in_ok-first.ensures.taken
          (none_lost h old on (Does c.args.input) (h mid.log.disk) (c.handle.ensures.any_moment before on))
          (none_lost h mid (c.in_ok-first.ensures.on_log before on) (Comes c.args.bytes.now) (h new.log.disk) (c.handle_datagram.ensures.any_moment kept (c.in_ok-first.ensures.on_log before on)));
    }
