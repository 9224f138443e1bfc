use Rattle.std.proofs.Common.{inl, inr}
use Rattle.node.specs.Step.{Comes}
use Rattle.check_worlds.proofs.Later.{as_left, handled_later, if_ok_so}
use Rattle.check_worlds.proofs.refused.receive_either.Goals as goal

pub returns-in-Ok : goal.returns-in-Ok
returns-in-Ok g c = inl c.in-Ok.ensures.taken

pub returns-in-Err : goal.returns-in-Err
returns-in-Err g c =
    let old = c.args.node.now.node in
    let mid = c.handle_datagram.new.self.node in
    let new = c.handle_datagram-in-Err.new.self.node in
    let first = Comes c.args.first.now in
    let second = Comes c.args.second.now in
    if_ok_so c.handle_datagram-in-Err.result _ _ (λ out later. inr later)
    (handled_later c.handle_datagram-in-Err.result old mid new first second _ (as_left old mid first c.in-Err._refused c.in-Err.ensures.left)
    c.handle_datagram-in-Err.ensures.stopped c.handle_datagram-in-Err.ensures.taken)
