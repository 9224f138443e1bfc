use Rattle.std.proofs.Common.{inl, inr, refl}
use Rattle.node.specs.Step.{Comes, Does}
use Rattle.check_worlds.proofs.Later.{as_left, by_the_same, handled_later, if_ok_so}
use Rattle.check_worlds.proofs.refused.take_or_receive.Goals as goal

pub returns-in-Ok : goal.returns-in-Ok
returns-in-Ok g c = inl c.in-Ok.ensures.taken

pub returns-in-Err : goal.returns-in-Err
returns-in-Err g c =
    let old = c.args.node.now.node in
    let mid = c.handle.new.self.node in
    let new = c.handle_datagram.new.self.node in
    let first = Does c.args.input in
    let second = Comes c.args.bytes.now in
    if_ok_so c.handle_datagram.result _ _ (λ out later. inr (by_the_same old new first second out refl later))
    (handled_later c.handle_datagram.result old mid new first second _ (as_left old mid first c.in-Err._refused c.in-Err.ensures.left)
    c.handle_datagram.ensures.stopped c.handle_datagram.ensures.taken)
