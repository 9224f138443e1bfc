use Rattle.std.proofs.Common.{◌∙◌, ◌++◌, ℕ, Vec, ap}
use Rattle.std.specs.declared.alloc.Global.{Global}
use Rattle.faults.specs.Bytes.{Text}
use Rattle.dpbr_run.specs.Events.{datagram_part}
use Rattle.package_lists.proofs.FlatLines.{flat_next}
use Rattle.dpbr_run.proofs.lines.put_datagrams.Goals as goal

pub loop-datagram-preserved : goal.loop-datagram-preserved
loop-datagram-preserved c =
    let part = λ (t : Text). datagram_part c.args.world.now.world.sent c.args.kind c.args.members.now t in
    flat_next (λ (d : Vec ℕ Global). part d.items) _ _ _ c.args.datagrams.now c.loop-datagram.datagram-index
    c.datagram-item.result c.loop-datagram-test.true c.datagram-item.is c.loop-datagram.invariant
    (c.in_ok-put_datagram.ensures ∙ ap (λ (t : Text). c.loop-datagram.text.items ++ part t) c.as_slice.ensures.value)
