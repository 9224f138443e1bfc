use Rattle.udp.proofs.NotifyLemmas.{AreNotified-more}
use Rattle.udp.proofs.udp_port.notifying.notify_each.Goals as goal

pub loop-to-preserved : goal.loop-to-preserved
loop-to-preserved c = λ text is.
    AreNotified-more c.args.seats.now c.args.addresses.now c.args.from text c.loop-to.to
    (record { waiting = c.args.leaving.now.waiting.items; tallies = c.args.tallies.now.members.items })
    (record { waiting = c.loop-to.leaving.waiting.items; tallies = c.loop-to.tallies.members.items })
    (record { waiting = c.notify.new.leaving.waiting.items; tallies = c.notify.new.tallies.members.items })
    (c.loop-to.invariant text is) (c.notify.ensures text is)
