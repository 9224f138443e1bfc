use Rattle.std.proofs.Common.{refl}
use Rattle.udp.proofs.InboxLemmas.{GoesOn-more, GoesOn-same}
use Rattle.udp.proofs.NoticeLemmas.{NoticesGoOn-more, kept}
use Rattle.udp.proofs.sockets.take_off.Goals as goal

pub loop-seat-init : goal.loop-seat-init
loop-seat-init c = record {
  goes_on = GoesOn-same c.args.inbox.now c.args.inbox.now refl;
  notices = kept c.args.notices.now;
}

pub loop-seat-preserved : goal.loop-seat-preserved
loop-seat-preserved c = record {
  goes_on = GoesOn-more c.args.inbox.now c.loop-seat.inbox c.take_all.new.inbox c.loop-seat.invariant.goes_on c.take_all.ensures.goes_on;
  notices = NoticesGoOn-more c.args.notices.now c.loop-seat.notices c.take_all.new.notices c.loop-seat.invariant.notices c.take_all.ensures.notices;
}
