use Rattle.std.proofs.Common.{refl}
use Rattle.udp.proofs.Coming.{HasCome-none, HasCome-one}
use Rattle.udp.proofs.InboxLemmas.{GoesOn-more, GoesOn-same}
use Rattle.udp.proofs.NoticeLemmas.{NoticesGoOn-more, kept}
use Rattle.udp.proofs.sockets.take_all.Goals as goal

pub loop-init : goal.loop-init
loop-init c = record {
  come = HasCome-none c.args.seat.now.node c.args.inbox.now;
  goes_on = GoesOn-same c.args.inbox.now c.args.inbox.now refl;
  notices = kept c.args.notices.now;
}

pub loop-preserved : goal.loop-preserved
loop-preserved c = record {
  come = HasCome-one c.args.seat.now.node _ c.args.inbox.now c.loop.inbox c.take_one.new.inbox c.loop.invariant.come c.take_one.ensures.heard;
  goes_on = GoesOn-more c.args.inbox.now c.loop.inbox c.take_one.new.inbox c.loop.invariant.goes_on c.take_one.ensures.goes_on;
  notices = NoticesGoOn-more c.args.notices.now c.loop.notices c.take_one.new.notices c.loop.invariant.notices c.take_one.ensures.notices_go_on;
}
