use Rattle.std.proofs.Common.{◌∙◌, refl}
use Rattle.udp.proofs.InboxLemmas.{GoesOn-more, GoesOn-same}
use Rattle.udp.proofs.Leaving.{IsLeft-more, IsLeft-none}
use Rattle.udp.proofs.NoticeLemmas.{NoticesGoOn-more, kept}
use Rattle.udp.proofs.udp_port.UdpPort.look.Goals as goal

pub loop-look-init : goal.loop-look-init
loop-look-init g c = record {
  goes_on = GoesOn-same c.args.self.now.inbox c.args.self.now.inbox refl;
  notices = kept c.args.self.now.notices;
  outbox = refl;
  stays = (refl, refl, refl);
  leaving = IsLeft-none c.args.self.now.leaving.waiting.items c.args.self.now.handed.all;
  setup = refl;
}

pub loop-look-preserved : goal.loop-look-preserved
loop-look-preserved g c = record {
  goes_on = GoesOn-more c.args.self.now.inbox c.loop-look.self.inbox c.look_once.new.self.inbox c.loop-look.invariant.goes_on c.look_once.ensures.goes_on;
  notices = NoticesGoOn-more c.args.self.now.notices c.loop-look.self.notices c.look_once.new.self.notices c.loop-look.invariant.notices c.look_once.ensures.notices;
  outbox = c.look_once.ensures.outbox ∙ c.loop-look.invariant.outbox;
  stays = (
    c.look_once.ensures.stays.0 ∙ c.loop-look.invariant.stays.0,
    c.look_once.ensures.stays.1 ∙ c.loop-look.invariant.stays.1,
    c.look_once.ensures.stays.2 ∙ c.loop-look.invariant.stays.2,
  );
  leaving = IsLeft-more c.args.self.now.leaving.waiting.items c.loop-look.self.leaving.waiting.items c.look_once.new.self.leaving.waiting.items
      c.args.self.now.handed.all c.loop-look.self.handed.all c.look_once.new.self.handed.all c.loop-look.invariant.leaving c.look_once.ensures.leaving;
  setup = c.look_once.ensures.setup ∙ c.loop-look.invariant.setup;
}

pub returns-then-not-is_empty-clause-leaving : goal.returns-then-not-is_empty-clause-leaving
returns-then-not-is_empty-clause-leaving g c =
    IsLeft-more c.args.self.now.leaving.waiting.items c.loop-look.self.leaving.waiting.items c.look_once.new.self.leaving.waiting.items
    c.args.self.now.handed.all c.loop-look.self.handed.all c.look_once.new.self.handed.all c.loop-look.invariant.leaving c.look_once.ensures.leaving
