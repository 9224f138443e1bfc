use Rattle.std.proofs.Common.{◌∙◌, refl}
use Rattle.udp.proofs.Leaving.{IsLeft-none, IsLeft-one}
use Rattle.udp.proofs.udp_port.UdpPort.let_some_leave.Goals as goal

pub loop-init : goal.loop-init
loop-init g c = record {
  left = IsLeft-none c.args.self.now.leaving.waiting.items c.args.self.now.handed.all;
  stays = (refl, refl, refl);
  inbox = refl;
  outbox = refl;
  notices = refl;
  setup = refl;
}

pub loop-preserved : goal.loop-preserved
loop-preserved g c = record {
  left = IsLeft-one c.args.self.now.leaving.waiting.items c.loop.self.leaving.waiting.items c.let_one_leave.new.self.leaving.waiting.items
      c.args.self.now.handed.all c.loop.self.handed.all c.let_one_leave.new.self.handed.all c.loop.invariant.left c.let_one_leave.ensures.left;
  stays = (
    c.let_one_leave.ensures.stays.0 ∙ c.loop.invariant.stays.0,
    c.let_one_leave.ensures.stays.1 ∙ c.loop.invariant.stays.1,
    c.let_one_leave.ensures.stays.2 ∙ c.loop.invariant.stays.2,
  );
  inbox = c.let_one_leave.ensures.seal_stays.0 ∙ c.loop.invariant.inbox;
  outbox = c.let_one_leave.ensures.seal_stays.1 ∙ c.loop.invariant.outbox;
  notices = c.let_one_leave.ensures.notices ∙ c.loop.invariant.notices;
  setup = c.let_one_leave.ensures.setup ∙ c.loop.invariant.setup;
}

pub returns-then-not-let_one_leave-clause-left : goal.returns-then-not-let_one_leave-clause-left
returns-then-not-let_one_leave-clause-left g c =
    IsLeft-one c.args.self.now.leaving.waiting.items c.loop.self.leaving.waiting.items c.let_one_leave.new.self.leaving.waiting.items
    c.args.self.now.handed.all c.loop.self.handed.all c.let_one_leave.new.self.handed.all c.loop.invariant.left c.let_one_leave.ensures.left
