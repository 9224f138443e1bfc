use Rattle.std.proofs.Common.{◌≡◌, ◌∙◌, ◌++◌, true, false}
use Rattle.udp.proofs.Leaving.{HandsOver-all, HandsOver-fewer}
use Rattle.udp.specs.Leaving.{texts_of}
use Rattle.udp.proofs.udp_port.UdpPort.flush.Goals as goal

pub loop-self-smaller : goal.loop-self-smaller
loop-self-smaller g c =
    HandsOver-fewer c.loop-self.self.leaving.waiting.items c.let_first_leave-naps.new.self.leaving.waiting.items
    c.loop-self.self.handed.all c.let_first_leave-naps.new.self.handed.all c.let_first_leave-naps.ensures.first
    (λ none. absurd (let bad : false ≡ true = c.loop-self-test.ensures.1 none in cc))

pub loop-self-preserved : goal.loop-self-preserved
loop-self-preserved g c = record {
  all = HandsOver-all c.loop-self.self.leaving.waiting.items c.let_first_leave-naps.new.self.leaving.waiting.items
      c.loop-self.self.handed.all c.let_first_leave-naps.new.self.handed.all
      (c.args.self.now.handed.all ++ texts_of c.args.self.now.leaving.waiting.items) c.let_first_leave-naps.ensures.first c.loop-self.invariant.all;
  stays = (
    c.let_first_leave-naps.ensures.stays.0 ∙ c.loop-self.invariant.stays.0,
    c.let_first_leave-naps.ensures.stays.1 ∙ c.loop-self.invariant.stays.1,
    c.let_first_leave-naps.ensures.stays.2 ∙ c.loop-self.invariant.stays.2,
  );
  inbox = c.let_first_leave-naps.ensures.seal_stays.0 ∙ c.loop-self.invariant.inbox;
  outbox = c.let_first_leave-naps.ensures.seal_stays.1 ∙ c.loop-self.invariant.outbox;
  notices = c.let_first_leave-naps.ensures.notices ∙ c.loop-self.invariant.notices;
  setup = c.let_first_leave-naps.ensures.setup ∙ c.loop-self.invariant.setup;
}
