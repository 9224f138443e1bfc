use Rattle.std.proofs.Common.{◌≡◌}
use Rattle.udp.specs.Calls.{setup_of}
use Rattle.udp.specs.Inbox.{GoesOn}
use Rattle.udp.specs.Leaving.{IsLeft}
use Rattle.udp.specs.Notices.{NoticesGoOn}
use Rattle.udp.proofs.udp_port.UdpPort.look.Given as goal

abbrev pub invariant-loop-look : goal.invariant-loop-look
invariant-loop-look g l = record {
  goes_on : GoesOn l.fn.self.inbox l.self.inbox;
  notices : NoticesGoOn l.fn.self.notices l.self.notices;
  outbox : l.self.outbox ≡ l.fn.self.outbox;
  stays : (l.self.failures ≡ l.fn.self.failures) × (l.self.sends ≡ l.fn.self.sends) × (l.self.hurry ≡ l.fn.self.hurry);
  leaving : IsLeft l.fn.self.leaving.waiting.items l.fn.self.handed.all l.self.leaving.waiting.items l.self.handed.all;
  setup : setup_of l.self ≡ setup_of l.fn.self;
}
