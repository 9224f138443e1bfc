use Rattle.std.proofs.Common.{◌≡◌}
use Rattle.udp.specs.Calls.{setup_of}
use Rattle.udp.specs.Leaving.{IsLeft}
use Rattle.udp.proofs.udp_port.UdpPort.let_some_leave.Given as goal

abbrev pub invariant-loop : goal.invariant-loop
invariant-loop g l = record {
  left : IsLeft l.fn.self.leaving.waiting.items l.fn.self.handed.all l.self.leaving.waiting.items l.self.handed.all;
  stays : (l.self.failures ≡ l.fn.self.failures) × (l.self.sends ≡ l.fn.self.sends) × (l.self.hurry ≡ l.fn.self.hurry);
  inbox : l.self.inbox ≡ l.fn.self.inbox;
  outbox : l.self.outbox ≡ l.fn.self.outbox;
  notices : l.self.notices ≡ l.fn.self.notices;
  setup : setup_of l.self ≡ setup_of l.fn.self;
}
