use Rattle.std.proofs.Common.{◌≡◌, ◌++◌, length}
use Rattle.udp.specs.Calls.{setup_of}
use Rattle.udp.specs.Leaving.{texts_of}
use Rattle.udp.proofs.udp_port.UdpPort.flush.Given as goal

abbrev pub invariant-loop-self : goal.invariant-loop-self
invariant-loop-self g l = record {
  all : l.fn.self.handed.all ++ texts_of l.fn.self.leaving.waiting.items ≡ l.self.handed.all ++ texts_of l.self.leaving.waiting.items;
  stays : (l.self.failures ≡ l.fn.self.failures) × (l.self.sends ≡ l.fn.self.sends) × (l.self.hurry ≡ l.fn.self.hurry);
  inbox : l.self.inbox ≡ l.fn.self.inbox;
  outbox : l.self.outbox ≡ l.fn.self.outbox;
  notices : l.self.notices ≡ l.fn.self.notices;
  setup : setup_of l.self ≡ setup_of l.fn.self;
}

abbrev pub decreases-loop-self : goal.decreases-loop-self
decreases-loop-self g l = length l.self.leaving.waiting.items
