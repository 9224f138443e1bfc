use Rattle.udp.proofs.Leaving.{HandsOver-none, HandsOver-taken}
use Rattle.udp.proofs.udp_port.UdpPort.let_first_leave.Goals as goal

pub returns-in_default-clause-first : goal.returns-in_default-clause-first
returns-in_default-clause-first g c =
    HandsOver-none c.args.self.now.leaving.waiting.items c.take_first.new.self.waiting.items c.args.self.now.handed.all c.in_default.ensures.none c.in_default.ensures.first

pub returns-clause-first : goal.returns-clause-first
returns-clause-first g c =
    HandsOver-taken c.args.self.now.leaving.waiting.items c.take_first.new.self.waiting.items c.args.self.now.handed.all c.note_handed.new.handed.all
    c.in-Some.first c.in-Some.ensures.first c.note_handed.ensures
