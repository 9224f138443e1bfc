use Rattle.udp.proofs.Leaving.{HasLeft-taken}
use Rattle.udp.proofs.udp_port.UdpPort.let_one_leave.Goals as goal

pub returns-clause-left : goal.returns-clause-left
returns-clause-left g c =
    HasLeft-taken c.args.self.now.leaving.waiting.items c.take_at.new.self.waiting.items c.args.self.now.handed.all c.note_handed.new.handed.all
    c.in-Some-take_at.gone c.in-Some-take_at.ensures.taken c.note_handed.ensures
