use Rattle.std.proofs.Common.{[], refl}
use Rattle.udp.proofs.Granted.{does_as_before}
use Rattle.udp.proofs.udp_port.UdpPortPort.grant.Goals as goal

pub returns-clause-granted : goal.returns-clause-granted
returns-clause-granted g c = (c.args.self.now.granted.all, ([], c.note.ensures))

pub returns-clause-does : goal.returns-clause-does
returns-clause-does g c = does_as_before c.args.self.now c.note.new.self _ refl
