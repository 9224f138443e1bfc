use Rattle.udp.proofs.NoticeLemmas.{kept}
use Rattle.udp.proofs.udp_port.UdpPort.send_away.Goals as goal

pub returns-in_err-is_put-in-Some-clause-notices : goal.returns-in_err-is_put-in-Some-clause-notices
returns-in_err-is_put-in-Some-clause-notices g c = kept c.args.self.now.notices
