use Rattle.datagram_ports.proofs.Calls.{WentThrough-append}
use Rattle.datagram_ports.proofs.laws.calls_go_on.Goals as goal

pub returns : goal.returns
returns g c = WentThrough-append g.P.Port.does
