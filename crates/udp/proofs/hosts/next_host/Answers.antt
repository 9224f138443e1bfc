use Rattle.udp.proofs.FirstBad.{WritesNoOther-again}
use Rattle.udp.proofs.hosts.next_host.Goals as goal

pub returns-then-is_among : goal.returns-then-is_among
returns-then-is_among c = WritesNoOther-again c.args.earlier.now c.args.part.now c.in_ok-host.host c.in_ok-host.ensures (c.is_among.ensures.0 c.if-is_among.true)
