use Rattle.datagram_ports.proofs.Waiting.{left_waiting}
use Rattle.datagram_ports.proofs.laws.calls_leave_waiting.Goals as goal

pub returns : goal.returns
returns c = left_waiting
