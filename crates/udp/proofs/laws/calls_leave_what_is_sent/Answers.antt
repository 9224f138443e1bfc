use Rattle.udp.proofs.SentAway.{leave_what_is_sent}
use Rattle.udp.proofs.laws.calls_leave_what_is_sent.Goals as goal

pub returns : goal.returns
returns g c = leave_what_is_sent
