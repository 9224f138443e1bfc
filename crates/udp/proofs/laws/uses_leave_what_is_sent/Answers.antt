use Rattle.udp.proofs.UsedPort.{leaves_by_use}
use Rattle.udp.proofs.laws.uses_leave_what_is_sent.Goals as goal

pub returns : goal.returns
returns g c = leaves_by_use
