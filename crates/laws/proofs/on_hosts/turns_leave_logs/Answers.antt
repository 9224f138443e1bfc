use Rattle.laws.proofs.Reopened.{turns_leave_logs}
use Rattle.laws.proofs.on_hosts.turns_leave_logs.Goals as goal

pub returns : goal.returns
returns g c =
    turns_leave_logs g.D.Disk g.P.Port
