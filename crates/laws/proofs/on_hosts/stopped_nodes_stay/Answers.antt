use Rattle.laws.proofs.Stopped.{stopped_stays}
use Rattle.laws.proofs.on_hosts.stopped_nodes_stay.Goals as goal

pub returns : goal.returns
returns g c =
    stopped_stays g.D.Disk g.P.Port
