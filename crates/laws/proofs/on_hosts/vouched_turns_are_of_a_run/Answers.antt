use Rattle.laws.proofs.OnHosts.{vouched_turns_are_of_a_run}
use Rattle.laws.proofs.on_hosts.vouched_turns_are_of_a_run.Goals as goal

pub returns : goal.returns
returns g c =
    vouched_turns_are_of_a_run g.D.Disk
    g.P.Port
