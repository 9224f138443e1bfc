use Rattle.std.proofs.Common.{◌≡◌, IfOk, map, subst}
use Rattle.cluster_turns.specs.State.{ClusterState}
use Rattle.cluster_turns.proofs.cluster.Cluster.into_disks.Goals as goal

pub returns : goal.returns
returns g c =
    subst (λ (cluster : ClusterState g.row.D.Denot g.row.P.Denot).
    IfOk c.disks_of.result (λ disks. disks.items ≡ map (λ n. n.log.disk) cluster.nodes))
    c.self.view_is c.disks_of.ensures
