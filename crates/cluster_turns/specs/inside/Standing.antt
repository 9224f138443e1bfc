-- How contracts see a cluster's fields, and the invariant of these.
use Rattle.std.specs.Prelude.{◌≡◌, ◌+◌, ◌<◌, length}
use Rattle.cluster_turns.specs.Unfailed.{EachFailedBelow}
use Rattle.cluster_turns.specs.AnyCase.{StandsInAnyCase}
use Rattle.cluster_turns.specs.State.{ClusterState, IsWorldOf}
use Rattle.cluster_turns.specs.declared.cluster.Cluster.TheInside.{Inside}
use Rattle.engine.specs.Division.{IsDivision}
use Rattle.world.specs.World.{World}

-- the cluster
abbrev pub cluster_of : {D P : Type 0} → Inside D P → ClusterState D P
cluster_of c = record {
  division = c.units;
  weights = c.weights;
  nodes = c.nodes.items;
  sent = c.sent;
  events = c.events.items;
  pending = c.pending;
  port = c.port;
}

-- The invariant of a cluster. It is some world, whatever was left of each step during which a node
-- went down. Below its position, each node's only queued packages are those whose units failed.
pub record IsCluster {D P : Type 0} (c : Inside D P) : Type 0 where
  pub tree : c.units.tree ≡ c.tree.now
  pub divided : IsDivision c.units
  pub world : World
  pub is_world : IsWorldOf (cluster_of c) world
  pub count : length c.nodes.items ≡ length c.weights
  pub placed : c.pending.next < length c.nodes.items + 1
  pub any_case : StandsInAnyCase (cluster_of c)
  pub below : EachFailedBelow c.nodes.items c.pending c.unfailed
