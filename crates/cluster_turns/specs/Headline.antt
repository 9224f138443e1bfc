-- What holds of a cluster at each moment.
use Rattle.cluster_turns.specs.AnyCase.{IsListedInAnyCase}
use Rattle.cluster_turns.specs.State.{ClusterState, IsWorldOf, taken}
use Rattle.world.specs.Headline.{HasOneList}
use Rattle.one_list.specs.MatchingLaws.{IsSafe}
use Rattle.world.specs.World.{World}

-- The cluster is a world, to which its events lead from the start. So what holds of each run holds
-- of it. This also holds, for the nodes that are up, whatever was left of the steps during which
-- nodes went down.
pub record HasHeadline {D P : Type 0} (c : ClusterState D P) : Type 0 where
  pub world : (w : World) × IsWorldOf c w
  pub one_list : (w : World) → IsWorldOf c w → HasOneList c.division c.weights (taken c) w
  pub safe : (w : World) → IsWorldOf c w → IsSafe c.division c.weights (taken c) w
  pub any_case : IsListedInAnyCase c
