-- What follows for a cluster from its events.
use Rattle.one_list.proofs.clauses.OneListOfRuns.{each_has_one_list, each_run_is_acts}
use Rattle.one_list.specs.MatchingLaws.{IsSafe}
use Rattle.package_record.proofs.BuildsRead.{build_is_read}
use Rattle.cluster_turns.specs.State.{ClusterState, IsWorldOf, taken}
use Rattle.world.specs.Headline.{HasOneList}
use Rattle.world.specs.World.{World}

pub one_list : {D P : Type 0} (c : ClusterState D P) (w : World) → IsWorldOf c w
    → HasOneList c.division c.weights (taken c) w
one_list c w is =
    (each_has_one_list each_run_is_acts build_is_read c.division c.weights (taken c) w is.made
    is.led).0

pub safe : {D P : Type 0} (c : ClusterState D P) (w : World) → IsWorldOf c w
    → IsSafe c.division c.weights (taken c) w
safe c w is =
    (each_has_one_list each_run_is_acts build_is_read c.division c.weights (taken c) w is.made
    is.led).1
