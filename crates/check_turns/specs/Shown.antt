-- What a node of a cluster shows.
use Rattle.std.specs.Prelude.{◌≡◌, ℕ, true, false, Some, slice_get}
use Rattle.engine.specs.State.{AreCounts}
use Rattle.engine.specs.declared.Counts.{Counts}
use Rattle.protocol.specs.State.{engine_of}
use Rattle.cluster_turns.specs.State.{ClusterState, IsWorldOf}
use Rattle.world.specs.Happening.{is_up}
use Rattle.world.specs.World.{World, WorldNode, member_at}

-- In each world that the cluster is, the node is up, and these are the counts of its letters.
abbrev pub AreCountsAt : {D P : Type 0} → ClusterState D P → ℕ → Counts → Type 0
AreCountsAt c k counts =
    (w : World) → IsWorldOf c w → (x : WorldNode) × (slice_get w.nodes k ≡ Some x)
    × (x.up ≡ true) × AreCounts (engine_of (member_at w k x)) counts

-- In each world that the cluster is, the node is down or doesn't exist.
abbrev pub IsDownAt : {D P : Type 0} → ClusterState D P → ℕ → Type 0
IsDownAt c k = (w : World) → IsWorldOf c w → is_up w k ≡ false
