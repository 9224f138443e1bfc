-- Nodes over logs without notes.
use Rattle.std.specs.Prelude.{◌≡◌, ℕ, List, [], Some, slice_get}
use Rattle.listing.specs.Tree.{Tree}
use Rattle.node.specs.Calls.{IsOpened}
use Rattle.node.specs.OnLog.{IsOnLog}
use Rattle.node.specs.State.{LoggedNode}
use Rattle.cluster_turns.specs.Starting.{StandsFresh}
use Rattle.stable_record.specs.declared.disk.Disk.{Ghosts as Disk}

-- The member's node is up over a log without notes, on the disk that was passed for it.
pub record IsFresh {D : Type 0} (disk : Disk D) (tree : Tree) (weights : List ℕ) (me : ℕ)
    (passed : D) (n : LoggedNode D) : Type 0 where
  pub opened : IsOpened tree weights me n.node
  pub empty : n.node.notes ≡ []
  pub on_log : disk.is_kept n.log.disk → IsOnLog disk.history n
  pub stands : StandsFresh disk n passed

-- Each of these nodes is fresh, over the disk at its place.
pub record AreFresh {D : Type 0} (disk : Disk D) (tree : Tree) (weights : List ℕ) (disks : List D)
    (nodes : List (LoggedNode D)) : Type 0 where
  pub each : (k : ℕ) (n : LoggedNode D) → slice_get nodes k ≡ Some n
      → (passed : D) × (slice_get disks k ≡ Some passed)
      × IsFresh disk tree weights k passed n
