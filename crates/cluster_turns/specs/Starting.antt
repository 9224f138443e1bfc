-- What a cluster is made of, and why none can be made.
use Rattle.std.specs.Prelude.{◌≡◌, ◌≢◌, ◌<◌, ◌⊎◌, ℕ, List, [], ◌∷◌, Some, Ok, slice_get}
use Rattle.turn_rules.specs.declared.fault.TurnFault.{TurnFault}
use Rattle.turn_rules.specs.declared.fault.TurnFault.TheVariants.{Memory, Node, Down, NotSent, NotFresh}
use Rattle.listing.specs.Tree.{Tree}
use Rattle.node.specs.Calls.{IsOpenFault, IsOpened}
use Rattle.node.specs.OnLog.{identity, identity_of}
use Rattle.node.specs.State.{LoggedNode}
use Rattle.node.specs.declared.fault.NodeFault.TheVariants as fault
use Rattle.stable_record.specs.Crash.{AllAlong}
use Rattle.stable_record.specs.Faults.{HasRisen}
use Rattle.stable_record.specs.History.{seen}
use Rattle.stable_record.specs.Log.{Note}
use Rattle.stable_record.specs.Opening.{Opens, OpensAsLeft}
use Rattle.stable_record.specs.declared.log_fault.LogFault.TheVariants as log
use Rattle.stable_record.specs.declared.disk.Disk.{Ghosts as Disk}

-- The node is on the disk that was passed for it, which had no notes. At each moment, a crash left
-- only what it could have left before.
pub record StandsFresh {D : Type 0} (disk : Disk D) (n : LoggedNode D) (passed : D) : Type 0 where
  pub kept : disk.is_kept n.log.disk → disk.is_kept passed
  pub fresh : disk.is_kept n.log.disk
      → Opens (identity_of n.node.member) (seen (disk.history passed)) (Ok [])
  pub any_moment : disk.is_kept n.log.disk
      → AllAlong (OpensAsLeft (identity_of n.node.member) (disk.history passed))
      (disk.history passed) (disk.history n.log.disk)

-- Why no node can be opened over the disk: memory ran out, its log can't be opened, or it has
-- notes.
abbrev pub IsOpeningFault : {D : Type 0} → Disk D → Tree → List ℕ → ℕ → D → TurnFault → Type 0
IsOpeningFault disk tree weights k passed Memory = Prim.Unit {0}
IsOpeningFault {D} disk tree weights k passed (Node f) =
    (after : D) × (f ≢ fault.Memory)
    × (disk.is_kept after → IsOpenFault tree weights k (seen (disk.history passed)) f)
    × (f ≡ fault.Log log.Device → HasRisen (disk.failures_of passed) (disk.failures_of after))
IsOpeningFault disk tree weights k passed (Down j) = ⊥
IsOpeningFault disk tree weights k passed NotSent = ⊥
IsOpeningFault {D} disk tree weights k passed NotFresh =
    (after : D) × (note : Note) × (notes : List Note)
    × (disk.is_kept after
    → Opens (identity tree weights k) (seen (disk.history passed)) (Ok (note ∷ notes)))

-- A node of the member was opened over the disk, which had no notes.
pub record IsOpenedFresh {D : Type 0} (disk : Disk D) (tree : Tree) (weights : List ℕ) (k : ℕ)
    (passed : D) : Type 0 where
  pub node : LoggedNode D
  pub opened : IsOpened tree weights k node.node
  pub stands : StandsFresh disk node passed

-- It fails first at one disk: nodes were opened over those before it, and none can be opened over
-- it.
pub record FailsFirstAt {D : Type 0} (disk : Disk D) (tree : Tree) (weights : List ℕ)
    (disks : List D) (f : TurnFault) : Type 0 where
  pub place : ℕ
  pub passed : D
  pub stands : slice_get disks place ≡ Some passed
  pub before : (j : ℕ) (earlier : D) → j < place → slice_get disks j ≡ Some earlier
      → IsOpenedFresh disk tree weights j earlier
  pub refused : IsOpeningFault disk tree weights place passed f

-- Why no cluster can be made: memory ran out, or no node can be opened over one of the disks.
abbrev pub IsNewFault : {D : Type 0} → Disk D → Tree → List ℕ → List D → TurnFault → Type 0
IsNewFault disk tree weights disks f =
    (f ≡ Memory) ⊎ FailsFirstAt disk tree weights disks f
