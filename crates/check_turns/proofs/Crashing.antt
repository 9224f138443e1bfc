-- A disk in memory that failed in a turn, and what a crash leaves of it.
use Rattle.std.proofs.Common.{◌≡◌, ◌<◌, ℕ, length, slice_index_or, subst}
use Rattle.std.specs.Prelude.{⊤}
use Rattle.cluster_turns.proofs.Places.{stands_at}
use Rattle.protocol.specs.Events.{Event}
use Rattle.node.specs.State.{LoggedNode}
use Rattle.stable_record.specs.Crash.{MayLeave}
use Rattle.stable_record.specs.Failing.{history_of, room_of}
use Rattle.stable_record.specs.InMemory.{mem_history}
use Rattle.stable_record.specs.Memory.{left_file}
use Rattle.stable_record.specs.declared.disk.Disk.{Ghosts as Disk}
use Rattle.stable_record.specs.declared.fault_disk.FaultDisk.{FaultDisk}
use Rattle.stable_record.specs.declared.mem_disk.Left.{Left}
use Rattle.stable_record.specs.declared.mem_disk.MemDisk.{MemDisk}
use Rattle.cluster_turns.specs.State.{ClusterState}
use Rattle.cluster_turns.specs.Turn.{WentDown}
use Rattle.check_turns.specs.Reopened.{IsLeftOf}

-- what contracts see of a disk in memory whose calls can be made to fail
abbrev pub fault_disk : Disk FaultDisk
fault_disk = record {
  history = history_of;
  is_kept = λ disk. ⊤;
  failures_of = λ disk. disk.failures;
  room = room_of;
}

-- a crash may leave what the disk is set to leave
pub left_in_memory : {P : Type 0} (old new : ClusterState FaultDisk P) (e : Event) (k : ℕ)
    → WentDown old new e k → (n : LoggedNode FaultDisk) → n ≡ slice_index_or new.nodes k n
    → k < length new.nodes → (inner : MemDisk) → inner ≡ n.log.disk.inner → (left : Left)
    → MayLeave (mem_history inner) (left_file left (mem_history inner))
    → IsLeftOf fault_disk old new k (left_file left (mem_history inner))
left_in_memory old new e k down n value below inner is_inner left may = record {
  before = down.before;
  stood = down.stood;
  kept_before = tt;
  after = n;
  stands = stands_at new.nodes k n value below;
  kept = tt;
  may = subst (λ (d : MemDisk). MayLeave (mem_history d) (left_file left (mem_history inner)))
      is_inner may;
}
