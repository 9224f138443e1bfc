-- Calls that are followed by a sync.
use Rattle.std.specs.Prelude.{◌≡◌, ◌⊎◌, ℕ, ◌+◌, ◌≤◌, List, ◌∷◌, length, take, Result, OnOk, OnErr, IsErrOf}
use Rattle.stable_record.specs.declared.disk_fault.DiskFault.{DiskFault}
use Rattle.stable_record.specs.declared.disk_fault.DiskFault.TheVariants.{Memory}
use Rattle.stable_record.specs.History.{History, written, cut_to, synced, seen, overwritten}
use Rattle.stable_record.specs.Room.{Room}

-- A write followed by a sync. On `Ok` both were done. Otherwise neither was, or only the write, and
-- then this says nothing about what a read returns.
pub record WritesDown {T : Type 0} (at : ℕ) (bytes : List ℕ) (old new : History)
    (result : Result T DiskFault) : Type 0 where
  pub done : OnOk result
      (new ≡ synced ∷ written at (length bytes) (overwritten at bytes (seen old)) ∷ old)
  pub failed : OnErr result
      ((new ≡ old) ⊎ ((after : List ℕ) × (new ≡ written at (length bytes) after ∷ old)))

-- A cut followed by a sync. On `Ok` both were done. Otherwise neither was, or only the cut, and
-- then this says nothing about what a read returns.
pub record CutsDown {T : Type 0} (len : ℕ) (old new : History) (result : Result T DiskFault)
    : Type 0 where
  pub done : OnOk result (new ≡ synced ∷ cut_to len (take len (seen old)) ∷ old)
  pub failed : OnErr result ((new ≡ old) ⊎ ((after : List ℕ) × (new ≡ cut_to len after ∷ old)))

-- The calls run out of memory only if the disk doesn't have room for this number of calls and
-- bytes, and they use no more room than that.
pub record UsesRoomFor {T : Type 0} (bytes calls : ℕ) (old new : Room) (result : Result T DiskFault)
    : Type 0 where
  pub enough : bytes ≤ old.bytes → calls ≤ old.calls → ¬ (IsErrOf result Memory)
  pub bytes_left : old.bytes ≤ new.bytes + bytes
  pub calls_left : old.calls ≤ new.calls + calls
