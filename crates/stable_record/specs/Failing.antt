-- What a disk does that is set to fail.
use Rattle.std.specs.Prelude.{◌≡◌, ◌↔◌, Result, IsErrOf, IsTrue}
use Rattle.stable_record.specs.declared.disk_fault.DiskFault.{DiskFault}
use Rattle.stable_record.specs.declared.disk_fault.DiskFault.TheVariants.{Device}
use Rattle.stable_record.specs.declared.fault_disk.FaultDisk.{FaultDisk}
use Rattle.stable_record.specs.Faults.{is_due, one_more}
use Rattle.stable_record.specs.History.{History}
use Rattle.stable_record.specs.InMemory.{mem_history, mem_room}
use Rattle.stable_record.specs.Room.{Room}

-- the history of the disk in memory inside it
abbrev pub history_of : FaultDisk → History
history_of disk = mem_history disk.inner

-- how much can be written to it without running out of memory
abbrev pub room_of : FaultDisk → Room
room_of disk = mem_room disk.inner

-- The call is counted, and the device fails if and only if the call is one that should fail; a call
-- that fails has no effect.
pub record FailsAsTold {T : Type 0} (old new : FaultDisk) (result : Result T DiskFault)
    : Type 0 where
  pub counted : new.calls ≡ one_more old.calls
  pub due : IsErrOf result Device ↔ IsTrue (is_due old.failing new.calls)
  pub no_effect : IsErrOf result Device → new.inner ≡ old.inner
  pub same_plan : new.failing ≡ old.failing

-- The call isn't counted, and the device doesn't fail.
pub record IsNotCounted {T : Type 0} (old new : FaultDisk) (result : Result T DiskFault)
    : Type 0 where
  pub same_calls : new.calls ≡ old.calls
  pub never : ¬ (IsErrOf result Device)
  pub same_plan : new.failing ≡ old.failing
