-- How a disk counts its failures, and what a refused call has done.
use Rattle.std.specs.Prelude.{◌≡◌, ◌⊎◌, ℕ, ◌+◌, ◌≤◌, ◌==◌, nat_le, nat_lt, Bool, if◌then◌else◌, List, ◌∷◌, length, take, drop, min, ◌-◌, Result, Ok, Err, OnOk, OnErr, IsErrOf}
use Rattle.stable_record.specs.declared.disk_fault.DiskFault.{DiskFault}
use Rattle.stable_record.specs.declared.disk_fault.DiskFault.TheVariants.{Memory, Device}
use Rattle.stable_record.specs.declared.fault_disk.Failing.{Failing}
use Rattle.stable_record.specs.declared.fault_disk.Failing.TheVariants.{Once, From}
use Rattle.stable_record.specs.History.{History, Call, written, cut_to, synced, seen, overwritten}
use Rattle.stable_record.specs.Crash.{Torn, CutOrNot}

-- the count after one more failure; it stays at the maximum
abbrev pub one_more : ℕ → ℕ
one_more count = if nat_lt count 18446744073709551615 then count + 1 else count

-- the count after a call: only failures of the device are counted
abbrev pub counted : {T : Type 0} → Result T DiskFault → ℕ → ℕ
counted (Ok x) count = count
counted (Err Memory) count = count
counted (Err Device) count = one_more count

-- Whether the call with this number should fail.
abbrev pub is_due : Failing → ℕ → Bool
is_due (Once call) number = number == call
is_due (From call) number = nat_le call number

-- The count rose between the two; a count at the maximum counts as risen.
abbrev pub HasRisen : ℕ → ℕ → Type 0
HasRisen before now = one_more before ≤ now

-- The effect of a call. If the device failed, the call may have been done partly, completely or not
-- at all, and a read then returns what such a call may leave. If it ran out of memory, the call was
-- not done.
pub record Does {T : Type 0} (call : List ℕ → Call) (right : List ℕ)
    (partly : List ℕ → List ℕ → Type 0) (old new : History) (result : Result T DiskFault)
    : Type 0 where
  pub done : OnOk result (new ≡ call right ∷ old)
  pub failed : IsErrOf result Device
      → (new ≡ old) ⊎ ((after : List ℕ) × partly (seen old) after × (new ≡ call after ∷ old))
  pub refused : IsErrOf result Memory → new ≡ old

-- a write of these bytes
abbrev pub Writes : {T : Type 0} → ℕ → List ℕ → History → History → Result T DiskFault → Type 0
Writes at bytes old new result =
    Does (written at (length bytes)) (overwritten at bytes (seen old))
    (Torn at (length bytes)) old new result

-- a cut to this length
abbrev pub Cuts : {T : Type 0} → ℕ → History → History → Result T DiskFault → Type 0
Cuts len old new result = Does (cut_to len) (take len (seen old)) (CutOrNot len) old new result

-- a sync; one that failed has no effect
abbrev pub Syncs : {T : Type 0} → History → History → Result T DiskFault → Type 0
Syncs old new result = OnOk result (new ≡ synced ∷ old) × OnErr result (new ≡ old)

-- The first `count` bytes of the buffer are those of the file at this place, and `count` is as
-- large as the buffer and the file allow.
pub record ReadsAt (file : List ℕ) (at count : ℕ) (buf : List ℕ) : Type 0 where
  pub bytes : take count buf ≡ take count (drop at file)
  pub all : count ≡ min (length buf) (length file - at)
