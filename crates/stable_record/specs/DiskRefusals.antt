-- The numbers of a disk's refusals.
use Rattle.std.specs.Prelude.{ℕ}
use Rattle.stable_record.specs.declared.disk_fault.DiskFault.{DiskFault}
use Rattle.stable_record.specs.declared.disk_fault.DiskFault.TheVariants.{Memory, Device}

-- the number of each refusal
abbrev pub number_of : DiskFault → ℕ
number_of Memory = 1
number_of Device = 1001
