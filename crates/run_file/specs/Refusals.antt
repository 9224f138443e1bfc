-- How refusals of a start are reported.
use Rattle.std.specs.Prelude.{◌≡◌, ◌⊎◌, ⊤, ℕ, Option, None, Some}
use Rattle.run_file.specs.Looking.{IsShared}
use Rattle.run_file.specs.declared.fault.RunFault.{RunFault}
use Rattle.run_file.specs.declared.fault.RunFault.TheVariants.{Differs, Lost, NothingThere}
use Rattle.run_file.specs.declared.fault.StartFault.{StartFault}
use Rattle.run_file.specs.declared.fault.StartFault.TheVariants.{Device, Files, Memory, Run, Shared}
use Rattle.stable_record.specs.declared.disk_fault.DiskFault.{DiskFault}
use Rattle.stable_record.specs.declared.disk_fault.DiskFault.TheVariants as disk

-- the number that each refusal of a log is reported with
abbrev pub number_of : RunFault → ℕ
number_of (Differs line) = 1006
number_of Lost = 1007
number_of NothingThere = 1008

-- the place of the refusal
abbrev pub place_of : RunFault → Option ℕ
place_of (Differs line) = Some line
place_of Lost = None
place_of NothingThere = None

-- the number that each refusal of a start is reported with
abbrev pub number_of_start : StartFault → ℕ
number_of_start Memory = 1
number_of_start Files = 2
number_of_start Device = 1001
number_of_start Shared = 1210
number_of_start (Run f) = number_of f

-- the place of the refusal
abbrev pub place_of_start : StartFault → Option ℕ
place_of_start Memory = None
place_of_start Files = None
place_of_start Device = None
place_of_start Shared = None
place_of_start (Run f) = place_of f

-- how a disk's refusal is reported
abbrev pub told_by : DiskFault → StartFault
told_by disk.Memory = Memory
told_by disk.Device = Device

-- the system refused to read or to write, or memory ran out
abbrev pub IsOfSystem : StartFault → Type 0
IsOfSystem f = (f ≡ Memory) ⊎ (f ≡ Files)

-- why a folder is refused: it can't be looked at, memory ran out, or others than its owner may
-- write in it
abbrev pub RefusesFolder : StartFault → Type 0
RefusesFolder Memory = ⊤
RefusesFolder Files = ⊤
RefusesFolder Device = ⊥
RefusesFolder Shared = (mode : ℕ) × IsShared mode
RefusesFolder (Run f) = ⊥
