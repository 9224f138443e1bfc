-- The refusals of a work folder.
use Rattle.std.specs.Prelude.{◌≡◌, ◌⊎◌, ⊤, ℕ, Bool, false}
use Rattle.job_folder.specs.declared.fault.WorkFault.{WorkFault}
use Rattle.job_folder.specs.declared.fault.WorkFault.TheVariants.{Files, Memory, OtherRun}

-- the number that is reported for each refusal
abbrev pub number_of : WorkFault → ℕ
number_of Memory = 1
number_of Files = 2
number_of OtherRun = 1209

-- the system refused to read or write, or memory ran out
abbrev pub IsOfSystem : WorkFault → Type 0
IsOfSystem f = (f ≡ Memory) ⊎ (f ≡ Files)

-- Why a folder isn't opened: the system refused something; or its files are of another run. The
-- latter is only detected if the log has no notes.
abbrev pub RefusesFolder : Bool → WorkFault → Type 0
RefusesFolder has_notes Memory = ⊤
RefusesFolder has_notes Files = ⊤
RefusesFolder has_notes OtherRun = has_notes ≡ false
