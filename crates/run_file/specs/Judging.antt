-- What a start does with the log and the run file that it finds.
use Rattle.std.specs.Prelude.{◌≡◌, ◌⊎◌, ℕ, Bool, true, false, Option, None, Some, Result, Ok, Err}
use Rattle.faults.specs.Bytes.{Text}
use Rattle.run_file.specs.Difference.{PartIn}
use Rattle.run_file.specs.declared.fault.RunFault.{RunFault}
use Rattle.run_file.specs.declared.fault.RunFault.TheVariants.{Differs, Lost, NothingThere}
use Rattle.run_file.specs.declared.judging.LogFound.{LogFound}
use Rattle.run_file.specs.declared.judging.LogFound.TheVariants.{Absent, Blank, Fresh, Noted}
use Rattle.run_file.specs.declared.judging.Plan.{Plan}
use Rattle.run_file.specs.declared.judging.Plan.TheVariants.{Go, Make, Write}

-- If the run file is of this run, the log must exist, and opening it must not make a new log: the
-- run file is written only after the log was made.
abbrev pub with_same_run : LogFound → Result Plan RunFault
with_same_run Absent = Err Lost
with_same_run Blank = Err Lost
with_same_run Fresh = Ok Go
with_same_run Noted = Ok Go

-- If the run file is of another run, and first differs in this line.
abbrev pub with_other_run : ℕ → LogFound → Result Plan RunFault
with_other_run line Absent = Err Lost
with_other_run line _ = Err (Differs line)

-- If there is no run file: a log that is missing or blank is created, unless the run is continued;
-- any other log is opened, unless it has notes and the run has a key. Notes without a run file are
-- from a run without a key that wrote none.
abbrev pub without_run : Bool → Bool → LogFound → Result Plan RunFault
without_run has_key true Absent = Err NothingThere
without_run has_key false Absent = Ok Make
without_run has_key true Blank = Err NothingThere
without_run has_key false Blank = Ok Write
without_run has_key is_continued Fresh = Ok Write
without_run true is_continued Noted = Err (Differs 0)
without_run false is_continued Noted = Ok Write

-- what is done with this run file, or without one, if its text should be `wanted`
abbrev pub IsJudged : Option Text → Text → LogFound → Bool → Bool → Result Plan RunFault → Type 0
IsJudged None wanted log has_key is_continued result =
    result ≡ without_run has_key is_continued log
IsJudged (Some run) wanted log has_key is_continued result =
    ((run ≡ wanted) × (result ≡ with_same_run log))
    ⊎ ((line : ℕ) × PartIn run wanted line × (result ≡ with_other_run line log))
