-- The result of a start on a log.
use Rattle.std.specs.Prelude.{◌≡◌, ⊤, ℕ, Bool, Option, None, Some, Result, Ok, Err, is_some}
use Rattle.faults.specs.Bytes.{Text}
use Rattle.run_file.specs.Found.{IsFound}
use Rattle.run_file.specs.Judging.{IsJudged}
use Rattle.run_file.specs.Looking.{IsLookedAt, IsOpenToOthers}
use Rattle.run_file.specs.RunFile.{run_text}
use Rattle.run_file.specs.declared.fault.RunFault.{RunFault}
use Rattle.run_file.specs.declared.fault.StartFault.{StartFault}
use Rattle.run_file.specs.declared.fault.StartFault.TheVariants.{Device, Files, Memory, Run, Shared}
use Rattle.run_file.specs.declared.judging.LogFound.{LogFound}
use Rattle.run_file.specs.declared.judging.Plan.{Plan}
use Rattle.run_file.specs.declared.judging.Plan.TheVariants.{Go, Make, Write}
use Rattle.stable_record.specs.History.{History, seen}
use Rattle.stable_record.specs.RealFile.{file_agrees}
use Rattle.stable_record.specs.declared.file_disk.FileDisk.{FileDisk}
use Rattle.stable_record.specs.declared.identity.Identity.{Identity}

-- The answer is what is done with a log in this state, and with what a read of the run file gave,
-- if that file's text should be `wanted`. `gave` says what a read of the run file gave: a text, or
-- that there is no such file.
pub record IsJudgedBy (gave : Option Text → Type 0) (wanted : Text) (log : LogFound)
    (has_key is_continued : Bool) (answer : Result Plan RunFault) : Type 0 where
  pub run : Option Text
  pub given : gave run
  pub judged : IsJudged run wanted log has_key is_continued answer

-- why no plan is made: a file can't be read or written, memory ran out, the device failed, or the
-- log must not be opened
abbrev pub RefusesPlan : (Option Text → Type 0) → Text → Bool → Bool → StartFault → Type 0
RefusesPlan gave wanted has_key is_continued Memory = ⊤
RefusesPlan gave wanted has_key is_continued Files = ⊤
RefusesPlan gave wanted has_key is_continued Device = ⊤
RefusesPlan gave wanted has_key is_continued Shared = ⊥
RefusesPlan gave wanted has_key is_continued (Run f) =
    (log : LogFound) × IsJudgedBy gave wanted log has_key is_continued (Err f)

-- The plan for the owner's log on this disk: it is what is done with the state in which the log was
-- found, and with what a read of the run file gave. The log was only looked at. `known` is what is
-- supposed about its file.
pub record IsPlanned (gave : Option Text → Type 0) (known : History) (i : Identity) (wanted : Text)
    (has_key is_continued : Bool) (disk : FileDisk) (plan : Plan) : Type 0 where
  pub log : LogFound
  pub found : file_agrees disk → IsFound i (seen known) log
  pub judged : IsJudgedBy gave wanted log has_key is_continued (Ok plan)
  pub looked : IsLookedAt known disk

-- The text of the run file that must still be written: none if the log is only opened.
abbrev pub IsUnwritten : Text → Plan → Option Text → Type 0
IsUnwritten wanted Go unwritten = unwritten ≡ None
IsUnwritten wanted Make unwritten = unwritten ≡ Some wanted
IsUnwritten wanted Write unwritten = unwritten ≡ Some wanted

-- A start of the owner, in a run whose key, if any, has this fingerprint. The log on this disk was
-- only looked at. By the plan for what was found, this text must still be written.
pub record IsStarted (gave : Option Text → Type 0) (known : History) (i : Identity)
    (key : Option Text) (is_continued : Bool) (disk : FileDisk) (unwritten : Option Text)
    : Type 0 where
  pub plan : Plan
  pub planned : IsPlanned gave known i (run_text i key) (is_some key) is_continued disk plan
  pub is_unwritten : IsUnwritten (run_text i key) plan unwritten

-- why a node doesn't start: a file can't be read or written, memory ran out, the device failed,
-- others may write in the folder, or the log must not be opened
abbrev pub RefusesStart : (ℕ → Type 0) → (Option Text → Type 0) → Identity → Option Text → Bool
    → StartFault → Type 0
RefusesStart had_mode gave i key is_continued Memory = ⊤
RefusesStart had_mode gave i key is_continued Files = ⊤
RefusesStart had_mode gave i key is_continued Device = ⊤
RefusesStart had_mode gave i key is_continued Shared = IsOpenToOthers had_mode
RefusesStart had_mode gave i key is_continued (Run f) =
    (log : LogFound) × IsJudgedBy gave (run_text i key) log (is_some key) is_continued (Err f)
