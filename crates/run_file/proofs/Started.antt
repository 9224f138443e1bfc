-- How a node starts, and why it doesn't.
use Rattle.std.proofs.Common.{◌≡◌, ◌∙◌, ℕ, Bool, Option, Ok, Err, refl, subst, sym}
use Rattle.std.specs.Prelude.{is_some}
use Rattle.faults.specs.Bytes.{Text}
use Rattle.run_file.specs.Found.{IsFound}
use Rattle.run_file.specs.Looking.{IsJustOpened, IsOpenToOthers, IsShared}
use Rattle.run_file.specs.RunFile.{run_text}
use Rattle.run_file.specs.Starts.{IsJudgedBy, IsPlanned, IsStarted, IsUnwritten, RefusesPlan, RefusesStart}
use Rattle.run_file.specs.declared.fault.StartFault.{StartFault}
use Rattle.run_file.specs.declared.fault.StartFault.TheVariants.{Device, Files, Memory, Run, Shared}
use Rattle.run_file.specs.declared.judging.LogFound.{LogFound}
use Rattle.run_file.specs.declared.judging.Plan.{Plan}
use Rattle.stable_record.specs.History.{History, seen}
use Rattle.stable_record.specs.RealFile.{file_agrees, file_history}
use Rattle.stable_record.specs.declared.file_disk.FileDisk.{FileDisk}
use Rattle.stable_record.specs.declared.identity.Identity.{Identity}

-- what was found in a file that was just opened, and what is done about it, make a plan
pub is_planned : (gave : Option Text → Type 0) (known : History) (i : Identity) (wanted : Text)
    (has_key is_continued : Bool) (before after : FileDisk) (log : LogFound) (plan : Plan)
    → IsJustOpened known before
    → (file_agrees after → IsFound i (seen (file_history before)) log)
    → (file_agrees after → file_history after ≡ file_history before)
    → IsJudgedBy gave wanted log has_key is_continued (Ok plan)
    → IsPlanned gave known i wanted has_key is_continued after plan
is_planned gave known i wanted has_key is_continued before after log plan opened found same judged = record {
  log = log;
  found = λ agrees. subst (λ h. IsFound i (seen h) log) opened.history (found agrees);
  judged = judged;
  looked = λ agrees. same agrees ∙ opened.history;
}

-- a plan with the text of the owner's run file is a start
pub is_started : (gave : Option Text → Type 0) (known : History) (i : Identity) (key : Option Text)
    (is_continued : Bool) (wanted text : Text) (has_key : Bool) (disk : FileDisk) (plan : Plan)
    (unwritten : Option Text) → wanted ≡ text → text ≡ run_text i key → has_key ≡ is_some key
    → IsPlanned gave known i wanted has_key is_continued disk plan
    → IsUnwritten text plan unwritten
    → IsStarted gave known i key is_continued disk unwritten
is_started gave known i key is_continued wanted text has_key disk plan unwritten same told has planned is =
    let by_text = subst (λ t. IsPlanned gave known i t has_key is_continued disk plan) (same ∙ told) planned in
    record {
      plan = plan;
      planned = subst (λ b. IsPlanned gave known i (run_text i key) b is_continued disk plan) has by_text;
      is_unwritten = subst (λ t. IsUnwritten t plan unwritten) told is;
    }

-- why no plan is made is why the node doesn't start
pub refused_start : (had_mode : ℕ → Type 0) (gave : Option Text → Type 0) (i : Identity)
    (key : Option Text) (is_continued : Bool) (wanted : Text) (has_key : Bool)
    → wanted ≡ run_text i key → has_key ≡ is_some key → (f : StartFault)
    → RefusesPlan gave wanted has_key is_continued f
    → RefusesStart had_mode gave i key is_continued f
refused_start had_mode gave i key is_continued wanted has_key text has Memory refuses = tt
refused_start had_mode gave i key is_continued wanted has_key text has Files refuses = tt
refused_start had_mode gave i key is_continued wanted has_key text has Device refuses = tt
refused_start had_mode gave i key is_continued wanted has_key text has Shared refuses = absurd refuses
refused_start had_mode gave i key is_continued wanted has_key text has (Run f) (log, judged) =
    let by_text = subst (λ (t : Text). IsJudgedBy gave t log has_key is_continued (Err f)) text judged in
    (log, subst (λ (b : Bool). IsJudgedBy gave (run_text i key) log b is_continued (Err f)) has by_text)

-- the node doesn't start in a folder in which others may write
pub shared_start : (had_mode : ℕ → Type 0) (gave : Option Text → Type 0) (i : Identity)
    (key : Option Text) (is_continued : Bool) (mode : ℕ) → had_mode mode → (f : StartFault)
    → (f ≡ Shared) × IsShared mode → RefusesStart had_mode gave i key is_continued f
shared_start had_mode gave i key is_continued mode had f (is, shared) =
    let others : IsOpenToOthers had_mode = record { mode = mode; had = had; shared = shared } in
    subst (λ x. RefusesStart had_mode gave i key is_continued x) (sym is) others
