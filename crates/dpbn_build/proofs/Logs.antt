-- Starts whose log was looked at once more, and refusals of a start.
use Rattle.std.proofs.Common.{◌≡◌, ◌∙◌, ℕ, Bool, false, Option, inl, inr, option_map, string_bytes, subst}
use Rattle.dpbn_build.specs.Build.{HasBegunWithoutNotes, IsDiskRefusal, LacksNotes, RefusesBuildOn, RefusesWork}
use Rattle.dpbn_node.specs.Keys.{shown_of}
use Rattle.dpbn_node.specs.Runs.{HasBegun, RefusesOnLog, RunOf}
use Rattle.dpbn_node.specs.Starts.{owner}
use Rattle.dpbn_node.specs.declared.starting.Begun.{Begun}
use Rattle.faults.specs.Bytes.{Text}
use Rattle.program_io.specs.declared.refusal.Refusal.{Refusal}
use Rattle.run_file.specs.declared.fault.StartFault.TheVariants.{Device, Memory}
use Rattle.run_file.specs.Starts.{IsStarted}
use Rattle.stable_record.specs.History.{History}
use Rattle.stable_record.specs.RealFile.{file_agrees, file_history}
use Rattle.stable_record.specs.declared.disk_fault.DiskFault.TheVariants as disk
use Rattle.stable_record.specs.declared.file_disk.FileDisk.{FileDisk}
use Rattle.stable_record.specs.declared.identity.Identity.{Identity}

-- Refusals of the start in the run, and of the work folder.
module _ (had_mode : ℕ → Type 0) (gave : Option Text → Type 0) (known : History) (of : RunOf)
    (me : ℕ) (r : Refusal)
  where
    abbrev Refuses : Type 0
    Refuses = RefusesBuildOn had_mode gave known of me r

    -- the log can't be read
    pub disk_refused : IsDiskRefusal r → Refuses
    disk_refused (disk.Memory, is) = inl (inr (inr (inl (Memory, tt, is))))
    disk_refused (disk.Device, is) = inl (inr (inr (inl (Device, tt, is))))

    -- the work folder can't be opened, others may write in it, or it has files of another run,
    -- which is reported only if the log has no notes
    pub work_refused : (has_notes : Bool) → RefusesWork has_notes r
        → (has_notes ≡ false → HasBegunWithoutNotes gave known of me) → Refuses
    work_refused has_notes (inl (inl system)) start = inl (inl system)
    work_refused has_notes (inl (inr shared)) start = inr (inr shared)
    work_refused has_notes (inr (lacks, is)) start = inr (inl (is, start lacks))

    -- the log can't be opened, or the run file can't be written
    pub log_refused : RefusesOnLog r → Refuses
    log_refused (inl system) = inl (inl system)
    log_refused (inr bad) = inl (inr (inr (inr (inr bad))))

-- the log was only looked at once more
still_started : (gave : Option Text → Type 0) (known : History) (i : Identity)
    (key : Option Text) (is_continued : Bool) (before after : FileDisk) (unwritten : Option Text)
    → (file_agrees after → file_agrees before)
    → (file_agrees after → file_history after ≡ file_history before)
    → IsStarted gave known i key is_continued before unwritten
    → IsStarted gave known i key is_continued after unwritten
still_started gave known i key is_continued before after unwritten kept same started = record {
  plan = started.plan;
  planned = record {
    log = started.planned.log;
    found = λ agrees. started.planned.found (kept agrees);
    judged = started.planned.judged;
    looked = λ agrees. same agrees ∙ started.planned.looked (kept agrees);
  };
  is_unwritten = started.is_unwritten;
}

-- a start whose log has now this disk
abbrev pub on_disk : Begun → FileDisk → Begun
on_disk begun disk = record {
  start = record { disk = disk; unwritten = begun.start.unwritten };
  port = begun.port;
}

-- it is a start still, if the log was only looked at once more
pub still_begun : (gave : Option Text → Type 0) (known : History) (of : RunOf) (me : ℕ)
    (begun : Begun) (disk : FileDisk) → (file_agrees disk → file_agrees begun.start.disk)
    → (file_agrees disk → file_history disk ≡ file_history begun.start.disk)
    → HasBegun gave known of me begun → HasBegun gave known of me (on_disk begun disk)
still_begun gave known of me begun disk kept same has = record {
  started = still_started gave known (owner of.tree of.weights me) (shown_of of.key)
      of.is_continued begun.start.disk disk (option_map string_bytes begun.start.unwritten) kept
      same has.started;
  seated = has.seated;
  guarded = has.guarded;
  empty = has.empty;
}

-- it is one on a log without notes, if none were found
pub still_unnoted : (gave : Option Text → Type 0) (known : History) (of : RunOf) (me : ℕ)
    (begun : Begun) (disk : FileDisk) (i : Identity)
    → HasBegun gave known of me (on_disk begun disk) → i ≡ owner of.tree of.weights me
    → LacksNotes i disk → HasBegunWithoutNotes gave known of me
still_unnoted gave known of me begun disk i has same lacks = record {
  begun = on_disk begun disk;
  has_begun = has;
  lacks = subst (λ o. LacksNotes o disk) same lacks;
}
