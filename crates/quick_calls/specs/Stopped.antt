-- Why the small program stops before it printed all its output, and what it has written by then.
use Rattle.std.specs.Prelude.{◌≡◌, ◌⊎◌, ℕ, List, Option, codes}
use Rattle.std.specs.Io.KnownBytes.{Keeps}
use Rattle.clap.specs.Words.{IsAmong, Text as Word, kind_of}
use Rattle.dpbr_audit.specs.Audit.{RefusesAuditFiles}
use Rattle.dpbr_status.specs.Status.{RefusesStatusFiles}
use Rattle.faults.specs.Bytes.{Text}
use Rattle.program_io.specs.Refusals.{device_refusal, memory_refusal}
use Rattle.program_io.specs.Stops.{IsBegun, status_after}
use Rattle.program_io.specs.declared.refusal.Refusal.{Refusal}
use Rattle.program_io.specs.declared.stop.Stop.{Stop}
use Rattle.program_io.specs.declared.stop.Stop.TheVariants.{Refused, Unwritten, WrongWords}
use Rattle.quick_calls.specs.Printed.{HasBegun}
use Rattle.dpbr_cli.specs.Calls.{AreTaken, IsCallOf, faults_of, matched}
use Rattle.dpbr_cli.specs.declared.Call.{Call}
use Rattle.dpbr_cli.specs.declared.Call.TheVariants.{Audit, Explain, Release, Run, Status, Wayon}

-- what is reported about the texts that reads of a call's names gave
abbrev pub RefusesCall : (Text → Text → Type 0) → Call → Refusal → Type 0
RefusesCall Gave (Status listing held is_single) r =
    RefusesStatusFiles Gave listing.now held.now is_single r
RefusesCall Gave (Audit listing list is_single) r =
    RefusesAuditFiles Gave listing.now list.now is_single r
RefusesCall Gave (Run listing trace is_single has_events) r = ⊥
RefusesCall Gave (Wayon listing trace node path host builds is_single) r = ⊥
RefusesCall Gave (Explain number) r = r ≡ memory_refusal
RefusesCall Gave Release r = r ≡ memory_refusal

-- Nothing was written before a refusal, except before one that is reported as fault 2: in that case
-- a beginning of the output was written, maybe all of it.
abbrev pub CannotCarryOut : (Text → Text → Type 0) → Call → Stop → Option (List ℕ)
    → Option (List ℕ) → Type 0
CannotCarryOut Gave call (WrongWords e) before after = ⊥
CannotCarryOut Gave call (Refused r) before after = RefusesCall Gave call r × Keeps before after
CannotCarryOut Gave call (Unwritten r) before after =
    (r ≡ device_refusal) × HasBegun Gave call before after

-- clap accepts the arguments, and the matched call can't be carried out
pub record HasFailedAt (Gave : Text → Text → Type 0) (words : List Word) (stop : Stop)
    (before after : Option (List ℕ)) : Type 0 where
  pub taken : AreTaken words
  pub call : Call
  pub is_call : IsCallOf (matched words) call
  pub failed : CannotCarryOut Gave call stop before after

-- clap named one of the faults of the arguments and nothing was written; or memory ran out and
-- nothing was written; or the call failed
abbrev pub HasStopped : (Text → Text → Type 0) → List Word → Stop → Option (List ℕ)
    → Option (List ℕ) → Type 0
HasStopped Gave words (WrongWords e) before after =
    IsAmong (kind_of e) (faults_of words) × Keeps before after
HasStopped Gave words (Refused r) before after =
    ((r ≡ memory_refusal) × Keeps before after) ⊎ HasFailedAt Gave words (Refused r) before after
HasStopped Gave words (Unwritten r) before after = HasFailedAt Gave words (Unwritten r) before after

-- the program stopped, but not because of its arguments; what it wrote to report that is a
-- beginning of the one line
pub record HasFailed (Gave : Text → Text → Type 0) (words : List Word)
    (before after told_before told_after : Option (List ℕ)) : Type 0 where
  pub stop : Stop
  pub status : status_after stop ≡ 1
  pub stopped : HasStopped Gave words stop before after
  pub told : IsBegun (codes "dpbr") stop told_before told_after
