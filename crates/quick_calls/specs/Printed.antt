-- What the small program prints, and its exit status.
use Rattle.std.specs.Prelude.{◌≡◌, ℕ, List, Option, codes}
use Rattle.std.specs.Io.KnownBytes.{Appends}
use Rattle.clap.specs.Words.{Text as Word}
use Rattle.dpbr_audit.specs.Audit.{IsAudit}
use Rattle.dpbr_status.specs.Status.{IsStatus}
use Rattle.faults.specs.Bytes.{Text}
use Rattle.program_io.specs.Printing.{AppendsBeginning}
use Rattle.dpbr_cli.specs.Calls.{AreTaken, IsCallOf, matched}
use Rattle.dpbr_cli.specs.Explaining.{explanation, release_line}
use Rattle.dpbr_cli.specs.declared.Call.{Call}
use Rattle.dpbr_cli.specs.declared.Call.TheVariants.{Audit, Explain, Release, Run, Status, Wayon}

-- what a call prints if reads of its names gave some texts, and its status; others print nothing
abbrev pub IsOutputOf : (Text → Text → Type 0) → Call → ℕ → Text → Type 0
IsOutputOf Gave (Status listing held is_single) status text =
    (status ≡ 0) × IsStatus Gave listing.now held.now is_single text
IsOutputOf Gave (Audit listing list is_single) status text =
    IsAudit Gave listing.now list.now is_single status text
IsOutputOf Gave (Run listing trace is_single has_events) status text = ⊥
IsOutputOf Gave (Wayon listing trace node path host builds is_single) status text = ⊥
IsOutputOf Gave (Explain number) status text = (status ≡ 0) × (text ≡ explanation number)
IsOutputOf Gave Release status text = (status ≡ 0) × (text ≡ release_line (codes "dpbr"))

-- what was written since, if that is known, is such a text, and this is its status
pub record HasPrinted (Gave : Text → Text → Type 0) (call : Call) (status : ℕ)
    (before after : Option (List ℕ)) : Type 0 where
  pub text : Text
  pub is_output : IsOutputOf Gave call status text
  pub appended : Appends before after text

-- clap accepts the arguments, and what the matched call prints was written
pub record HasCarriedOut (Gave : Text → Text → Type 0) (words : List Word) (status : ℕ)
    (before after : Option (List ℕ)) : Type 0 where
  pub taken : AreTaken words
  pub call : Call
  pub is_call : IsCallOf (matched words) call
  pub printed : HasPrinted Gave call status before after

-- what was written since, if that is known, is the beginning of a text that the call prints
pub record HasBegun (Gave : Text → Text → Type 0) (call : Call)
    (before after : Option (List ℕ)) : Type 0 where
  pub status : ℕ
  pub text : Text
  pub is_output : IsOutputOf Gave call status text
  pub begun : AppendsBeginning before after text
