-- What the program prints, and its exit status.
use Rattle.std.specs.Prelude.{◌≡◌, ℕ, List, [], Option, codes}
use Rattle.std.specs.Io.KnownBytes.{Appends}
use Rattle.clap.specs.Words.{Text as Word}
use Rattle.dpbn_build.specs.Build.{IsBuildText, IsNodeText}
use Rattle.dpbn_cluster.specs.Cluster.{IsClusterText}
use Rattle.dpbn_cli.specs.Calls.{AreTaken, IsCallOf, matched}
use Rattle.dpbn_cli.specs.declared.Call.{Call}
use Rattle.dpbn_cli.specs.declared.Call.TheVariants.{Build, Cluster, Explain, Key, Node, Release}
use Rattle.dpbr_cli.specs.Explaining.{explanation, release_line}
use Rattle.faults.specs.Bytes.{Text}
use Rattle.program_io.specs.Printing.{AppendsBeginning}

-- What a call prints, and its status. The status is 0, except that of a build, which says whether
-- all is held that can be.
abbrev pub IsOutputOf : Call → ℕ → Text → Type 0
IsOutputOf (Cluster files trace) status text = (status ≡ 0) × IsClusterText files text
IsOutputOf (Node files me peers patience run) status text =
    (status ≡ 0) × IsNodeText files me peers run text
IsOutputOf (Build site me peers patience run) status text =
    IsBuildText site me peers run text status
IsOutputOf (Key file) status text = (status ≡ 0) × (text ≡ [])
IsOutputOf (Explain number) status text = (status ≡ 0) × (text ≡ explanation number)
IsOutputOf Release status text = (status ≡ 0) × (text ≡ release_line (codes "dpbn"))

-- what was written since, if that is known, is such a text, and this is its status
pub record HasPrinted (call : Call) (status : ℕ) (before after : Option (List ℕ)) : Type 0 where
  pub text : Text
  pub is_output : IsOutputOf call status text
  pub appended : Appends before after text

-- the arguments are accepted, and what the matched call prints was written
pub record HasCarriedOut (words : List Word) (status : ℕ)
    (before after : Option (List ℕ)) : Type 0 where
  pub taken : AreTaken words
  pub call : Call
  pub is_call : IsCallOf (matched words) call
  pub printed : HasPrinted call status before after

-- what was written since, if that is known, is the beginning of a text that the call prints
pub record HasBegun (call : Call) (before after : Option (List ℕ)) : Type 0 where
  pub status : ℕ
  pub text : Text
  pub is_output : IsOutputOf call status text
  pub begun : AppendsBeginning before after text
