-- Why the program stops before it printed all its lines, and what it has written by then.
use Rattle.std.specs.Prelude.{◌≡◌, ◌≤◌, ◌⊎◌, ⊤, ℕ, List, Option}
use Rattle.std.specs.Io.KnownBytes.{Keeps}
use Rattle.clap.specs.Words.{IsAmong, Text as Word, kind_of}
use Rattle.cluster.specs.Printed.{HasBegun}
use Rattle.dpbn_build.specs.Build.{AreGood, RefusesBuild, RefusesNode}
use Rattle.dpbn_cluster.specs.Cluster.{RefusesCluster}
use Rattle.dpbn_cli.specs.Calls.{AreTaken, IsCallOf, faults_of, matched}
use Rattle.dpbn_cli.specs.declared.Call.{Call}
use Rattle.dpbn_cli.specs.declared.Call.TheVariants.{Build, Cluster, Explain, Key, Node, Release}
use Rattle.program_io.specs.Refusals.{IsSystemRefusal, device_refusal, memory_refusal}
use Rattle.program_io.specs.Stops.{status_after}
use Rattle.program_io.specs.declared.refusal.Refusal.{Refusal}
use Rattle.program_io.specs.declared.stop.Stop.{Stop}
use Rattle.program_io.specs.declared.stop.Stop.TheVariants.{Refused, Unwritten, WrongWords}

-- upper bounds of a call's values
abbrev pub IsGood : Call → Type 0
IsGood (Cluster files trace) = files.members ≤ 9
IsGood (Node files me peers patience run) = (files.members ≤ 9) × AreGood peers
IsGood (Build site me peers patience run) = (site.members ≤ 9) × AreGood peers
IsGood (Key file) = ⊤
IsGood (Explain number) = ⊤
IsGood Release = ⊤

-- what is reported about a call's values and files
abbrev pub RefusesCall : Call → Refusal → Type 0
RefusesCall (Cluster files trace) r = RefusesCluster files r
RefusesCall (Node files me peers patience run) r = RefusesNode files me peers run r
RefusesCall (Build site me peers patience run) r = RefusesBuild site me peers run r
RefusesCall (Key file) r = IsSystemRefusal r
RefusesCall (Explain number) r = r ≡ memory_refusal
RefusesCall Release r = r ≡ memory_refusal

-- Nothing was written before a refusal, except before one that is reported as fault 2: in that case
-- a beginning of the lines was written, maybe all of them.
abbrev pub CannotCarryOut : Call → Stop → Option (List ℕ) → Option (List ℕ) → Type 0
CannotCarryOut call (WrongWords e) before after = ⊥
CannotCarryOut call (Refused r) before after = RefusesCall call r × Keeps before after
CannotCarryOut call (Unwritten r) before after = (r ≡ device_refusal) × HasBegun call before after

-- the arguments are accepted, and the matched call can't be carried out
pub record HasFailedAt (words : List Word) (stop : Stop)
    (before after : Option (List ℕ)) : Type 0 where
  pub taken : AreTaken words
  pub call : Call
  pub is_call : IsCallOf (matched words) call
  pub failed : CannotCarryOut call stop before after

-- one of the faults of the arguments was named and nothing was written; or memory ran out and
-- nothing was written; or the call failed
abbrev pub HasStopped : List Word → Stop → Option (List ℕ) → Option (List ℕ) → Type 0
HasStopped words (WrongWords e) before after =
    IsAmong (kind_of e) (faults_of words) × Keeps before after
HasStopped words (Refused r) before after =
    ((r ≡ memory_refusal) × Keeps before after) ⊎ HasFailedAt words (Refused r) before after
HasStopped words (Unwritten r) before after = HasFailedAt words (Unwritten r) before after

-- the program stopped, but not because of its arguments
pub record HasFailed (words : List Word) (before after : Option (List ℕ)) : Type 0 where
  pub stop : Stop
  pub status : status_after stop ≡ 1
  pub stopped : HasStopped words stop before after
