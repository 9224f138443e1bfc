-- The exit status of a build.
use Rattle.std.proofs.Common.{◌≡◌, ◌⊎◌, ◌&&◌, ◌==◌, ℕ, Bool, true, false, Option, None, Some, inl, inr}
use Rattle.std.specs.Prelude.{if◌then◌else◌}
use Rattle.dpbn_build.specs.Build.{IsBuildText, IsLineWith, letters_of}
use Rattle.dpbn_cli.specs.declared.Peers.{Peers}
use Rattle.dpbn_cli.specs.declared.Run.{Run}
use Rattle.dpbn_cli.specs.declared.Site.{Site}
use Rattle.engine.specs.State.{State}
use Rattle.faults.specs.Bytes.{Text}

-- one of the two, by a test
either : (b : Bool) (status : ℕ) → status ≡ (if b then 0 else 3) → (status ≡ 0) ⊎ (status ≡ 3)
either true status is = inl is
either false status is = inr is

line_status : (me : ℕ) (o : Option State) (line : Text) (status : ℕ) → IsLineWith me o line status → (status ≡ 0) ⊎ (status ≡ 3)
line_status me None line status is = inr is.1
line_status me (Some s) line status is = either (is.0.q == 0 && is.0.t == 0) status is.3

pub build_status : (site : Site) (me : ℕ) (peers : Peers) (run : Run) (text : Text) (status : ℕ) → IsBuildText site me peers run text status
    → (status ≡ 0) ⊎ (status ≡ 3)
build_status site me peers run text status is =
    let line = is.built.opened.is in
    line_status me (letters_of line.after.node.node) text status line.is_line
