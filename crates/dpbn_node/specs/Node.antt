-- What `dpbn node` prints, and what it reports if it can't run.
use Rattle.std.specs.Prelude.{◌≡◌, ◌<◌, ◌⊎◌, ℕ, List, Option, count_by, option_map}
use Rattle.dpbn_node.specs.Given.{RefusesWeights}
use Rattle.dpbn_node.specs.Keys.{AnyKeyFile}
use Rattle.dpbn_node.specs.Starts.{AnyMode, AnyRunFile}
use Rattle.dpbn_node.specs.Runs.{HasFlushed, IsOfNode, IsRunOf, RefusesPlace, RefusesStart, RunOf, Running, file_disk, letters_of, udp_port}
pub use Rattle.dpbn_node.specs.Runs.{AreGood, socket_refusal}
use Rattle.dpbn_cli.specs.declared.Files.{Files}
use Rattle.dpbn_cli.specs.declared.Peers.{Peers}
use Rattle.dpbn_cli.specs.declared.Run.{Run}
use Rattle.faults.specs.Bytes.{Text}
use Rattle.program_io.specs.Listings.{RefusesListingFile}
use Rattle.program_io.specs.NodeLine.{IsLineOf}
use Rattle.program_io.specs.declared.refusal.Refusal.{Refusal}
use Rattle.protocol.specs.Given.{Given}
use Rattle.lone_node.specs.Handed.{AllBuilds, Handed}
use Rattle.lone_node.specs.State.{SoloState}
use Rattle.lone_node.specs.Turns.{Outcome, TurnsLead, counts}
use Rattle.run_file.specs.Looking.{empty_past}
use Rattle.stable_record.specs.History.{History}
use Rattle.input_files.specs.Builds.{AreBuilds, RefusesBuildsFile}
use Rattle.stable_record.specs.declared.disk.Disk.{Ghosts as Disk}
use Rattle.datagram_ports.specs.declared.port.Port.{Ghosts as Port}

-- ---- what is printed

-- Turns led from one state to the other. This number of them count: turns in which memory ran out
-- don't.
pub record HaveTaken {D P : Type 0} (disk : Disk D) (port : Port P) (handed : Handed) (turns : ℕ)
    (old new : SoloState D P) : Type 0 where
  pub answers : List Outcome
  pub counted : count_by counts answers ≡ turns
  pub led : TurnsLead disk port handed old answers new

-- This number of turns, each with these builds, led from one state of the node to another, and then
-- its port handed all queued datagrams to the system. In each turn the port went through the turn's
-- calls, and each call did to it what such a call does over UDP.
pub record HasRun (builds : Given) (turns : ℕ) (old new : Running) : Type 0 where
  pub last : Running
  pub turned : HaveTaken file_disk udp_port (AllBuilds builds) turns old last
  pub flushed : HasFlushed last new

-- The line says what the node shows after this number of turns.
pub record IsLineAfter (builds : Given) (turns : ℕ) (before : Running) (me : ℕ) (line : Text)
    : Type 0 where
  pub after : Running
  pub run : HasRun builds turns before after
  pub is_line : IsLineOf me (letters_of after.node.node) line

-- The line is that of the member's node which started in the run.
abbrev pub IsShown : (Option Text → Type 0) → History → RunOf → ℕ → Given → ℕ → Text → Type 0
IsShown gave known of me builds turns line =
    IsOfNode gave known of me (λ before. IsLineAfter builds turns before me line)

-- the run that the arguments describe
abbrev pub IsTold : (Text → ℕ → Text → Type 0) → Files → Peers → Run → RunOf → Type 0
IsTold gave files peers run of =
    IsRunOf gave files.is_single files.members (option_map (λ t. t.now) files.weights) peers run of

-- The text is the line of the member's node, in the run that the arguments describe, after the
-- requested number of turns, with the builds that a text has. Each read of a file of the system may
-- have given anything, and the log's file is supposed to have been empty.
pub record IsNodeText (files : Files) (me : ℕ) (peers : Peers) (run : Run) (text : Text)
    : Type 0 where
  pub of : RunOf
  pub is_of : IsTold AnyKeyFile files peers run of
  pub builds : Given
  pub read : AreBuilds builds
  pub member : me < files.members
  pub shown : IsShown AnyRunFile empty_past.calls of me builds files.turns text

-- ---- refusals

-- what is reported about the builds or the weights
abbrev pub RefusesGiven : Refusal → Type 0
RefusesGiven r = RefusesBuildsFile r ⊎ RefusesWeights r

-- what is reported: about the listing, the builds or the weights, the key's file or the hosts, or
-- the start in the run that the arguments describe; or memory ran out
abbrev pub RefusesNode : Files → ℕ → Peers → Run → Refusal → Type 0
RefusesNode files me peers run r =
    RefusesListingFile files.is_single r
    ⊎ (RefusesGiven r
    ⊎ (RefusesPlace AnyKeyFile files.members peers run r
    ⊎ ((of : RunOf) × IsTold AnyKeyFile files peers run of
    × RefusesStart AnyMode AnyRunFile me of r)))
