-- What `dpbn build` prints, and its refusals.
use Rattle.std.specs.Prelude.{◌≡◌, ◌<◌, ◌⊎◌, ◌==◌, ◌&&◌, ℕ, Bool, false, Option, None, Some, if◌then◌else◌, option_map}
use Rattle.dpbn_build.specs.Turns.{HaveTurned}
pub use Rattle.dpbn_node.specs.Node.{IsNodeText, RefusesNode}
pub use Rattle.dpbn_node.specs.Runs.{AreGood, file_disk, letters_of, udp_port}
use Rattle.dpbn_node.specs.Given.{RefusesWeights}
use Rattle.dpbn_node.specs.Runs.{HasBegun, HasFlushed, IsOfNode, IsRunOf, RefusesPlace, RefusesStart, RunOf, Running}
use Rattle.dpbn_node.specs.Keys.{AnyKeyFile}
use Rattle.dpbn_node.specs.Starts.{AnyMode, AnyRunFile, owner}
use Rattle.dpbn_node.specs.declared.starting.Begun.{Begun}
use Rattle.dpbn_cli.specs.declared.Peers.{Peers}
use Rattle.dpbn_cli.specs.declared.Run.{Run}
use Rattle.dpbn_cli.specs.declared.Site.{Site}
use Rattle.engine.specs.State.{AreCounts, State}
use Rattle.engine.specs.declared.Counts.{Counts}
use Rattle.faults.specs.Bytes.{Text}
use Rattle.program_io.specs.Listings.{RefusesListingFile}
use Rattle.program_io.specs.NodeLine.{node_line}
use Rattle.program_io.specs.Refusals.{IsSystemRefusal}
use Rattle.program_io.specs.declared.refusal.Refusal.{Refusal}
use Rattle.run_file.specs.Found.{IsFound}
use Rattle.run_file.specs.Looking.{empty_past}
use Rattle.run_file.specs.declared.judging.LogFound.TheVariants.{Blank, Fresh, Noted}
use Rattle.stable_record.specs.DiskRefusals.{number_of}
use Rattle.stable_record.specs.History.{History, seen}
use Rattle.stable_record.specs.RealFile.{file_agrees, file_history}
use Rattle.stable_record.specs.declared.disk_fault.DiskFault.{DiskFault}
use Rattle.stable_record.specs.declared.file_disk.FileDisk.{FileDisk}
use Rattle.stable_record.specs.declared.identity.Identity.{Identity}
use Rattle.udp.specs.Notifying.{HasNotified}

-- ---- what is printed

-- Some turns led from one state of the node to another, in which it ends; and then the port handed
-- the system all datagrams that were queued to be sent. Between turns only notices came and left.
pub record HasBuilt (rest : Option ℕ) (old new : Running) : Type 0 where
  pub last : Running
  pub turned : HaveTurned file_disk udp_port HasNotified
      (λ port hurry. record port { hurry = hurry }) rest old last
  pub flushed : HasFlushed last new

-- the status: 0 if the node is up, no package is queued, and none waits; else 3
abbrev pub status_of : Option Counts → ℕ
status_of None = 3
status_of (Some c) = if c.q == 0 && c.t == 0 then 0 else 3

-- The line shows the node's counts, and the status says whether all that can be held is held.
abbrev pub IsLineWith : ℕ → Option State → Text → ℕ → Type 0
IsLineWith me None line status = (line ≡ node_line me None) × (status ≡ status_of None)
IsLineWith me (Some s) line status =
    (c : Counts) × AreCounts s c × (line ≡ node_line me (Some c)) × (status ≡ status_of (Some c))

-- They are the line and the status of the node after its turns.
pub record IsLineAfter (rest : Option ℕ) (before : Running) (me : ℕ) (line : Text)
    (status : ℕ) : Type 0 where
  pub after : Running
  pub built : HasBuilt rest before after
  pub is_line : IsLineWith me (letters_of after.node.node) line status

-- the run that the words name
abbrev pub IsTold : Site → Peers → Run → RunOf → Type 0
IsTold site peers run of =
    IsRunOf AnyKeyFile site.is_single site.members (option_map (λ t. t.now) site.weights) peers run
    of

-- The text is the line of the member's node, in the run that the words name, after turns in which
-- its claims were built.
pub record IsBuildText (site : Site) (me : ℕ) (peers : Peers) (run : Run) (text : Text)
    (status : ℕ) : Type 0 where
  pub of : RunOf
  pub is_of : IsTold site peers run of
  pub member : me < site.members
  pub built : IsOfNode AnyRunFile empty_past.calls of me
      (λ before. IsLineAfter site.rest before me text status)

-- ---- refusals

-- The owner's log has no notes: as long as its file does what its history says, a log is to be made
-- of it, or it is as long as a log without notes.
abbrev pub LacksNotes : Identity → FileDisk → Type 0
LacksNotes i log = file_agrees log
    → IsFound i (seen (file_history log)) Blank ⊎ IsFound i (seen (file_history log)) Fresh

-- The owner's log has notes, or is no log: as long as its file does what its history says, no log
-- is to be made of it, and it has another length than a log without notes.
abbrev pub IsNoted : Identity → FileDisk → Type 0
IsNoted i log = file_agrees log → IsFound i (seen (file_history log)) Noted

-- the log can't be read, or memory ran out
abbrev pub IsDiskRefusal : Refusal → Type 0
IsDiskRefusal r = (f : DiskFault) × (r ≡ record { number = number_of f; place = None })

-- the work folder has files of another run, and the node's log has no notes
abbrev pub work_refusal : Refusal
work_refusal = record { number = 1209; place = None }

-- That is the refusal if others than its owner may write in the work folder, or in one of its three
-- subfolders.
abbrev pub shared_refusal : Refusal
shared_refusal = record { number = 1210; place = None }

-- the refusals of the work folder, by whether the node's log has notes
abbrev pub RefusesWork : Bool → Refusal → Type 0
RefusesWork has_notes r =
    (IsSystemRefusal r ⊎ (r ≡ shared_refusal)) ⊎ ((has_notes ≡ false) × (r ≡ work_refusal))

-- A start in the run was made for the member, on a log without notes, in a folder in which a read
-- of its run file gave this, and about whose log this is supposed.
pub record HasBegunWithoutNotes (gave : Option Text → Type 0) (known : History) (of : RunOf)
    (me : ℕ) : Type 0 where
  pub begun : Begun
  pub has_begun : HasBegun gave known of me begun
  pub lacks : LacksNotes (owner of.tree of.weights me) begun.start.disk

-- The refusals of the start in the run, and of the work folder. The folder of the log may have had
-- these modes, and given these run files. That the work folder has files of another run is reported
-- only of a start on a log without notes.
abbrev pub RefusesBuildOn : (ℕ → Type 0) → (Option Text → Type 0) → History → RunOf → ℕ → Refusal
    → Type 0
RefusesBuildOn had_mode gave known of me r =
    RefusesStart had_mode gave me of r
    ⊎ (((r ≡ work_refusal) × HasBegunWithoutNotes gave known of me) ⊎ (r ≡ shared_refusal))

-- the refusals before the first turn: of the listing, of the weights, of the key's file and the
-- hosts, and of the start and the work folder in the run that the words name
abbrev pub RefusesBuild : Site → ℕ → Peers → Run → Refusal → Type 0
RefusesBuild site me peers run r =
    RefusesListingFile site.is_single r
    ⊎ (RefusesWeights r
    ⊎ (RefusesPlace AnyKeyFile site.members peers run r
    ⊎ ((of : RunOf) × IsTold site peers run of
    × RefusesBuildOn AnyMode AnyRunFile empty_past.calls of me r)))
