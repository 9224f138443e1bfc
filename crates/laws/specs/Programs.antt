-- Programs on hosts of their own: what each `dpbn node` and `dpbn build` does, one thing after the
-- other, and the files of their logs.
use Rattle.std.specs.Prelude.{◌≡◌, ℕ, List, [], ◌∷◌, Some, length, replicate, slice_get, slice_set}
use Rattle.std.specs.declared.rt.LibcRuntime.{LibcRuntime}
use Rattle.dpbn_node.specs.Runs.{IsOpenedOn, Running, file_disk, udp_port}
use Rattle.faults.specs.Bytes.{Text}
use Rattle.laws.specs.OnHosts.{HasOffered, TookOffered}
use Rattle.laws.specs.Reopening.{MayBeLeft}
use Rattle.listing.specs.Tree.{Tree}
use Rattle.lone_node.specs.Handed.{Handed}
use Rattle.lone_node.specs.Turns.{IsTurn, Outcome, TurnsLead}
use Rattle.stable_record.specs.Crash.{Leaves, MayLeave}
use Rattle.stable_record.specs.History.{seen}
use Rattle.stable_record.specs.RealFile.{file_agrees, file_history}
use Rattle.stable_record.specs.declared.file_disk.FileDisk.{FileDisk}
use Rattle.udp.specs.declared.udp_port.UdpPort.{UdpPort}

-- ---- state

-- The place of a member: either a program runs there and is between two turns, with its node, its
-- port and its log in this state; or no program runs there, and the log's file has these bytes.
pub data Place : Type 0 where
  Runs : Running → Place
  Rests : Text → Place

-- all places, indexed by member number, and the datagrams that nodes have offered so far, in order
pub record Programs : Type 0 where
  pub places : List Place
  pub offered : List Text

-- At the start no program runs, every file is empty, and nothing was sent.
abbrev pub at_first : List ℕ → Programs
at_first weights = record { places = replicate (length weights) (Rests []); offered = [] }

-- ---- what happens

-- A turn of a program, as the contracts of `dpbn node` and `dpbn build` have it.
abbrev pub IsProgramTurn : Handed → Running → Running → Outcome → Type 0
IsProgramTurn = IsTurn file_disk udp_port

-- If a program's turn took bytes, they were offered before.
abbrev pub HeardOffered : (handed : Handed) (old new : Running) (answer : Outcome)
    → IsProgramTurn handed old new answer → List Text → Type 0
HeardOffered = TookOffered file_disk udp_port

-- Turns of `dpbn node`, one after the other, as its contract has them.
abbrev pub ProgramTurnsLead : Handed → Running → List Outcome → Running → Type 0
ProgramTurnsLead = TurnsLead file_disk udp_port

-- The member's node was opened on its own log, whose file was as it had been left. So far the file
-- did what its history says.
pub record OpensOwnLog (tree : Tree) (weights : List ℕ) (number : ℕ) (file : Text)
    (state : Running) : Type 0 where
  pub log : FileDisk
  pub own : seen (file_history log) ≡ file
  pub port : UdpPort LibcRuntime
  pub opened : IsOpenedOn log port tree weights number state
  pub agrees : file_agrees state.node.log.disk

-- A program started where none ran, and opened the member's own log.
pub record HasStarted (tree : Tree) (weights : List ℕ) (old new : Programs) : Type 0 where
  pub number : ℕ
  pub file : Text
  pub rests : slice_get old.places number ≡ Some (Rests file)
  pub state : Running
  pub opens : OpensOwnLog tree weights number file state
  pub places : new.places ≡ slice_set old.places number (Runs state)
  pub offered : new.offered ≡ old.offered

-- Between two turns only a program's port changed: notices of failed builds came or left, its wait
-- was set, or it handed what was queued to the system.
pub record HasWaited (old new : Programs) : Type 0 where
  pub number : ℕ
  pub state : Running
  pub runs : slice_get old.places number ≡ Some (Runs state)
  pub port : UdpPort LibcRuntime
  pub places : new.places ≡ slice_set old.places number (Runs (record state { port = port }))
  pub offered : new.offered ≡ old.offered

-- A program takes a turn, which leads from the one state to the other. What the turn took was sent
-- before by one of the nodes, in this run. So far the log's file did what its history says.
pub record TakesTurn (before after : Running) (offered : List Text) : Type 0 where
  pub handed : Handed
  pub answer : Outcome
  pub turn : IsProgramTurn handed before after answer
  pub heard : HeardOffered handed before after answer turn offered
  pub agrees : file_agrees after.node.log.disk

-- A program took a turn. What the node's step sends was offered.
pub record HasTurned (old new : Programs) : Type 0 where
  pub number : ℕ
  pub before : Running
  pub runs : slice_get old.places number ≡ Some (Runs before)
  pub after : Running
  pub takes : TakesTurn before after old.offered
  pub places : new.places ≡ slice_set old.places number (Runs after)
  pub offered : HasOffered before takes.answer old.offered new.offered

-- A program ended, or it was killed, between two turns. Its log's file was left as a crash may
-- leave it then.
pub record HasEnded (old new : Programs) : Type 0 where
  pub number : ℕ
  pub state : Running
  pub runs : slice_get old.places number ≡ Some (Runs state)
  pub file : Text
  pub left : MayLeave (file_history state.node.log.disk) file
  pub places : new.places ≡ slice_set old.places number (Rests file)
  pub offered : new.offered ≡ old.offered

-- A program was killed in a turn, before it sent anything. Its log's file was left as a crash at
-- some moment of the turn may leave it. (A program that is killed while it sends took the turn, and
-- counts as having sent all of it.)
pub record WasKilled (old new : Programs) : Type 0 where
  pub number : ℕ
  pub before : Running
  pub runs : slice_get old.places number ≡ Some (Runs before)
  pub after : Running
  pub takes : TakesTurn before after old.offered
  pub file : Text
  pub left : MayBeLeft (file_history before.node.log.disk) (file_history after.node.log.disk) file
  pub places : new.places ≡ slice_set old.places number (Rests file)
  pub offered : new.offered ≡ old.offered

-- A program was killed while it started, before its first turn. The disk had all of the log's file
-- when the program began. The file was left as a crash at some moment of the opening may leave it.
pub record WasKilledInStart (tree : Tree) (weights : List ℕ) (old new : Programs) : Type 0 where
  pub number : ℕ
  pub file : Text
  pub rests : slice_get old.places number ≡ Some (Rests file)
  pub state : Running
  pub opens : OpensOwnLog tree weights number file state
  pub on_disk : Leaves (λ c. c ≡ file) (file_history opens.log)
  pub new_file : Text
  pub left : MayBeLeft (file_history opens.log) (file_history state.node.log.disk) new_file
  pub places : new.places ≡ slice_set old.places number (Rests new_file)
  pub offered : new.offered ≡ old.offered

-- One thing happened: a program started, waited, took a turn, ended, or was killed.
pub data Happened (tree : Tree) (weights : List ℕ) (old new : Programs) : Type 0 where
  started : HasStarted tree weights old new → Happened tree weights old new
  waited : HasWaited old new → Happened tree weights old new
  turned : HasTurned old new → Happened tree weights old new
  ended : HasEnded old new → Happened tree weights old new
  killed : WasKilled old new → Happened tree weights old new
  killed_in_start : WasKilledInStart tree weights old new → Happened tree weights old new

-- All programs run over one tree and the same weights, and things happened, one after the other.
-- Turns of programs that run at the same time are put in the order in which they end: what a turn
-- offers to other nodes doesn't leave its port before that.
pub data HaveRun (tree : Tree) (weights : List ℕ) (first : Programs) : Programs → Type 0 where
  nothing_yet : HaveRun tree weights first first
  went_on : (p q : Programs) → HaveRun tree weights first p → Happened tree weights p q
      → HaveRun tree weights first q

-- ---- the turns that a program takes, and what others do in between

-- From the one moment to the other only the programs of other members did anything.
pub record OthersDid (tree : Tree) (weights : List ℕ) (k : ℕ) (early late : Programs) : Type 0 where
  pub did : HaveRun tree weights early late
  pub here : slice_get late.places k ≡ slice_get early.places k

-- This turn of the member's program is what happened.
pub record IsTurnThere (k : ℕ) (handed : Handed) (before after : Running) (answer : Outcome)
    (turn : IsProgramTurn handed before after answer) (old new : Programs) : Type 0 where
  pub heard : HeardOffered handed before after answer turn old.offered
  pub agrees : file_agrees after.node.log.disk
  pub places : new.places ≡ slice_set old.places k (Runs after)
  pub offered : HasOffered before answer old.offered new.offered

-- These turns of `dpbn node` are what happened, with all that others did before, between and after
-- them.
abbrev pub TurnsHappened : (tree : Tree) (weights : List ℕ) (k : ℕ) (handed : Handed)
    (old : Running) (answers : List Outcome) (new : Running)
    → ProgramTurnsLead handed old answers new → Programs → Programs → Type 0
TurnsHappened tree weights k handed old [] new led early late =
    OthersDid tree weights k early late
TurnsHappened tree weights k handed old (answer ∷ more) new (between, turn, led) early late =
    (p : Programs) × (q : Programs) × OthersDid tree weights k early p
    × IsTurnThere k handed old between answer turn p q
    × TurnsHappened tree weights k handed between more new led q late
