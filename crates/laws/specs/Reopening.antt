-- A node that ends at some moment of a turn, and is opened again.
use Rattle.std.specs.Prelude.{◌≡◌, ◌⊎◌, ◌++◌, ℕ, List, Ok}
use Rattle.faults.specs.Bytes.{Text}
use Rattle.laws.specs.Hosts.{TakesStep, WasOffered}
use Rattle.listing.specs.Tree.{Tree}
use Rattle.node.specs.Calls.{IsOpened}
use Rattle.node.specs.OnLog.{IsOnLog, identity, identity_of, texts_of}
use Rattle.node.specs.State.{LoggedNode, NodeState, with_note}
use Rattle.node.specs.Step.{Asked, Taken}
use Rattle.lone_node.specs.Handed.{Handed}
use Rattle.lone_node.specs.State.{SoloState}
use Rattle.lone_node.specs.Turns.{IsTurn, Outcome}
use Rattle.stable_record.specs.Crash.{MayLeave}
use Rattle.stable_record.specs.History.{History, seen}
use Rattle.stable_record.specs.Opening.{HasOneAnswer, Opens}
use Rattle.stable_record.specs.declared.disk.Disk.{Ghosts as Disk}
use Rattle.datagram_ports.specs.declared.port.Port.{Ghosts as Port}

-- A crash at some moment between the old history and the new one may leave this file.
pub record MayBeLeft (old new : History) (file : Text) : Type 0 where
  pub moment : History
  pub since : History
  pub behind : moment ≡ since ++ old
  pub rest : History
  pub before : new ≡ rest ++ moment
  pub may : MayLeave moment file

-- The log was left with the node's notes, or with these and that of a step that the node may take,
-- provided that bytes it takes were offered.
abbrev pub IsLeftInTurn : NodeState → List Text → Type 0
IsLeftInTurn n left =
    (left ≡ texts_of n.notes)
    ⊎ ((asked : Asked) × (t : Taken)
    × ((before : List Text) → WasOffered before asked → TakesStep before n asked t)
    × (left ≡ texts_of (with_note n.notes t.answer.note)))

-- A node was opened on its log and took a turn, which left it in this state. Then the same member's
-- node was opened over another disk. Suppose a crash at some moment of the turn may leave that
-- disk's file. Then the second node has the first one's notes, or these and that of its step.
pub record ComesBack {D E P : Type 0} (disk : Disk D)
    (left_disk : Disk E) (tree : Tree) (weights : List ℕ) (me : ℕ) (first : D) (left : E)
    (new : SoloState D P) (again : LoggedNode E) : Type 0 where
  pub opened : LoggedNode D
  pub is_opened : IsOpened tree weights me opened.node
  pub notes : disk.is_kept new.node.log.disk
      → Opens (identity_of opened.node.member) (seen (disk.history first))
      (Ok (texts_of opened.node.notes))
  pub opened_again : IsOpened tree weights me again.node
  pub has : left_disk.is_kept again.log.disk → disk.is_kept new.node.log.disk
      → MayBeLeft (disk.history opened.log.disk) (disk.history new.node.log.disk)
      (seen (left_disk.history left))
      → IsLeftInTurn opened.node (texts_of again.node.notes)

-- A crash at some moment of the turn may leave this file. Before it the member's node was on its
-- log.
pub record LeavesFile {D P : Type 0} (disk : Disk D)
    (tree : Tree) (weights : List ℕ) (me : ℕ) (old new : SoloState D P) (file : Text) : Type 0 where
  pub kept : disk.is_kept new.node.log.disk
  pub on_log : IsOnLog disk.history old.node
  pub own : identity_of old.node.node.member ≡ identity tree weights me
  pub one_answer : HasOneAnswer (identity tree weights me)
  pub left : MayBeLeft (disk.history old.node.log.disk) (disk.history new.node.log.disk) file

-- Law: a crash at any moment of a turn leaves a log that opens with the notes from before, or with
-- these and that of the step. This is a law of each turn, whatever was handed in.
abbrev pub TurnsLeaveLogs : {D P : Type 0} → Disk D
    → Port P → Type 0
TurnsLeaveLogs {D} {P} disk port =
    (tree : Tree) (weights : List ℕ) (me : ℕ) (handed : Handed) (old new : SoloState D P)
    (answer : Outcome) (file : Text) (again : NodeState)
    → IsTurn disk port handed old new answer
    → LeavesFile disk tree weights me old new file
    → IsOpened tree weights me again
    → Opens (identity tree weights me) file (Ok (texts_of again.notes))
    → IsLeftInTurn old.node.node (texts_of again.notes)
