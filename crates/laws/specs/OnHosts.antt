-- Laws: turns of a lone node are among the things that may happen to hosts.
use Rattle.std.specs.Prelude.{◌≡◌, ◌≢◌, ◌++◌, ⊤, ℕ, true, List, [], None, Some, Ok, Err, Contains, IfOk, slice_get}
use Rattle.turn_rules.specs.Acts.{asked_by}
use Rattle.turn_rules.specs.Choice.{Chosen}
use Rattle.turn_rules.specs.declared.fault.TurnFault.TheVariants as refused
use Rattle.faults.specs.Bytes.{Text}
use Rattle.laws.specs.Hosts.{Down, Host, Hosts, IsLeft, Up, WasOffered, sends_of}
use Rattle.laws.specs.Run.{Run}
use Rattle.listing.specs.Tree.{Tree}
use Rattle.node.specs.Step.{Taken, Takes}
use Rattle.lone_node.specs.Handed.{Handed}
use Rattle.lone_node.specs.State.{SoloState}
use Rattle.lone_node.specs.Turn.{IsChosen}
use Rattle.lone_node.specs.Turns.{IsTurn, Outcome}
use Rattle.stable_record.specs.declared.disk.Disk.{Ghosts as Disk}
use Rattle.datagram_ports.specs.declared.port.Port.{Ghosts as Port}

module _ {D P : Type 0} (disk : Disk D)
    (port : Port P) (handed : Handed)
    (old new : SoloState D P) where
  abbrev IsThisTurn : Outcome → Type 0
  IsThisTurn = IsTurn disk port handed old new

  -- If the turn took bytes, they were offered before. What it took is what it answers that the node
  -- did, or what the node refused, or what the node was asked when its device failed. A turn that
  -- found nothing to do, or for which memory ran out, took nothing.
  abbrev pub TookOffered : (answer : Outcome) → IsThisTurn answer → List Text → Type 0
  TookOffered (Ok (Some act)) turn before = WasOffered before (asked_by act)
  TookOffered (Ok None) turn before = ⊤
  TookOffered (Err refused.Memory) turn before = ⊤
  TookOffered (Err (refused.Node f)) turn before = WasOffered before (turn.refuses.refused).0
  TookOffered (Err (refused.Down k)) turn before = WasOffered before (turn.refuses.refused).0
  TookOffered (Err refused.NotSent) turn before = ⊤
  TookOffered (Err refused.NotFresh) turn before = ⊤

  -- All texts that the port vouches for were offered before: they were sent in this run.
  abbrev pub VouchesForOffered : P → List Text → Type 0
  VouchesForOffered state before = (text : Text) → port.vouches state text → Contains before text

  -- If the turn took something, all that the port vouched for, as the turn's receive left it, was
  -- offered before.
  abbrev pub ReceivedOffered : (answer : Outcome) → IsThisTurn answer → List Text → Type 0
  ReceivedOffered (Ok (Some act)) turn before =
      VouchesForOffered ((turn.done.taken).chosen).between before
  ReceivedOffered (Ok None) turn before = ⊤
  ReceivedOffered (Err refused.Memory) turn before = ⊤
  ReceivedOffered (Err (refused.Node f)) turn before =
      VouchesForOffered ((turn.refuses.refused).1).between before
  ReceivedOffered (Err (refused.Down k)) turn before =
      VouchesForOffered ((turn.refuses.refused).1).between before
  ReceivedOffered (Err refused.NotSent) turn before = ⊤
  ReceivedOffered (Err refused.NotFresh) turn before = ⊤

-- What runs on the host after a turn with this answer: the node as the turn left it, or nothing if
-- its device failed. In that case its log has these texts.
abbrev pub host_after : {D P : Type 0} → SoloState D P → List Text → Outcome → Host
host_after new left (Ok act) = Up new.node.node
host_after new left (Err refused.Memory) = Up new.node.node
host_after new left (Err (refused.Node f)) = Up new.node.node
host_after new left (Err (refused.Down k)) = Down left
host_after new left (Err refused.NotSent) = Up new.node.node
host_after new left (Err refused.NotFresh) = Up new.node.node

-- What the turn offers: what the node's step sends, if it took one.
abbrev pub HasOffered : {D P : Type 0} → SoloState D P → Outcome → List Text → List Text → Type 0
HasOffered state (Ok (Some act)) old new =
    (t : Taken) × Takes state.node.node (asked_by act) (Ok t) × (new ≡ old ++ sends_of t)
HasOffered state (Ok None) old new = new ≡ old
HasOffered state (Err f) old new = new ≡ old

-- The hosts after a turn of the node with this number: its own host is as the turn left it, the
-- others are unchanged, and what the turn offers is appended.
pub record IsAfterTurn {D P : Type 0} (h g : Hosts) (k : ℕ) (old new : SoloState D P)
    (left : List Text) (answer : Outcome) : Type 0 where
  pub here : slice_get g.hosts k ≡ Some (host_after new left answer)
  pub others : (j : ℕ) → j ≢ k → slice_get g.hosts j ≡ slice_get h.hosts j
  pub offered : HasOffered old answer h.offered g.offered

-- Law: a turn of a running node is one of the things that may happen to hosts, if what it took was
-- offered before. If its device failed, this holds for whatever a node that ends may leave on its
-- log.
abbrev pub TurnsAreOfARun : {D P : Type 0} → Disk D
    → Port P → Type 0
TurnsAreOfARun {D} {P} disk port =
    (tree : Tree) (weights : List ℕ) (first h : Hosts) (k : ℕ) (handed : Handed)
    (old new : SoloState D P) (left : List Text) (answer : Outcome) → Run tree weights first h
    → slice_get h.hosts k ≡ Some (Up old.node.node) → IsLeft h.offered old.node.node left
    → (turn : IsTurn disk port handed old new answer)
    → TookOffered disk port handed old new answer
    turn h.offered
    → (g : Hosts) × Run tree weights first g × IsAfterTurn h g k old new left answer

-- Law: this also holds if all that the port vouched for, as the turn's receive left it, was offered
-- before.
abbrev pub VouchedTurnsAreOfARun : {D P : Type 0} → Disk D
    → Port P → Type 0
VouchedTurnsAreOfARun {D} {P} disk port =
    (tree : Tree) (weights : List ℕ) (first h : Hosts) (k : ℕ) (handed : Handed)
    (old new : SoloState D P) (left : List Text) (answer : Outcome) → Run tree weights first h
    → slice_get h.hosts k ≡ Some (Up old.node.node) → IsLeft h.offered old.node.node left
    → (turn : IsTurn disk port handed old new answer)
    → ReceivedOffered disk port handed old new answer
    turn h.offered
    → (g : Hosts) × Run tree weights first g × IsAfterTurn h g k old new left answer

-- The turn did nothing: the node took no step and is unchanged, and the port was only asked as for
-- a choice and was offered nothing.
pub record HasOnlyAsked {D P : Type 0} (port : Port P) (handed : Handed)
    (old new : SoloState D P) (answer : Outcome) : Type 0 where
  pub nothing : IfOk answer (λ o. o ≡ None)
  pub node : new.node.node ≡ old.node.node
  pub asked : (chosen : Chosen) × IsChosen port old new handed [] chosen

-- Law: a turn of a stopped node does nothing. So its host stays down, with the same log.
abbrev pub StoppedNodesStay : {D P : Type 0} → Disk D
    → Port P → Type 0
StoppedNodesStay {D} {P} disk port =
    (handed : Handed) (old new : SoloState D P) (answer : Outcome)
    → old.node.node.stopped ≡ true
    → IsTurn disk port handed old new answer
    → HasOnlyAsked port handed old new answer
