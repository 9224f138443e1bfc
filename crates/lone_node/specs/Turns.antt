-- Sequences of turns of a node.
use Rattle.std.specs.Prelude.{◌≡◌, ◌⊎◌, ℕ, Bool, false, true, List, [], ◌∷◌, Option, None, Result, Err, Ok, IfErr, IfNone, IfOk, IfSome, MatchResult, length}
use Rattle.turn_rules.specs.Acts.{asked_by}
use Rattle.turn_rules.specs.declared.act.Act.{Act}
use Rattle.turn_rules.specs.declared.fault.TurnFault.{TurnFault}
use Rattle.turn_rules.specs.declared.fault.TurnFault.TheVariants.{Down, Memory, Node, NotFresh, NotSent}
use Rattle.node.specs.OnLog.{IsLogged, IsOnLog}
use Rattle.datagram_ports.specs.Kept.{KeepsVouching}
use Rattle.lone_node.specs.Handed.{Handed}
use Rattle.stable_record.specs.Faults.{HasRisen}
use Rattle.lone_node.specs.Faults.{IsTurnFault}
use Rattle.lone_node.specs.State.{SoloState}
use Rattle.lone_node.specs.Turn.{HasTaken, IsChosen, IsHeard, IsUntouched, LeavesAtMost, OffersNothing}
use Rattle.stable_record.specs.declared.disk.Disk.{Ghosts as Disk}
use Rattle.datagram_ports.specs.declared.port.Port.{Ghosts as Port}

-- what a turn returns
abbrev pub Outcome : Type 0
Outcome = Result (Option Act) TurnFault

-- whether a turn with this answer counts: it doesn't if memory ran out
abbrev pub counts : Outcome → Bool
counts (Ok act) = true
counts (Err Memory) = false
counts (Err (Node f)) = true
counts (Err (Down k)) = true
counts (Err NotSent) = true
counts (Err NotFresh) = true

-- What a successful turn did:
-- - It took the node's step on the turn's choice. The port went through exactly one receive, unless
--   a job was answered, and then the step's sends. It vouches for bytes that the node took.
-- - Or there was nothing to do, and only the port changed, which was asked in the same way.
pub record HasDone {D P : Type 0} (port : Port P) (handed : Handed) (old new : SoloState D P)
    (answer : Outcome) : Type 0 where
  pub taken : IfOk answer (λ o. IfSome o (λ act. HasTaken port old new handed (asked_by act)))
  pub heard : IfOk answer (λ o. IfSome o (λ act. IsHeard port new.port (asked_by act)))
  pub nothing : IfOk answer (λ o. IfNone o (IsChosen port old new handed [] None))
  pub same : IfOk answer (λ o. IfNone o
      ((new.node ≡ old.node) × (new.pending ≡ old.pending) × OffersNothing port old new))

-- Why a turn was refused, and what state that leaves. The port was asked in the same way, and was
-- offered nothing.
pub record RefusesSo {D P : Type 0} (disk : Disk D) (port : Port P) (handed : Handed)
    (old new : SoloState D P) (answer : Outcome) : Type 0 where
  pub refused : IfErr answer (IsTurnFault port old new handed (LeavesAtMost disk old new))
  pub left : IfErr answer (λ f. (new.pending ≡ old.pending) × OffersNothing port old new)
  pub device : IfErr answer (λ f. (k : ℕ) → f ≡ Down k
      → HasRisen (disk.failures_of old.node.log.disk) (disk.failures_of new.node.log.disk))

-- The log before and after the turn, and at each moment of it.
pub record KeepsLog {D P : Type 0} (disk : Disk D) (old new : SoloState D P) (answer : Outcome)
    : Type 0 where
  pub logged : IsLogged old.node
  pub on_log : disk.is_kept new.node.log.disk → IsOnLog disk.history old.node
      → new.node.node.stopped ≡ false → IsOnLog disk.history new.node
  pub any_moment : IfOk answer (λ o. IfSome o (λ act. LeavesAtMost disk old new (asked_by act)))
  pub untouched : MatchResult answer (λ o. IfNone o (IsUntouched disk old new))
      (λ f. ((k : ℕ) × (f ≡ Down k)) ⊎ IsUntouched disk old new)
  pub kept : disk.is_kept new.node.log.disk → disk.is_kept old.node.log.disk

-- A turn with this answer. The port still vouches for whatever it vouched for.
pub record IsTurn {D P : Type 0} (disk : Disk D) (port : Port P) (handed : Handed)
    (old new : SoloState D P) (answer : Outcome) : Type 0 where
  pub done : HasDone port handed old new answer
  pub refuses : RefusesSo disk port handed old new answer
  pub log : KeepsLog disk old new answer
  pub vouches_on : KeepsVouching port.vouches old.port new.port

-- Turns with these answers lead from one state to the other. Each begins in the state that the one
-- before left, and nothing else happens in between.
abbrev pub TurnsLead : {D P : Type 0} → Disk D → Port P → Handed → SoloState D P → List Outcome
    → SoloState D P → Type 0
TurnsLead disk port handed old [] new = new ≡ old
TurnsLead disk port handed old (answer ∷ more) new =
    (between : _) × IsTurn disk port handed old between answer
    × TurnsLead disk port handed between more new

-- This number of turns led from one state to the other.
pub record HaveTurned {D P : Type 0} (disk : Disk D) (port : Port P) (handed : Handed) (count : ℕ)
    (old new : SoloState D P) : Type 0 where
  pub answers : List Outcome
  pub counted : length answers ≡ count
  pub led : TurnsLead disk port handed old answers new
