-- Turns of a node whose claims are built while it runs.
use Rattle.std.specs.Prelude.{◌≡◌, ◌≢◌, ◌⊎◌, ℕ, true, List, [], ◌∷◌, Option, None}
use Rattle.dpbn_node.specs.Runs.{Outcome, SoFar, SoloState}
use Rattle.dpbn_node.specs.Runs.{IsTurn as IsTurnOf}
use Rattle.scheduler.specs.Wish.{Wish}
use Rattle.node.specs.State.{NodeState}
use Rattle.protocol.specs.Given.{Given}
use Rattle.protocol.specs.Step.{job_of_claim}
use Rattle.udp.specs.declared.patience.Hurry.{Hurry}
use Rattle.stable_record.specs.declared.disk.Disk.{Ghosts as Disk}
use Rattle.datagram_ports.specs.declared.port.Port.{Ghosts as Port}

-- A turn: how long the port waits, the result for the node's job, if there is one yet, the node's
-- wish, and the turn's outcome.
pub record Turn : Type 0 where
  pub hurry : Hurry
  pub made : Option Given
  pub wish : Option Wish
  pub answer : Outcome

-- The port went through these states, one after the other: in each step a notice was taken from it
-- or given to it.
abbrev pub NoticesLead : {P : Type 0} → (P → P → Type 0) → P → List P → P → Type 0
NoticesLead noticed old [] new = new ≡ old
NoticesLead noticed old (next ∷ more) new = noticed old next × NoticesLead noticed next more new

-- Notices were taken from the port and given to it, and nothing else happened to it.
pub record HasExchanged {P : Type 0} (noticed : P → P → Type 0) (old new : P) : Type 0 where
  pub states : List P
  pub led : NoticesLead noticed old states new

-- the node with this port, at which a receive waits as given
abbrev pub told_to : {D P : Type 0} → (P → Hurry → P) → Hurry → P → SoloState D P → SoloState D P
told_to hurried hurry port s = record s { port = hurried port hurry }

-- The turn led from the old state to the new one. Before it the port exchanged notices, and its
-- wait was set. So before the turn nothing of the node changed but its port.
abbrev pub IsTurn : {D P : Type 0} → Disk D → Port P → (P → P → Type 0) → (P → Hurry → P)
    → SoloState D P → Turn → SoloState D P → Type 0
IsTurn disk port noticed hurried old turn new =
    (exchanged : _) × HasExchanged noticed old.port exchanged
    × IsTurnOf disk port (SoFar turn.made turn.wish)
    (told_to hurried turn.hurry exchanged old) new turn.answer

-- The turns led from one state to the other: each began in the state that the one before left, and
-- nothing else happened in between.
abbrev pub TurnsLead : {D P : Type 0} → Disk D → Port P → (P → P → Type 0) → (P → Hurry → P)
    → SoloState D P → List Turn → SoloState D P → Type 0
TurnsLead disk port noticed hurried old [] new = new ≡ old
TurnsLead disk port noticed hurried old (turn ∷ more) new =
    (between : _) × IsTurn disk port noticed hurried old turn between
    × TurnsLead disk port noticed hurried between more new

-- How the turns end: the node is down; or it ends at rest, and its claim waits for no build.
abbrev pub IsAtEnd : Option ℕ → NodeState → Type 0
IsAtEnd rest n = (n.stopped ≡ true) ⊎ ((rest ≢ None) × (job_of_claim n.member ≡ None))

-- Turns led from one state to the other, one at least, and then the node is at its end.
pub record HaveTurned {D P : Type 0} (disk : Disk D) (port : Port P) (noticed : P → P → Type 0)
    (hurried : P → Hurry → P) (rest : Option ℕ) (old new : SoloState D P) : Type 0 where
  pub turns : List Turn
  pub some : turns ≢ []
  pub led : TurnsLead disk port noticed hurried old turns new
  pub ends : IsAtEnd rest new.node.node
