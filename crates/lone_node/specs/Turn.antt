-- One turn of a node whose peers run elsewhere.
use Rattle.std.specs.Prelude.{◌≡◌, ⊤, Bool, false, List, [], ◌∷◌, None, Some, Result, Ok, if◌then◌else◌, length}
use Rattle.turn_rules.specs.Choice.{Chosen}
use Rattle.turn_rules.specs.Pending.{kept_after}
use Rattle.node.specs.Calls.{LeavesItsNoteAtMost}
use Rattle.node.specs.OnLog.{IsFull, IsOnLog}
use Rattle.node.specs.Parcels.{datagrams_to}
use Rattle.node.specs.Step.{Asked, Comes, Does, Taken, Takes, after}
use Rattle.turn_rules.specs.Calls.{came_by}
use Rattle.turn_rules.specs.Offered.{WasOffered, parcels_from}
use Rattle.datagram_ports.specs.Calls.{Call, Received, WentThrough}
use Rattle.datagram_ports.specs.Kept.{Arrived, GoesOnBy, Parcel}
use Rattle.datagram_ports.specs.declared.fault.PortFault.{PortFault}
use Rattle.lone_node.specs.Handed.{Handed, IsChoiceBy, answers_first}
use Rattle.lone_node.specs.State.{SoloState, me_of, only}
use Rattle.stable_record.specs.declared.disk.Disk.{Ghosts as Disk}
use Rattle.datagram_ports.specs.declared.port.Port.{Ghosts as Port}

-- whether a job of the node is answered before anything else
abbrev pub has_work : {D P : Type 0} → SoloState D P → Handed → Bool
has_work s handed = answers_first handed (only s.node.node) (length s.node.node.member.weights)

-- What receives returned in the turn. The port is asked once, unless a job was answered.
abbrev pub looked_for : Bool → Arrived → List Arrived
looked_for has_job came = if has_job then [] else came ∷ []

-- the receive calls of the turn
abbrev pub received_by : Bool → Result Arrived PortFault → List Call
received_by has_job answer = if has_job then [] else Received answer ∷ []

-- If bytes were received, the port vouches for them.
abbrev pub IsVouchedFor : {P : Type 0} → Port P → P → Arrived → Type 0
IsVouchedFor port state None = ⊤
IsVouchedFor port state (Some d) = port.vouches state d.1

-- It is the turn's choice, given what a receive returned, which the port vouched for as the receive
-- left it. The port went through exactly these calls: one receive or none, and then the sends of
-- these datagrams.
pub record IsChosen {D P : Type 0} (port : Port P) (old new : SoloState D P) (handed : Handed)
    (parcels : List Parcel) (chosen : Chosen) : Type 0 where
  pub answer : Result Arrived PortFault
  pub looked : GoesOnBy (looked_for (has_work old handed) (came_by answer)) (port.given old.port)
      (port.given new.port)
  pub between : P
  pub received : WentThrough port.does old.port (received_by (has_work old handed) answer) between
  pub sent : WasOffered port.does between parcels new.port
  pub vouched : IsVouchedFor port between (came_by answer)
  pub choice : IsChoiceBy handed (only old.node.node) (length old.node.node.member.weights)
      old.pending (came_by answer) chosen

-- The node took its step on what it was asked, and its log had room for the note. The state between
-- turns was updated, and exactly the step's sends were offered.
pub record HasTaken {D P : Type 0} (port : Port P) (old new : SoloState D P) (handed : Handed)
    (asked : Asked) : Type 0 where
  pub taken : Taken
  pub takes : Takes old.node.node asked (Ok taken)
  pub room : ¬ IsFull old.node.node taken.answer.note
  pub node : new.node.node ≡ after old.node.node taken
  pub pending : new.pending ≡ kept_after old.pending (me_of old) old.node.node.member asked
  pub offers : GoesOnBy (parcels_from (me_of old) (datagrams_to taken.answer.sends))
      (port.offered old.port) (port.offered new.port)
  pub chosen : IsChosen port old new handed
      (parcels_from (me_of old) (datagrams_to taken.answer.sends)) (Some (me_of old, asked))

-- If the node is asked to take bytes, the port vouches for them.
abbrev pub IsHeard : {P : Type 0} → Port P → P → Asked → Type 0
IsHeard port state (Comes text) = port.vouches state text
IsHeard port state (Does input) = ⊤

-- Nothing was offered.
abbrev pub OffersNothing : {D P : Type 0} → Port P → SoloState D P → SoloState D P → Type 0
OffersNothing port old new = GoesOnBy [] (port.offered old.port) (port.offered new.port)

-- A crash at any moment of the turn leaves the notes, with that of the step on what was asked, or
-- without it.
abbrev pub LeavesAtMost : {D P : Type 0} → Disk D → SoloState D P → SoloState D P → Asked
    → Type 0
LeavesAtMost disk old new asked =
    disk.is_kept new.node.log.disk → IsOnLog disk.history old.node
    → LeavesItsNoteAtMost old.node.node asked (disk.history old.node.log.disk)
    (disk.history new.node.log.disk)

-- If the disk keeps to the disk model, and the node, unless it was stopped, was on its log, then
-- nothing was done to the disk: no write or cut had an effect, and no sync succeeded.
abbrev pub IsUntouched : {D P : Type 0} → Disk D → SoloState D P → SoloState D P → Type 0
IsUntouched disk old new =
    disk.is_kept new.node.log.disk → (old.node.node.stopped ≡ false → IsOnLog disk.history old.node)
    → disk.history new.node.log.disk ≡ disk.history old.node.log.disk
