-- Why a turn is refused, and what state that leaves.
use Rattle.std.specs.Prelude.{◌≡◌, ◌⊎◌, ℕ, true, [], Some, Err}
use Rattle.turn_rules.specs.declared.fault.TurnFault.{TurnFault}
use Rattle.turn_rules.specs.declared.fault.TurnFault.TheVariants.{Memory, Node, Down, NotSent, NotFresh}
use Rattle.node.specs.Calls.{HasFilled, HasTried, left_by}
use Rattle.node.specs.State.{LoggedNode}
use Rattle.node.specs.Step.{Asked, Takes}
use Rattle.node.specs.declared.fault.NodeFault.{NodeFault}
use Rattle.node.specs.declared.fault.NodeFault.TheVariants as fault
use Rattle.lone_node.specs.Handed.{Handed}
use Rattle.stable_record.specs.declared.log_fault.LogFault.TheVariants as log
use Rattle.lone_node.specs.State.{SoloState, me_of}
use Rattle.lone_node.specs.Turn.{IsChosen}
use Rattle.datagram_ports.specs.declared.port.Port.{Ghosts as Port}

-- The node refuses what was chosen, or its log has no room for the step's note. It is left in the
-- state after such a refusal.
pub record IsRefusedBy {D : Type 0} (old new : LoggedNode D) (asked : Asked) (f : NodeFault)
    : Type 0 where
  pub cause : Takes old.node asked (Err f) ⊎ ((f ≡ fault.Log log.Full) × HasFilled old asked)
  pub leaves : new.node ≡ left_by old.node asked f

-- Memory ran out although there is something to do, and the node is unchanged.
abbrev pub WantsMemory : {D P : Type 0} → Port P → SoloState D P → SoloState D P → Handed → Type 0
WantsMemory port old new handed =
    (asked : Asked) × IsChosen port old new handed [] (Some (me_of old, asked))
    × (new.node.node ≡ old.node.node)

-- The node refused what was chosen.
abbrev pub RefusesChoice : {D P : Type 0} → Port P → SoloState D P → SoloState D P → Handed
    → NodeFault → Type 0
RefusesChoice port old new handed f =
    (asked : Asked) × IsChosen port old new handed [] (Some (me_of old, asked))
    × IsRefusedBy old.node new.node asked f

-- The node went down. The note of its step went to the device, and `leaves` holds of what the node
-- was asked.
abbrev pub GoesDown : {D P : Type 0} → Port P → SoloState D P → SoloState D P → Handed
    → (Asked → Type 0) → ℕ → Type 0
GoesDown port old new handed leaves k =
    (asked : Asked) × IsChosen port old new handed [] (Some (me_of old, asked))
    × (k ≡ me_of old) × HasTried old.node asked
    × (new.node.node ≡ record old.node.node { stopped = true }) × leaves asked

-- The cause of each refusal, and the state that it leaves. The port was asked only as for a choice,
-- and was offered nothing. `NotSent` and `NotFresh` don't occur.
abbrev pub IsTurnFault : {D P : Type 0} → Port P → SoloState D P → SoloState D P → Handed
    → (Asked → Type 0) → TurnFault
    → Type 0
IsTurnFault port old new handed leaves Memory =
    WantsMemory port old new handed
IsTurnFault port old new handed leaves (Node f) =
    RefusesChoice port old new handed f
IsTurnFault port old new handed leaves (Down k) =
    GoesDown port old new handed leaves k
IsTurnFault port old new handed leaves NotSent = ⊥
IsTurnFault port old new handed leaves NotFresh = ⊥
