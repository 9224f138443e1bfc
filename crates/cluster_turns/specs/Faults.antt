-- Why a turn is refused.
use Rattle.std.specs.Prelude.{◌≡◌, ℕ, false, Some}
use Rattle.turn_rules.specs.declared.fault.TurnFault.{TurnFault}
use Rattle.turn_rules.specs.declared.fault.TurnFault.TheVariants.{Memory, Node, Down, NotSent, NotFresh}
use Rattle.protocol.specs.Events.{Event}
use Rattle.faults.specs.Bytes.{Text, is_among}
use Rattle.node.specs.Step.{Asked, Comes}
use Rattle.protocol.specs.Given.{Given}
use Rattle.cluster_turns.specs.State.{ClusterState, IsWorldOf}
use Rattle.cluster_turns.specs.Turn.{IsChosen, IsEventChosen, IsSame, WentDown}
use Rattle.world.specs.Happening.{IsRefused}
use Rattle.world.specs.World.{World}
use Rattle.world.specs.declared.fault.WorldFault.TheVariants as world
use Rattle.datagram_ports.specs.declared.port.Port.{Ghosts as Port}

-- The cause of each refusal:
-- - `Memory`: memory ran out, and there is something to do.
-- - `Node`: the world refuses the chosen event.
-- - `Down`: the device of the event's node failed.
-- - `NotSent`: bytes were received for a node that is up, and no node sent them.
-- - `NotFresh` doesn't occur.
abbrev pub IsTurnFault : {D P : Type 0} → Port P → ClusterState D P → ClusterState D P → Given
    → TurnFault → Type 0
IsTurnFault port old new builds Memory =
    (chosen : ℕ × Asked) × IsChosen port old new builds (Some chosen)
IsTurnFault port old new builds (Node f) =
    (e : Event) × IsEventChosen port old new builds e
    × ((w : World) → IsWorldOf old w → IsRefused w e (world.Node f))
IsTurnFault port old new builds (Down k) =
    (e : Event) × IsEventChosen port old new builds e × WentDown old new e k
IsTurnFault port old new builds NotSent =
    (k : ℕ) × (text : Text) × IsChosen port old new builds (Some (k, Comes text))
    × (is_among old.sent text ≡ false)
IsTurnFault port old new builds NotFresh = ⊥

-- What a refusal leaves: everything but the port is unchanged, unless a node went down.
abbrev pub IsLeftBy : {D P : Type 0} → ClusterState D P → ClusterState D P → TurnFault → Type 0
IsLeftBy old new Memory = IsSame old new
IsLeftBy old new (Node f) = IsSame old new
IsLeftBy old new (Down k) = Prim.Unit {0}
IsLeftBy old new NotSent = IsSame old new
IsLeftBy old new NotFresh = IsSame old new
