-- Laws of ways.
use Rattle.std.specs.Prelude.{◌≡◌, ◌⊎◌, ◌≤◌, ℕ, List, Some, slice_get}
use Rattle.protocol.specs.Events.{Event}
use Rattle.faults.specs.Bytes.{Text}
use Rattle.protocol.specs.Given.{Given}
use Rattle.engine.specs.Division.{Division, number_found}
use Rattle.ways_on.specs.Asked.{HasNoWay, IsGranted}
use Rattle.ways_on.specs.Length.{IsShort}
use Rattle.ways_on.specs.Ways.{AreOnWay, Arrives, IsWay}
use Rattle.ways_on.specs.declared.fault.WayFault.{WayFault}
use Rattle.world.specs.Happening.{Leads}
use Rattle.world.specs.World.{IsMade, World, WorldNode, member_at, start}

-- In a reachable world, taking the events of a way reaches its goal.
abbrev pub WaysArrive : Type 0
WaysArrive =
    (division : Division) (weights : List ℕ) (before : List Event) (w : World) (k u : ℕ)
    (events : List Event) → IsMade division weights → Leads (start division weights) before w
    → IsWay w k u events → Arrives w k u events

-- The events are a short way for the unit that the path names, and taking them reaches its goal.
pub record HasWay (w : World) (k : ℕ) (path : Text) (host : ℕ) (given : Given)
    (events : List Event) : Type 0 where
  pub unit : ℕ
  pub named : number_found w.division path ≡ Some unit
  pub is_way : IsWay w k unit events
  pub arrives : Arrives w k unit events
  pub are : AreOnWay w k path host given events
  pub node : WorldNode
  pub stands : slice_get w.nodes k ≡ Some node
  pub is_short : IsShort w (member_at w k node) unit host given events

-- In a reachable world there is a way unless one is refused, provided that the host has 16 bits.
abbrev pub EachHasAWay : Type 0
EachHasAWay =
    (division : Division) (weights : List ℕ) (before : List Event) (w : World) (k : ℕ)
    (path : Text) (host : ℕ) (given : Given) → IsMade division weights
    → Leads (start division weights) before w → host ≤ 65535
    → IsGranted w k path host given → (events : List Event) × HasWay w k path host given events

-- In a reachable world a way is either granted or refused, never both, and it is refused for only
-- one reason.
abbrev pub OneReason : Type 0
OneReason =
    (division : Division) (weights : List ℕ) (before : List Event) (w : World) (k : ℕ)
    (path : Text) (host : ℕ) (given : Given) → IsMade division weights
    → Leads (start division weights) before w
    → (IsGranted w k path host given ⊎ ((f : WayFault) × HasNoWay w k path host given f))
    × ((f : WayFault) → IsGranted w k path host given → HasNoWay w k path host given f → ⊥)
    × ((f g : WayFault) → HasNoWay w k path host given f → HasNoWay w k path host given g
    → f ≡ g)
