-- Lost nodes: they went down inside a step and never start again. What remains on their logs
-- affects no other node.
use Rattle.std.specs.Prelude.{◌≡◌, ◌≢◌, ◌⊎◌, ◌++◌, ◌∷◌, ℕ, false, List, Some, All, length, slice_get}
use Rattle.std.specs.List.{AllZip}
use Rattle.protocol.specs.Events.{Event, Restart, StopIn, node_of}
use Rattle.protocol.specs.declared.event.Left.{Left}
use Rattle.protocol.specs.declared.event.Left.TheVariants as left
use Rattle.one_list.specs.MatchingLaws.{IsSafe}
use Rattle.engine.specs.Division.{Division}
use Rattle.world.specs.Happening.{Leads, StopsIn}
use Rattle.world.specs.Headline.{HasOneList}
use Rattle.world.specs.World.{IsMade, World, WorldNode, start}

-- None of the events restarts node k.
abbrev pub NeverStarts : ℕ → List Event → Type 0
NeverStarts k events = All (λ e. e ≢ Restart k) events

-- After a stop inside a step that left nothing of its note, no later event restarts that node.
abbrev pub StayDown : List Event → Type 0
StayDown events =
    (before behind : List Event) (step : Event)
    → events ≡ before ++ StopIn step left.None ∷ behind → NeverStarts (node_of step) behind

-- Each of these stops could also have left the whole note: the log had room for it.
abbrev pub CouldLeaveAll : World → List Event → Type 0
CouldLeaveAll w events =
    (before behind : List Event) (step : Event) (u : World)
    → events ≡ before ++ StopIn step left.None ∷ behind → Leads w before u
    → (v : World) × StopsIn u step left.Whole v

-- The events are equal; or both are stops inside the same step, the first left nothing of its note,
-- and the second left anything.
abbrev pub IsLeftAs : Event → Event → Type 0
IsLeftAs e f =
    (f ≡ e) ⊎ ((step : Event) × (l : Left) × (e ≡ StopIn step left.None) × (f ≡ StopIn step l))

-- The lists of events differ at most in what such stops left.
abbrev pub AreLeftAs : List Event → List Event → Type 0
AreLeftAs events others = AllZip IsLeftAs events others

-- The worlds differ at most in nodes that are down in both. What was sent, the list, and each node
-- that is up are equal.
pub record IsButLost (w v : World) : Type 0 where
  pub but : v ≡ record w { nodes = v.nodes }
  pub count : length v.nodes ≡ length w.nodes
  pub nodes : (k : ℕ) (x y : WorldNode)
      → slice_get w.nodes k ≡ Some x → slice_get v.nodes k ≡ Some y
      → (y ≡ x) ⊎ ((x.up ≡ false) × (y.up ≡ false))

-- Suppose that nodes went down inside steps, that these stops left nothing of their notes, and that
-- the nodes never start again. Then the stops might as well have left anything: the changed events
-- lead to a world as well. It differs at most in nodes that are down, and it has one list.
abbrev pub AnythingMayBeLeft : Type 0
AnythingMayBeLeft =
    (division : Division) (weights : List ℕ) (events others : List Event) (w : World)
    → IsMade division weights → Leads (start division weights) events w → StayDown events
    → CouldLeaveAll (start division weights) events → AreLeftAs events others
    → (v : World) × Leads (start division weights) others v × IsButLost w v
    × HasOneList division weights others v × IsSafe division weights others v
