-- What holds whatever each node that went down during a step left on its log.
use Rattle.std.specs.Prelude.{◌≡◌, ◌⊎◌, ℕ, false, List, Some, slice_get}
use Rattle.std.specs.List.{AllZip}
use Rattle.protocol.specs.Events.{Event, StopIn}
use Rattle.protocol.specs.declared.event.Left.{Left}
use Rattle.protocol.specs.declared.event.Left.TheVariants as left
use Rattle.one_list.specs.MatchingLaws.{IsSafe}
use Rattle.node.specs.State.{LoggedNode}
use Rattle.cluster_turns.specs.State.{ClusterState, taken}
use Rattle.world.specs.Happening.{Leads}
use Rattle.world.specs.Headline.{HasOneList}
use Rattle.world.specs.World.{World, node_at, start, up_node}

-- The second event is the first; or the first is a stop that left nothing, and the second is this
-- stop with anything left.
abbrev pub IsLeftAs : Event → Event → Type 0
IsLeftAs e f =
    (f ≡ e)
    ⊎ ((input : Event) × (l : Left) × (e ≡ StopIn input left.None) × (f ≡ StopIn input l))

-- They are the same events, except that stops which left nothing may have left anything.
abbrev pub AreLeftAs : List Event → List Event → Type 0
AreLeftAs events others = AllZip IsLeftAs events others

-- From the start these events lead to the world, which has the cluster's datagrams and the
-- cluster's nodes that are up, with all that they know.
pub record LeadsToUp {D P : Type 0} (c : ClusterState D P) (events : List Event) (w : World)
    : Type 0 where
  pub led : Leads (start c.division c.weights) events w
  pub sent : w.sent ≡ c.sent
  pub stand : (k : ℕ) (n : LoggedNode D) → slice_get c.nodes k ≡ Some n → n.node.stopped ≡ false
      → slice_get w.nodes k ≡ Some (up_node n.node)
  pub know : (k : ℕ) (n : LoggedNode D) → slice_get c.nodes k ≡ Some n → n.node.stopped ≡ false
      → n.node ≡ node_at w k (up_node n.node)

-- Whatever each stop left, the events lead to such a world.
abbrev pub StandsInAnyCase : {D P : Type 0} → ClusterState D P → Type 0
StandsInAnyCase c =
    (events : List Event) → AreLeftAs (taken c) events → (w : World) × LeadsToUp c events w

-- Whatever each stop left, the events lead to such a world, and what holds of each run holds of
-- this one.
abbrev pub IsListedInAnyCase : {D P : Type 0} → ClusterState D P → Type 0
IsListedInAnyCase c =
    (events : List Event) → AreLeftAs (taken c) events
    → (w : World) × LeadsToUp c events w × HasOneList c.division c.weights events w
    × IsSafe c.division c.weights events w
