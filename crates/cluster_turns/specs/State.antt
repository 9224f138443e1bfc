-- A cluster: its state between turns, and the world that it is.
use Rattle.std.specs.Prelude.{◌≡◌, ℕ, false, List, [], Some, map, slice_get, if◌then◌else◌}
use Rattle.turn_rules.specs.Choice.{Here}
use Rattle.turn_rules.specs.Pending.{Pending}
use Rattle.cluster_turns.specs.Here.{here_in}
use Rattle.protocol.specs.Events.{Event, event_view}
use Rattle.protocol.specs.declared.event.Event as declared
use Rattle.faults.specs.Bytes.{Text}
use Rattle.node.specs.OnLog.{IsOnLog}
use Rattle.node.specs.State.{LoggedNode}
use Rattle.engine.specs.Division.{Division}
use Rattle.world.specs.Happening.{Leads}
use Rattle.world.specs.World.{IsMade, World, WorldNode, down_node, node_at, start, up_node}
use Rattle.stable_record.specs.declared.disk.Disk.{Ghosts as Disk}

-- a cluster
pub record ClusterState (D P : Type 0) : Type 0 where
  -- the tree, and its units
  pub division : Division
  -- the weight of each member, which has one node
  pub weights : List ℕ
  -- by number; a node whose device failed is down
  pub nodes : List (LoggedNode D)
  -- the different datagrams that were sent, in the order in which they were first sent
  pub sent : List Text
  -- what turns returned, with a stop during the step for each device that failed
  pub events : List declared.Event
  -- the state that is kept between turns
  pub pending : Pending
  pub port : P

-- the events, in order
abbrev pub taken : {D P : Type 0} → ClusterState D P → List Event
taken c = map event_view c.events

-- the node as one of a world
abbrev pub node_view : {D : Type 0} → LoggedNode D → WorldNode
node_view n = if n.node.stopped then down_node n.node.notes [] else up_node n.node

-- the members of the nodes that are up, by number
abbrev pub here_of : {D P : Type 0} → ClusterState D P → Here
here_of c = here_in c.nodes

-- The world is the one to which the cluster's events lead from the start. It has the cluster's
-- nodes, up and down, and its datagrams. (The list that is agreed there follows from the events; no
-- cluster stores it.)
pub record IsWorldOf {D P : Type 0} (c : ClusterState D P) (w : World) : Type 0 where
  pub made : IsMade c.division c.weights
  pub led : Leads (start c.division c.weights) (taken c) w
  pub nodes : w.nodes ≡ map node_view c.nodes
  pub sent : w.sent ≡ c.sent
  -- a node that is up knows exactly what the world's node knows
  pub know : (k : ℕ) (n : LoggedNode D) → slice_get c.nodes k ≡ Some n → n.node.stopped ≡ false
      → n.node ≡ node_at w k (node_view n)

-- Each node that is up has its notes on its log, if its disk keeps to the disk model.
abbrev pub AreOnLogs : {D P : Type 0} → Disk D → ClusterState D P → Type 0
AreOnLogs {D} disk c =
    (k : ℕ) (n : LoggedNode D) → slice_get c.nodes k ≡ Some n → n.node.stopped ≡ false
    → disk.is_kept n.log.disk → IsOnLog disk.history n
