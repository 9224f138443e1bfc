-- Hosts whose nodes are those of a world.
use Rattle.std.specs.Prelude.{◌≡◌, ◌↔◌, ℕ, false, List, Some, Contains, slice_get}
use Rattle.engine.specs.Division.{Division}
use Rattle.protocol.specs.Events.{Event}
use Rattle.faults.specs.Bytes.{Text}
use Rattle.laws.specs.Hosts.{Down, Host, Hosts, Up}
use Rattle.node.specs.OnLog.{texts_of}
use Rattle.world.specs.Happening.{Leads}
use Rattle.world.specs.World.{World, WorldNode, node_at, start, up_node}

-- Node k of the world is the host's node: it is up and knows just what the host's node knows, or it
-- is down and the host's log has just its notes.
abbrev pub IsNodeOf : World → ℕ → Host → Type 0
IsNodeOf w k (Up n) =
    (slice_get w.nodes k ≡ Some (up_node n)) × (n ≡ node_at w k (up_node n))
IsNodeOf w k (Down texts) =
    (x : WorldNode) × (slice_get w.nodes k ≡ Some x) × (x.up ≡ false) × (texts_of x.notes ≡ texts)

-- The hosts' nodes are those of the world, and the offered datagrams are those sent in the world.
pub record AreNodesOf (w : World) (h : Hosts) : Type 0 where
  pub nodes : (k : ℕ) (x : Host) → slice_get h.hosts k ≡ Some x → IsNodeOf w k x
  pub sent : (text : Text) → Contains h.offered text ↔ Contains w.sent text

-- The events lead from the start to this world, and its nodes are those of the hosts.
pub record IsWorldOf (division : Division) (weights : List ℕ) (events : List Event) (w : World)
    (h : Hosts) : Type 0 where
  pub led : Leads (start division weights) events w
  pub are : AreNodesOf w h
