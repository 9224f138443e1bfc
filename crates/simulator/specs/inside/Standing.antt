-- How contracts see a world's fields; and that each node agrees with its disk.
use Rattle.std.specs.Prelude.{◌≡◌, ◌-◌, ℕ, List, Some, drop, length, map, slice_get}
use Rattle.protocol.specs.Events.{Event}
use Rattle.node.specs.OnLog.{IsOnLog, identity, texts_of}
use Rattle.node.specs.Noted.{notes_in}
use Rattle.simulator.specs.History.{History, IsHistory}
use Rattle.simulator.specs.declared.slot.Slot.{Slot}
use Rattle.simulator.specs.declared.slot.Slot.TheVariants.{Up, Down}
use Rattle.simulator.specs.declared.slot.DownNode.{DownNode}
use Rattle.simulator.specs.declared.running_world.World.TheInside.{Inside}
use Rattle.simulator.specs.declared.world_state.WorldState.{WorldState}
use Rattle.simulator.specs.inside.Tables.{AreListed, list_in}
use Rattle.stable_record.specs.Crash.{IsOnDisk}
use Rattle.stable_record.specs.History.{seen}
use Rattle.stable_record.specs.InMemory.{mem_history}
use Rattle.stable_record.specs.Log.{HasNotes}
use Rattle.stable_record.specs.declared.mem_disk.MemDisk.{MemDisk}
use Rattle.world.specs.Happening.{Leads}
use Rattle.world.specs.World.{IsMade, World, WorldNode, down_node, node_at, start, up_node}

-- ---- nodes

-- the bytes that reading the disk returns
abbrev pub file_of : MemDisk → List ℕ
file_of disk = seen (mem_history disk)

-- this number of bytes at the end
abbrev pub last_bytes : ℕ → List ℕ → List ℕ
last_bytes count bytes = drop (length bytes - count) bytes

-- a node that is down
abbrev pub down_view : DownNode → WorldNode
down_view r = down_node (notes_in r.noted.texts) (last_bytes r.behind (file_of r.disk))

-- a node, up or down
abbrev pub node_view : Slot → WorldNode
node_view (Up n) = up_node n.node
node_view (Down r) = down_view r

-- the disk of a node
abbrev pub disk_of : Slot → MemDisk
disk_of (Up n) = n.log.disk
disk_of (Down r) = r.disk

-- The file has the node's notes before the closed gate, and after that gate exactly the bytes that
-- the node left there. All of it is on the disk.
pub record HasLeft (w : World) (k : ℕ) (x : WorldNode) (disk : MemDisk) : Type 0 where
  pub notes : HasNotes (identity w.division.tree w.weights k) (texts_of x.notes) (file_of disk)
  pub behind : notes.behind ≡ x.behind
  pub on_disk : IsOnDisk (mem_history disk)

-- The node agrees with its disk: a node that is up with its log, and one that is down with what it
-- left.
abbrev pub StandsOn : World → ℕ → Slot → Type 0
StandsOn w k (Up n) = (n.node ≡ node_at w k (up_node n.node)) × IsOnLog mem_history n
StandsOn w k (Down r) = HasLeft w k (down_view r) r.disk

-- ---- worlds

-- the world of this state
abbrev pub world_of : WorldState → World
world_of s = record {
  division = s.units;
  weights = s.weights;
  nodes = map node_view s.nodes.items;
  sent = s.tables.sent;
  agreed = list_in s.tables;
}

-- Each node agrees with its disk, and the set of listed paths agrees with the list.
pub record IsStanding (s : WorldState) : Type 0 where
  pub tree : s.units.tree ≡ s.tree
  pub disks : (k : ℕ) (x : Slot) → slice_get s.nodes.items k ≡ Some x
      → StandsOn (world_of s) k x
  pub listed : AreListed s.tables

-- Some events lead from the start to the world.
pub record IsReached (w : World) : Type 0 where
  pub made : IsMade w.division w.weights
  pub events : List Event
  pub led : Leads (start w.division w.weights) events w

-- the world, and the events that it took
abbrev pub history_of : Inside → History
history_of w = record { world = world_of w.state; events = w.events.items }

-- The events that were taken lead from the start to this world, and each node agrees with its disk.
pub record StandsSo (w : Inside) : Type 0 where
  pub history : IsHistory (history_of w)
  pub standing : IsStanding w.state
