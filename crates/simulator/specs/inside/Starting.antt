-- Nodes at the start.
use Rattle.std.specs.Prelude.{◌≡◌, ℕ, List, [], Some, length, slice_get}
use Rattle.listing.specs.Tree.{Tree}
use Rattle.node.specs.Calls.{IsOpened}
use Rattle.node.specs.OnLog.{IsOnLog}
use Rattle.node.specs.State.{LoggedNode}
use Rattle.simulator.specs.declared.slot.Slot.{Slot}
use Rattle.simulator.specs.declared.slot.Slot.TheVariants.{Up, Down}
use Rattle.stable_record.specs.InMemory.{mem_history}
use Rattle.stable_record.specs.declared.mem_disk.MemDisk.{MemDisk}

-- The node with this number is up over a log without notes.
pub record IsFresh (tree : Tree) (weights : List ℕ) (me : ℕ) (n : LoggedNode MemDisk) :
    Type 0 where
  pub opened : IsOpened tree weights me n.node
  pub empty : n.node.notes ≡ []
  pub on_log : IsOnLog mem_history n

-- The node is up, over a log without notes.
abbrev pub IsUpFresh : Tree → List ℕ → ℕ → Slot → Type 0
IsUpFresh tree weights me (Up n) = IsFresh tree weights me n
IsUpFresh tree weights me (Down r) = ⊥

-- There is such a node for each member, by number.
pub record AreFresh (tree : Tree) (weights : List ℕ) (nodes : List Slot) : Type 0 where
  pub count : length nodes ≡ length weights
  pub each : (me : ℕ) (x : Slot) → slice_get nodes me ≡ Some x → IsUpFresh tree weights me x
