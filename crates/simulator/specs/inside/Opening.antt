-- What the file of a disk in memory opens as.
use Rattle.std.specs.Prelude.{◌≡◌, ℕ, List, Ok}
use Rattle.faults.specs.Bytes.{Text}
use Rattle.listing.specs.Tree.{Tree}
use Rattle.node.specs.Calls.{IsOpened, OpensNode}
use Rattle.node.specs.OnLog.{IsOnLog, identity, identity_of, texts_of}
use Rattle.node.specs.State.{LoggedNode, NodeState}
use Rattle.stable_record.specs.InMemory.{mem_history}
use Rattle.stable_record.specs.Opening.{HasOneAnswer, Opens}
use Rattle.stable_record.specs.declared.mem_disk.MemDisk.{MemDisk}
use Rattle.engine.specs.Division.{Division, IsDivision}

-- The tree has a division into units.
abbrev pub HasUnits : Tree → Type 0
HasUnits tree = (division : Division) × (division.tree ≡ tree) × IsDivision division

-- The file's notes restore some node.
abbrev pub HasNode : Tree → List ℕ → ℕ → Text → Type 0
HasNode tree weights me file = (n : NodeState) × OpensNode tree weights me file (Ok n)

-- The node is the one that the file's notes restore, and is on its log.
pub record IsNodeOf (tree : Tree) (weights : List ℕ) (me : ℕ) (file : Text)
    (n : LoggedNode MemDisk) : Type 0 where
  pub opened : IsOpened tree weights me n.node
  pub notes : Opens (identity_of n.node.member) file (Ok (texts_of n.node.notes))
  pub one_answer : HasOneAnswer (identity tree weights me)
  pub on_log : IsOnLog mem_history n
