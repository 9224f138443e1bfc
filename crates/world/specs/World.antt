-- A world: nodes with their notes, the datagrams that were sent, and the agreed list.
use Rattle.engine.specs.Division.{Division, IsDivision}
use Rattle.std.specs.Prelude.{ℕ, Bool, true, false, List, [], Option, None, length, replicate, slice_set}
use Rattle.faults.specs.Bytes.{Text}
use Rattle.package_record.specs.Content.{Content}
use Rattle.ballots.specs.Weights.{AreWeights}
use Rattle.ballots.specs.declared.message.Note.{Note}
use Rattle.protocol.specs.Restoring.{restored}
use Rattle.protocol.specs.State.{OpenClaim, State, Value, fresh}
use Rattle.node.specs.State.{NodeState}
use Rattle.node.specs.Piece.{Piece}

-- a node of the world; its facts are what its notes restore
pub record WorldNode : Type 0 where
  -- the contents of its log, in the order written
  pub notes : List (Note Value)
  -- torn bytes after the last valid note of its log, left by a partial write
  pub behind : Text
  pub up : Bool
  -- empty unless the node is up
  pub claim : Option OpenClaim
  pub pieces : List Piece

-- all nodes, what they sent, and the agreed list
pub record World : Type 0 where
  -- the tree with its units
  pub division : Division
  -- the weight of each member; there is one node for each
  pub weights : List ℕ
  pub nodes : List WorldNode
  -- the distinct datagrams that were sent, in order of first sending
  pub sent : List Text
  -- the agreed list, in the order in which it grew
  pub agreed : List Content

-- a fresh node: up, with no notes
abbrev pub fresh_node : WorldNode
fresh_node = record { notes = []; behind = []; up = true; claim = None; pieces = [] }

-- the initial world: all nodes are up, nothing is noted and nothing was sent
abbrev pub start : Division → List ℕ → World
start division weights = record {
  division = division;
  weights = weights;
  nodes = replicate (length weights) fresh_node;
  sent = [];
  agreed = [];
}

-- the member that runs on node k: what its notes restore, with its open claim
abbrev pub member_at : World → ℕ → WorldNode → State
member_at w k x = record (restored (fresh w.division w.weights k) x.notes) { claim = x.claim }

-- the node's state, as the contracts of crate node see it
abbrev pub node_at : World → ℕ → WorldNode → NodeState
node_at w k x =
    record { member = member_at w k x; notes = x.notes; pieces = x.pieces; stopped = false }

-- a node that is up, with this state
abbrev pub up_node : NodeState → WorldNode
up_node n =
    record { notes = n.notes; behind = []; up = true; claim = n.member.claim; pieces = n.pieces }

-- a node that is down: it has only its notes and the torn bytes after them
abbrev pub down_node : List (Note Value) → Text → WorldNode
down_node notes behind =
    record { notes = notes; behind = behind; up = false; claim = None; pieces = [] }

-- a restarted node: it has its notes, and torn bytes are cut off
abbrev pub restarted_node : List (Note Value) → WorldNode
restarted_node notes = record { notes = notes; behind = []; up = true; claim = None; pieces = [] }

-- the world with this as node k
abbrev pub with_node : World → ℕ → WorldNode → World
with_node w k x = record w { nodes = slice_set w.nodes k x }

-- what is fixed when a world is made: the division of the tree into units, and the weights of 1 to
-- 9 members
pub record IsMade (division : Division) (weights : List ℕ) : Type 0 where
  pub divided : IsDivision division
  pub weigh : AreWeights weights
