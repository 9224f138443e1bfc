-- What may happen to nodes on separate hosts, one thing after the other.
use Rattle.std.specs.Prelude.{◌≡◌, ◌++◌, ℕ, List, Some, Err, slice_get, slice_set}
use Rattle.faults.specs.Bytes.{Text}
use Rattle.laws.specs.Hosts.{Down, Hosts, IsLeft, IsOfATurn, TakesStep, Up, WasOffered, sends_of}
use Rattle.listing.specs.Tree.{Tree}
use Rattle.node.specs.Calls.{IsOpened, left_by}
use Rattle.node.specs.OnLog.{texts_of}
use Rattle.node.specs.State.{NodeState}
use Rattle.node.specs.Step.{Asked, Taken, Takes, after}
use Rattle.node.specs.declared.fault.NodeFault.{NodeFault}

-- A node took a step in a turn, and what the step sends was offered. (A node that ended while
-- sending counts as having offered all of it, and then ended.)
pub record HasTurned (old new : Hosts) : Type 0 where
  pub number : ℕ
  pub node : NodeState
  pub up : slice_get old.hosts number ≡ Some (Up node)
  pub asked : Asked
  pub taken : Taken
  pub step : TakesStep old.offered node asked taken
  pub hosts : new.hosts ≡ slice_set old.hosts number (Up (after node taken))
  pub offered : new.offered ≡ old.offered ++ sends_of taken

-- A node refused what a turn asked of it, and is left in the state after that refusal.
pub record HasRefused (old new : Hosts) : Type 0 where
  pub number : ℕ
  pub node : NodeState
  pub up : slice_get old.hosts number ≡ Some (Up node)
  pub asked : Asked
  pub fault : NodeFault
  pub asks : IsOfATurn asked
  pub came : WasOffered old.offered asked
  pub refuses : Takes node asked (Err fault)
  pub hosts : new.hosts ≡ slice_set old.hosts number (Up (left_by node asked fault))
  pub offered : new.offered ≡ old.offered

-- A node ended, between two turns or during one; or its device failed, so that it takes no further
-- turns.
pub record HasEnded (old new : Hosts) : Type 0 where
  pub number : ℕ
  pub node : NodeState
  pub up : slice_get old.hosts number ≡ Some (Up node)
  pub left : List Text
  pub is_left : IsLeft old.offered node left
  pub hosts : new.hosts ≡ slice_set old.hosts number (Down left)
  pub offered : new.offered ≡ old.offered

-- A node started on a host where none ran. It is that host's member, over the one tree and weights,
-- and it opened its own log, which had its notes.
pub record HasOpened (tree : Tree) (weights : List ℕ) (old new : Hosts) : Type 0 where
  pub number : ℕ
  pub texts : List Text
  pub down : slice_get old.hosts number ≡ Some (Down texts)
  pub node : NodeState
  pub opened : IsOpened tree weights number node
  pub own : texts_of node.notes ≡ texts
  pub hosts : new.hosts ≡ slice_set old.hosts number (Up node)
  pub offered : new.offered ≡ old.offered

-- A turn found nothing to do, or was refused because memory or room on the log ran out. It has no
-- effect.
abbrev pub HasStayed : Hosts → Hosts → Type 0
HasStayed old new = new ≡ old

-- All nodes run over one tree and the same weights, and these things happened, one after the other.
pub data Run (tree : Tree) (weights : List ℕ) (first : Hosts) : Hosts → Type 0 where
  nothing_yet : Run tree weights first first
  stayed : (h g : Hosts) → Run tree weights first h → HasStayed h g → Run tree weights first g
  turned : (h g : Hosts) → Run tree weights first h → HasTurned h g → Run tree weights first g
  refused : (h g : Hosts) → Run tree weights first h → HasRefused h g → Run tree weights first g
  ended : (h g : Hosts) → Run tree weights first h → HasEnded h g → Run tree weights first g
  opened : (h g : Hosts) → Run tree weights first h → HasOpened tree weights h g
      → Run tree weights first g
