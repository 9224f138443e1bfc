-- One node, whose peers run elsewhere.
use Rattle.std.specs.Prelude.{◌==◌, ℕ, Option, None, Some, if◌then◌else◌}
use Rattle.turn_rules.specs.Choice.{Here}
use Rattle.turn_rules.specs.Pending.{Pending}
use Rattle.node.specs.State.{LoggedNode, NodeState}
use Rattle.protocol.specs.State.{State}

-- a node, its state between turns, and its port
pub record SoloState (D P : Type 0) : Type 0 where
  pub node : LoggedNode D
  pub pending : Pending
  pub port : P

-- the node's number
abbrev pub me_of : {D P : Type 0} → SoloState D P → ℕ
me_of s = s.node.node.member.me

-- the node's member, while it is up
abbrev pub member_up : NodeState → Option State
member_up n = if n.stopped then None else Some n.member

-- the members whose nodes are here and up, by number: at most this one
abbrev pub only : NodeState → Here
only n k = if k == n.member.me then member_up n else None
