-- The members of the nodes that are up.
use Rattle.std.specs.Prelude.{List, Option, None, Some, slice_get, if◌then◌else◌}
use Rattle.turn_rules.specs.Choice.{Here}
use Rattle.node.specs.State.{LoggedNode}
use Rattle.protocol.specs.State.{State}

-- the node's member, if the node is up
abbrev pub member_up : {D : Type 0} → Option (LoggedNode D) → Option State
member_up None = None
member_up (Some n) = if n.node.stopped then None else Some n.node.member

-- the members of the nodes that are up, by number
abbrev pub here_in : {D : Type 0} → List (LoggedNode D) → Here
here_in nodes k = member_up (slice_get nodes k)
