-- What holds of a node's steps.
use Rattle.std.specs.Prelude.{◌≡◌, false, Ok}
use Rattle.protocol.specs.Answers as members
use Rattle.node.specs.State.{IsNode, NodeState}
use Rattle.node.specs.Step.{Asked, Taken, Takes, after}

-- A node that takes a step is not stopped.
abbrev pub OnlyRunningNodesTake : Type 0
OnlyRunningNodesTake =
    (n : NodeState) (asked : Asked) (t : Taken) → Takes n asked (Ok t) → n.stopped ≡ false

-- A step leaves the node's member in the state that the member's own answer leads to.
abbrev pub StepsAreTheMembers : Type 0
StepsAreTheMembers =
    (n : NodeState) (t : Taken) → IsNode n → (after n t).member ≡ members.after n.member t.answer
