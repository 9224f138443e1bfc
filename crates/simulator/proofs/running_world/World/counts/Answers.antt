use Rattle.std.proofs.Common.{◌≡◌, Some, slice_get, subst}
use Rattle.engine.specs.State as engines
use Rattle.node.specs.State.{NodeState}
use Rattle.protocol.specs.State.{engine_of}
use Rattle.world.specs.World.{WorldNode, member_at}
use Rattle.simulator.specs.History.{History}
use Rattle.simulator.proofs.running_world.World.counts.Goals as goal

pub returns : goal.returns
returns c =
    subst (λ (h : History). (x : WorldNode) → slice_get h.world.nodes c.args.node ≡ Some x
    → engines.AreCounts (engine_of (member_at h.world c.args.node x)) c.counts.result)
    c.self.view_is
    (λ x at. subst (λ (n : NodeState). engines.AreCounts (engine_of n.member) c.counts.result)
    (c.up.ensures x at) c.counts.ensures.counts)
