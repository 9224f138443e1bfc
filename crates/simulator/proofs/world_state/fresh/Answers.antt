use Rattle.std.proofs.Common.{ap, subst, sym}
use Rattle.simulator.proofs.AtStart.{fresh_of}
use Rattle.simulator.proofs.OnlyMemory.{nothing_has_node}
use Rattle.simulator.proofs.world_state.fresh.Goals as goal
use Rattle.simulator.specs.inside.Opening.{HasNode}
use Rattle.simulator.specs.inside.Standing.{file_of}
use Rattle.stable_record.specs.History.{seen}

pub opened-requires-clause-node : goal.opened-requires-clause-node
opened-requires-clause-node c =
    subst (HasNode c.args.tree.now c.args.weights.now c.args.me)
    (sym (ap seen c.in_ok-disk.ensures))
    (nothing_has_node c.args.tree.now c.requires.units c.args.weights.now c.args.me)

pub returns : goal.returns
returns c =
    fresh_of c.args.tree.now c.args.weights.now c.args.me (file_of c.in_ok-disk.disk)
    (ap seen c.in_ok-disk.ensures) c.opened.result c.opened.ensures
