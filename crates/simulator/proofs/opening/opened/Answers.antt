use Rattle.std.proofs.Common.{subst, sym}
use Rattle.listing.specs.Tree.{Tree}
use Rattle.simulator.proofs.OnlyMemory.{only_memory}
use Rattle.simulator.specs.inside.Opening.{HasNode, IsNodeOf}
use Rattle.simulator.specs.inside.Standing.{file_of}
use Rattle.simulator.proofs.opening.opened.Goals as goal

pub returns-in-Ok : goal.returns-in-Ok
returns-in-Ok c =
    subst (λ (t : Tree). IsNodeOf t c.args.weights.now c.args.me (file_of c.args.disk) c.in-Ok.node)
    c.tree-own.ensures (record {
      opened = c.in-Ok.ensures.node;
      notes = c.in-Ok.ensures.notes tt;
      one_answer = c.in-Ok.ensures.one_answer;
      on_log = c.in-Ok.ensures.on_log tt;
    })

pub unreachable-requires : goal.unreachable-requires
unreachable-requires c =
    c.in_default.not-Memory (only_memory c.tree-own.result.now c.args.weights.now c.args.me
    (file_of c.args.disk)
    (subst (λ (t : Tree). HasNode t c.args.weights.now c.args.me (file_of c.args.disk))
    (sym c.tree-own.ensures) c.requires.node) c.in-Err.fault c.in-Err.ensures.one_node
    (c.in-Err.ensures.refused tt) c.in-Err.ensures.device)
