use Rattle.std.proofs.Common.{◌∙◌, ◌++◌, string_bytes, ap}
use Rattle.faults.specs.Bytes.{Text}
use Rattle.dpbr_run.proofs.NodeLines.{node_lines_more}
use Rattle.dpbr_run.proofs.text.nodes_text.Goals as goal

pub loop-node-preserved : goal.loop-node-preserved
loop-node-preserved c =
    node_lines_more c.args.world.now.world c.loop-node.node c.loop-node.text.items c.extend_from_slice.new.self.items (string_bytes c.in_ok-line.line)
    c.loop-node.invariant c.in_ok-line.ensures
    (c.in_ok-extend_from_slice.ensures.items ∙ ap (λ (t : Text). c.loop-node.text.items ++ t) c.as_bytes.ensures.value)
