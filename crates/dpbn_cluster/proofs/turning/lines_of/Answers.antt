use Rattle.std.proofs.Common.{◌++◌, ◌∙◌, ap, string_bytes}
use Rattle.dpbr_run.proofs.NodeLines.{no_node_lines, node_lines_more}
use Rattle.faults.specs.Bytes.{Text}
use Rattle.dpbn_cluster.proofs.turning.lines_of.Goals as goal

pub loop-node-preserved : goal.loop-node-preserved
loop-node-preserved g c w is =
    node_lines_more w c.loop-node.node c.loop-node.text.items c.extend_from_slice.new.self.items
    (string_bytes c.in_ok-line.line) (c.loop-node.invariant w is) (c.in_ok-line.ensures w is)
    (c.in_ok-extend_from_slice.ensures.items
    ∙ ap (λ (t : Text). c.loop-node.text.items ++ t) c.as_bytes.ensures.value)
