use Rattle.std.proofs.Common.{rules, string_bytes}
use Rattle.std.proofs.lemmas.Result.{IfOk-weaker}
use Rattle.dpbr_run.proofs.NodeLines.{down_line, up_line}
use Rattle.dpbr_run.proofs.text.line_of.Goals as goal

pub returns-then-is_up : goal.returns-then-is_up
returns-then-is_up c =
    let w = c.args.world.now.world in
    IfOk-weaker c.node_text.result _ _
    (λ text is. up_line w c.args.node c.counts.result (string_bytes text) (search (rules, c.is_up.ensures, c.if-is_up.true)) c.counts.ensures is)
    c.node_text.ensures

pub returns-else-is_up : goal.returns-else-is_up
returns-else-is_up c =
    let w = c.args.world.now.world in
    IfOk-weaker c.node_text-else-is_up.result _ _
    (λ text is. down_line w c.args.node (string_bytes text) (search (rules, c.is_up.ensures, c.if-is_up.false)) is)
    c.node_text-else-is_up.ensures
