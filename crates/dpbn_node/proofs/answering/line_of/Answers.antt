use Rattle.std.proofs.Common.{string_bytes}
use Rattle.std.proofs.lemmas.Result.{IfOk-weaker}
use Rattle.dpbn_node.proofs.Shown.{line_is}
use Rattle.dpbn_node.proofs.answering.line_of.Goals as goal

pub returns : goal.returns
returns g c =
    let shown = c.args.solo.now.node.node in
    IfOk-weaker c.node_text.result _ _
    (λ text told. line_is c.args.me shown c.counts.result c.counts.ensures (string_bytes text) told)
    c.node_text.ensures
