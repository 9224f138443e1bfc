use Rattle.std.proofs.Common.{string_bytes}
use Rattle.std.proofs.lemmas.Result.{IfOk-weaker}
use Rattle.dpbn_cluster.proofs.Lines.{line_is}
use Rattle.dpbn_cluster.proofs.turning.line_of.Goals as goal

pub returns : goal.returns
returns g c w is =
    IfOk-weaker c.node_text.result _ _
    (λ text told. line_is c.args.cluster.now w is c.args.node c.counts.result c.counts.ensures
    (string_bytes text) told)
    c.node_text.ensures
