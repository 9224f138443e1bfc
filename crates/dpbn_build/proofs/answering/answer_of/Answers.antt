use Rattle.std.proofs.Common.{◌∙◌, ap}
use Rattle.dpbn_build.proofs.Shown.{line_with}
use Rattle.dpbn_build.proofs.answering.answer_of.Goals as goal

pub returns : goal.returns
returns g c =
    line_with c.args.me c.args.solo.now.node.node c.counts-counts.result c.counts-counts.ensures _
    (ap (λ v. v.items) c.into_bytes.ensures.value ∙ c.in_ok-text.ensures) _ c.status_of.ensures
