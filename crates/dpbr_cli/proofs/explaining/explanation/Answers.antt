use Rattle.std.proofs.Common.{◌∙◌, ap}
use Rattle.std.proofs.lemmas.Result.{IfOk-weaker}
use Rattle.dpbr_cli.specs.Explaining.{explanation, rows_text, text_now}
use Rattle.dpbr_cli.proofs.explaining.explanation.Goals as goal

pub returns : goal.returns
unfolding explanation
returns c =
    IfOk-weaker c.rows_text.result _ _
    (λ text is. is ∙ ap (λ rows. rows_text text_now rows c.args.number) c.as_slice.ensures)
    c.rows_text.ensures
