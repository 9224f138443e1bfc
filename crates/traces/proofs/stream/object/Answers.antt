use Rattle.std.proofs.Common.{◌∙◌, Option, sym, ap, subst}
use Rattle.std.proofs.lemmas.Result.{IfOk-weaker, IfErr-weaker}
use Rattle.serde_json.specs.Data.{Data}
use Rattle.serde_json.specs.Read.{read}
use Rattle.traces.specs.inside.Given.{Fails}
use Rattle.traces.specs.inside.Kept.{KeepsWhole, outer_of}
use Rattle.traces.proofs.Values.{no_value, utf8_read}
use Rattle.traces.proofs.stream.object.Goals as goal

pub returns-in-Ok-clause-ok : goal.returns-in-Ok-clause-ok
returns-in-Ok-clause-ok c =
    let case = c.in-Ok.ensures.cases in
    let same = ap read case.0 ∙ sym (utf8_read c.args.text.now case.1) in
    IfOk-weaker c.whole.result _ _ (λ r keeps. subst (λ (o : Option Data). KeepsWhole o r.0 r.1) same keeps) c.whole.ensures.ok

pub returns-in-Ok-clause-err : goal.returns-in-Ok-clause-err
returns-in-Ok-clause-err c =
    let case = c.in-Ok.ensures.cases in
    let same = ap read case.0 ∙ sym (utf8_read c.args.text.now case.1) in
    IfErr-weaker c.whole.result _ _ (λ e fails. subst (λ (o : Option Data). Fails e (outer_of o)) same fails) c.whole.ensures.err

pub returns-in-Err-clause-err : goal.returns-in-Err-clause-err
returns-in-Err-clause-err c = ap outer_of (no_value c.args.text.now (λ utf8. absurd (c.in-Err.ensures.cases.0 utf8)))
