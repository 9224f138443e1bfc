use Rattle.std.proofs.Common.{inr, subst, sym}
use Rattle.std.proofs.lemmas.Result.{IfErr-weaker, IfOk-weaker}
use Rattle.input_files.proofs.trace.trace_of_name.Goals as goal

pub returns-clause-ok : goal.returns-clause-ok
returns-clause-ok g c =
    let Gave = g.T.NamedTexts.gave c.args.texts.now in
    let name = c.args.trace.now in
    let gave : Gave name c.as_slice.result.now = subst (Gave name) (sym c.as_slice.ensures.value) c.in_ok-text.ensures.gave in
    IfOk-weaker c.trace_of_text.result _ _ (λ read is. (c.as_slice.result.now, gave, is)) c.trace_of_text.ensures.ok

pub returns-clause-refused : goal.returns-clause-refused
returns-clause-refused g c =
    let Gave = g.T.NamedTexts.gave c.args.texts.now in
    let name = c.args.trace.now in
    let gave : Gave name c.as_slice.result.now = subst (Gave name) (sym c.as_slice.ensures.value) c.in_ok-text.ensures.gave in
    IfErr-weaker c.trace_of_text.result _ _ (λ r told. inr (c.as_slice.result.now, gave, told)) c.trace_of_text.ensures.refused
