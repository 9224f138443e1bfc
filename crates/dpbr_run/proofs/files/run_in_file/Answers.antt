use Rattle.std.proofs.Common.{refl}
use Rattle.std.proofs.lemmas.Result.{err_from_is_err_and}
use Rattle.dpbr_run.proofs.Refusing.{event_refused, trace_refused}
use Rattle.dpbr_run.specs.Run.{RefusesTrace}
use Rattle.program_io.proofs.Refusing.{text_read}
use Rattle.dpbr_run.proofs.files.run_in_file.Goals as goal

pub returns-in_err-trace-clause-refused : goal.returns-in_err-trace-clause-refused
returns-in_err-trace-clause-refused g c =
    let p = err_from_is_err_and c.from_residual.result c.from_residual.ensures.1 in
    rw (p.1, p.2) (trace_refused (g.T.NamedTexts.gave c.args.texts.now) c.args.trace.now c.args.tree.now _ c.in_err-trace.ensures.refused)

pub returns-in_err-text-clause-refused : goal.returns-in_err-text-clause-refused
returns-in_err-text-clause-refused g c =
    let p = err_from_is_err_and c.from_residual-in_err-text.result c.from_residual-in_err-text.ensures.1 in
    let spelled = c.in_ok-trace.ensures.ok in
    let tree = c.args.tree.now in
    rw (p.1, p.2) (text_read (g.T.NamedTexts.gave c.args.texts.now) c.args.trace.now (λ text. RefusesTrace text tree) spelled.0 spelled.1 _
    (event_refused spelled.0 tree _ (c.in_err-text.ensures.refused spelled.0 spelled.2)))

pub returns-clause-ok : goal.returns-clause-ok
returns-clause-ok g c =
    let spelled = c.in_ok-trace.ensures.ok in
    (refl, spelled.0, spelled.1, c.in_ok-text.ensures.ok spelled.0 spelled.2)
