use Rattle.std.proofs.Common.{IfErr, subst, sym}
use Rattle.std.proofs.lemmas.Result.{err_from_is_err_and}
use Rattle.quick_calls.specs.Stopped.{RefusesCall}
use Rattle.quick_calls.proofs.calls.answer_of_files.Goals as goal

pub returns-in_err-audit_of_files-in-Audit-clause-refused :
    goal.returns-in_err-audit_of_files-in-Audit-clause-refused
returns-in_err-audit_of_files-in-Audit-clause-refused g c =
    let p = err_from_is_err_and c.from_residual-in_err-audit_of_files-in-Audit.result c.from_residual-in_err-audit_of_files-in-Audit.ensures.1 in
    subst (λ call. IfErr c.from_residual-in_err-audit_of_files-in-Audit.result (RefusesCall (g.T.NamedTexts.gave c.args.texts.now) call)) (sym c.in-Audit.is)
    (rw (p.1, p.2) c.in_err-audit_of_files-in-Audit.ensures.refused)
