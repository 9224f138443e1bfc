use Rattle.std.proofs.Common.{subst, sym}
use Rattle.std.proofs.lemmas.Result.{err_from_is_err_and}
use Rattle.dpbr_audit.proofs.Refusing.{list_told}
use Rattle.dpbr_audit.specs.Audit.{RefusesList}
use Rattle.program_io.proofs.Refusing.{text_read}
use Rattle.dpbr_audit.proofs.files.audit_in_file.Goals as goal

pub returns-in_err-verdict-clause-refused : goal.returns-in_err-verdict-clause-refused
returns-in_err-verdict-clause-refused g c =
    let p = err_from_is_err_and c.from_residual-in_err-verdict.result c.from_residual-in_err-verdict.ensures.1 in
    let Gave = g.T.NamedTexts.gave c.args.texts.now in
    let name = c.args.list.now in
    let tree = c.args.tree.now in
    let gave : Gave name c.as_slice.result.now = subst (Gave name) (sym c.as_slice.ensures.value) c.in_ok-list.ensures.gave in
    rw (p.1, p.2) (text_read Gave name (λ text. RefusesList text tree) _ gave _ (list_told _ tree _ c.in_err-verdict.ensures.refused))
