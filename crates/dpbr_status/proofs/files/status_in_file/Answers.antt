use Rattle.std.proofs.Common.{subst, sym}
use Rattle.std.proofs.lemmas.Result.{err_from_is_err_and}
use Rattle.dpbr_status.proofs.Refusing.{held_told}
use Rattle.dpbr_status.specs.Status.{RefusesHeld}
use Rattle.program_io.proofs.Refusing.{text_read}
use Rattle.dpbr_status.proofs.files.status_in_file.Goals as goal

pub returns-in_err-text-clause-refused : goal.returns-in_err-text-clause-refused
returns-in_err-text-clause-refused g c =
    let p = err_from_is_err_and c.from_residual-in_err-text.result c.from_residual-in_err-text.ensures.1 in
    let Gave = g.T.NamedTexts.gave c.args.texts.now in
    let name = c.args.held.now in
    let tree = c.args.tree.now in
    let gave : Gave name c.as_slice.result.now = subst (Gave name) (sym c.as_slice.ensures.value) c.in_ok-held.ensures.gave in
    rw (p.1, p.2) (text_read Gave name (λ text. RefusesHeld text tree) _ gave _ (held_told _ tree _ c.in_err-text.ensures.refused))
