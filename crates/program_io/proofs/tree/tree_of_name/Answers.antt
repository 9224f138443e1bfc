use Rattle.std.proofs.Common.{subst, sym}
use Rattle.std.proofs.lemmas.Result.{err_from_is_err_and}
use Rattle.program_io.proofs.Refusing.{listing_read}
use Rattle.program_io.proofs.tree.tree_of_name.Goals as goal

pub returns-in_err-tree-clause-refused : goal.returns-in_err-tree-clause-refused
returns-in_err-tree-clause-refused g c =
    let p = err_from_is_err_and c.from_residual-in_err-tree.result c.from_residual-in_err-tree.ensures.1 in
    let Gave = g.T.NamedTexts.gave c.args.texts.now in
    let name = c.args.listing.now in
    let gave : Gave name c.as_slice.result.now = subst (Gave name) (sym c.as_slice.ensures.value) c.in_ok-listing.ensures.gave in
    rw (p.1, p.2) (listing_read Gave name c.args.is_single _ gave _ c.in_err-tree.ensures)
