use Rattle.std.proofs.lemmas.Result.{err_from_is_err_and}
use Rattle.dpbr_audit.proofs.Refusing.{list_told}
use Rattle.dpbr_audit.specs.Audit.{RefusesList}
use Rattle.program_io.proofs.Refusing.{first_refused, second_refused}
use Rattle.program_io.specs.Listings.{rules_for}
use Rattle.dpbr_audit.proofs.texts.audit_of_texts.Goals as goal

pub returns-in_err-tree-clause-refused : goal.returns-in_err-tree-clause-refused
returns-in_err-tree-clause-refused c =
    let p = err_from_is_err_and c.from_residual.result c.from_residual.ensures.1 in
    rw (p.1, p.2) (first_refused RefusesList (rules_for c.args.is_single) c.args.listing.now c.args.list.now _ c.in_err-tree.ensures)

pub returns-in_err-verdict-clause-refused : goal.returns-in_err-verdict-clause-refused
returns-in_err-verdict-clause-refused c =
    let p = err_from_is_err_and c.from_residual-in_err-verdict.result c.from_residual-in_err-verdict.ensures.1 in
    let list = c.args.list.now in
    rw (p.1, p.2) (second_refused RefusesList (rules_for c.args.is_single) c.args.listing.now list c.in_ok-tree.tree _ c.in_ok-tree.ensures
    (list_told list c.in_ok-tree.tree _ c.in_err-verdict.ensures.refused))

pub returns-clause-ok : goal.returns-clause-ok
returns-clause-ok c = record { tree = c.in_ok-tree.tree; described = c.in_ok-tree.ensures; is_verdict = c.in_ok-verdict.ensures.ok }
