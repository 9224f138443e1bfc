use Rattle.std.proofs.lemmas.Result.{err_from_is_err_and}
use Rattle.dpbr_status.proofs.Refusing.{held_told}
use Rattle.dpbr_status.specs.Status.{RefusesHeld}
use Rattle.program_io.proofs.Refusing.{first_refused, second_refused}
use Rattle.program_io.specs.Listings.{rules_for}
use Rattle.dpbr_status.proofs.texts.status_of_texts.Goals as goal

pub returns-in_err-tree-clause-refused : goal.returns-in_err-tree-clause-refused
returns-in_err-tree-clause-refused c =
    let p = err_from_is_err_and c.from_residual.result c.from_residual.ensures.1 in
    rw (p.1, p.2) (first_refused RefusesHeld (rules_for c.args.is_single) c.args.listing.now c.args.held.now _ c.in_err-tree.ensures)

pub returns-in_err-text-clause-refused : goal.returns-in_err-text-clause-refused
returns-in_err-text-clause-refused c =
    let p = err_from_is_err_and c.from_residual-in_err-text.result c.from_residual-in_err-text.ensures.1 in
    let held = c.args.held.now in
    rw (p.1, p.2) (second_refused RefusesHeld (rules_for c.args.is_single) c.args.listing.now held c.in_ok-tree.tree _ c.in_ok-tree.ensures
    (held_told held c.in_ok-tree.tree _ c.in_err-text.ensures.refused))

pub returns-clause-ok : goal.returns-clause-ok
returns-clause-ok c = record { tree = c.in_ok-tree.tree; described = c.in_ok-tree.ensures; status = c.in_ok-text.ensures.ok }
