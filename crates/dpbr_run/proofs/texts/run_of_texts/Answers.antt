use Rattle.std.proofs.lemmas.Result.{IfErr-weaker, IfOk-weaker, err_from_is_err_and}
use Rattle.dpbr_run.specs.Run.{RefusesTrace}
use Rattle.program_io.proofs.Refusing.{first_refused, second_refused}
use Rattle.program_io.specs.Listings.{rules_for}
use Rattle.dpbr_run.proofs.texts.run_of_texts.Goals as goal

pub returns-in_err-tree-clause-refused : goal.returns-in_err-tree-clause-refused
returns-in_err-tree-clause-refused c =
    let p = err_from_is_err_and c.from_residual.result c.from_residual.ensures.1 in
    rw (p.1, p.2) (first_refused RefusesTrace (rules_for c.args.is_single) c.args.listing.now c.args.trace.now _ c.in_err-tree.ensures)

pub returns-clause-ok : goal.returns-clause-ok
returns-clause-ok c =
    IfOk-weaker c.run_of_trace-answer.result _ _
    (λ text is. record { tree = c.in_ok-tree.tree; described = c.in_ok-tree.ensures; run = is })
    c.run_of_trace-answer.ensures.ok

pub returns-clause-refused : goal.returns-clause-refused
returns-clause-refused c =
    let listing = c.args.listing.now in
    let trace = c.args.trace.now in
    let tree = c.in_ok-tree.tree in
    IfErr-weaker c.run_of_trace-answer.result _ _
    (λ r told. second_refused RefusesTrace (rules_for c.args.is_single) listing trace tree r c.in_ok-tree.ensures told)
    c.run_of_trace-answer.ensures.refused
