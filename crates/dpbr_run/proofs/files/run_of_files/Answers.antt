use Rattle.std.proofs.Common.{inl, inr}
use Rattle.std.proofs.lemmas.Result.{IfErr-weaker, IfOk-weaker, err_from_is_err_and}
use Rattle.dpbr_run.proofs.files.run_of_files.Goals as goal

pub returns-in_err-tree-clause-refused : goal.returns-in_err-tree-clause-refused
returns-in_err-tree-clause-refused g c =
    let p = err_from_is_err_and c.from_residual.result c.from_residual.ensures.1 in
    rw (p.1, p.2) (inl c.in_err-tree.ensures.refused)

pub returns-clause-ok : goal.returns-clause-ok
returns-clause-ok g c =
    IfOk-weaker c.run_in_file.result _ _
    (λ answer (status, trace, gave, is). (
      status,
      record { tree = c.in_ok-tree.tree; described = c.in_ok-tree.ensures.ok; trace = trace; from_trace = gave; is_run = is },
    ))
    c.run_in_file.ensures.ok

pub returns-clause-refused : goal.returns-clause-refused
returns-clause-refused g c =
    IfErr-weaker c.run_in_file.result _ _ (λ r refused. inr (c.in_ok-tree.tree, c.in_ok-tree.ensures.ok, refused)) c.run_in_file.ensures.refused
