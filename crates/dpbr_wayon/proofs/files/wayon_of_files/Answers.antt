use Rattle.std.proofs.Common.{inl, inr}
use Rattle.std.proofs.lemmas.Result.{IfErr-weaker, IfOk-weaker, err_from_is_err_and}
use Rattle.dpbr_wayon.proofs.files.wayon_of_files.Goals as goal

pub returns-in_err-tree-clause-refused : goal.returns-in_err-tree-clause-refused
returns-in_err-tree-clause-refused g c =
    let p = err_from_is_err_and c.from_residual.result c.from_residual.ensures.1 in
    rw (p.1, p.2) (inl c.in_err-tree.ensures.refused)

pub returns-clause-ok : goal.returns-clause-ok
returns-clause-ok g c =
    IfOk-weaker c.wayon_in_files.result _ _
    (λ answer (status, has). (status, record { tree = c.in_ok-tree.tree; described = c.in_ok-tree.ensures.ok; has_way_on = has })) c.wayon_in_files.ensures.ok

pub returns-clause-refused : goal.returns-clause-refused
returns-clause-refused g c =
    IfErr-weaker c.wayon_in_files.result _ _ (λ r refused. inr (c.in_ok-tree.tree, c.in_ok-tree.ensures.ok, refused)) c.wayon_in_files.ensures.refused
