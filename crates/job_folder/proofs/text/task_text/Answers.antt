use Rattle.std.proofs.Common.{List, [], ◌∷◌, ◌++◌, ap, ◌∙◌, codes, map}
use Rattle.faults.specs.Bytes.{Text}
use Rattle.claims.specs.Job as jobs
use Rattle.claims.specs.declared.deps.Dep.{Dep}
use Rattle.package_record.specs.Content.{built_line, ended}
use Rattle.job_folder.specs.Tasks.{package_line, task_of, tree_line}
use Rattle.job_folder.proofs.Lines.{task_told}
use Rattle.job_folder.proofs.text.task_text.Goals as goal

pub returns : goal.returns
returns c =
    let tree =
    c.in_ok-put_tree.ensures
    ∙ ap (λ (items : Text). items ++ ended (tree_line c.args.tree.now ∷ [])) c.new-text.ensures.items in
    let unit =
    c.in_ok-put_unit.ensures
    ∙ ap (λ (job : jobs.Task). c.put_tree.new.out.items ++ ended ((codes "@unit " ++ job.path) ∷ [])) c.job.view_is in
    let packages =
    c.in_ok-put_packages.ensures
    ∙ ap (λ (paths : List Text). c.put_unit.new.out.items ++ ended (map package_line paths)) c.packages.ensures.packages in
    let built =
    c.in_ok-put_signatures.ensures
    ∙ ap (λ (deps : List Dep). c.put_packages.new.out.items ++ ended (map built_line deps)) (c.as_slice.ensures ∙ c.deps.ensures.deps) in
    task_told c.args.tree.now (task_of c.args.job.now) _ _ _ _ tree unit packages built
