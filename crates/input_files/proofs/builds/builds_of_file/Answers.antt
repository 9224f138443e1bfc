use Rattle.std.specs.Prelude.{⊤}
use Rattle.std.proofs.lemmas.Result.{IfErr-weaker, IfOk-weaker}
use Rattle.input_files.proofs.BuildsFile.{are_builds, refused}
use Rattle.input_files.proofs.builds.builds_of_file.Goals as goal

pub returns-clause-ok : goal.returns-clause-ok
returns-clause-ok g c = IfOk-weaker c.builds_of_name.result _ _ (are_builds (λ _ _. ⊤) c.args.builds.now) c.builds_of_name.ensures.ok

pub returns-clause-refused : goal.returns-clause-refused
returns-clause-refused g c = IfErr-weaker c.builds_of_name.result _ _ (refused (λ _ _. ⊤) c.args.builds.now) c.builds_of_name.ensures.refused
