use Rattle.std.specs.Prelude.{⊤}
use Rattle.std.proofs.lemmas.Result.{IfErr-weaker, IfOk-weaker}
use Rattle.program_io.proofs.Refusing.{described, refused}
use Rattle.program_io.proofs.tree.tree_of_file.Goals as goal

pub returns-clause-ok : goal.returns-clause-ok
returns-clause-ok g c = IfOk-weaker c.tree_of_name.result _ _ (described (λ _ _. ⊤) c.args.listing.now c.args.is_single) c.tree_of_name.ensures.ok

pub returns-clause-refused : goal.returns-clause-refused
returns-clause-refused g c = IfErr-weaker c.tree_of_name.result _ _ (refused (λ _ _. ⊤) c.args.listing.now c.args.is_single) c.tree_of_name.ensures.refused
