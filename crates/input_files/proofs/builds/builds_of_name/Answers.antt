use Rattle.std.proofs.Common.{subst, sym}
use Rattle.std.proofs.lemmas.Result.{IfErr-weaker, IfOk-weaker}
use Rattle.program_io.proofs.Refusing.{text_read}
use Rattle.input_files.specs.Builds.{RefusesBuilds}
use Rattle.input_files.proofs.builds.builds_of_name.Goals as goal

pub returns-clause-ok : goal.returns-clause-ok
returns-clause-ok g c =
    let Gave = g.T.NamedTexts.gave c.args.texts.now in
    let name = c.args.builds.now in
    let gave : Gave name c.as_slice.result.now = subst (Gave name) (sym c.as_slice.ensures.value) c.in_ok-text.ensures.gave in
    IfOk-weaker c.builds_of_text.result _ _ (λ given are. (c.as_slice.result.now, gave, are)) c.builds_of_text.ensures.ok

pub returns-clause-refused : goal.returns-clause-refused
returns-clause-refused g c =
    let Gave = g.T.NamedTexts.gave c.args.texts.now in
    let name = c.args.builds.now in
    let gave : Gave name c.as_slice.result.now = subst (Gave name) (sym c.as_slice.ensures.value) c.in_ok-text.ensures.gave in
    IfErr-weaker c.builds_of_text.result _ _ (λ r told. text_read Gave name RefusesBuilds c.as_slice.result.now gave r told) c.builds_of_text.ensures.refused
