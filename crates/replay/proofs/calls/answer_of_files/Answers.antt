use Rattle.std.proofs.Common.{IfErr, subst, sym}
use Rattle.replay.specs.Stopped.{RefusesCall}
use Rattle.replay.proofs.calls.answer_of_files.Goals as goal

pub returns-in-Wayon-clause-refused : goal.returns-in-Wayon-clause-refused
returns-in-Wayon-clause-refused g c =
    subst (λ call. IfErr c.wayon_of_files.result (RefusesCall (g.T.NamedTexts.gave c.args.texts.now) call)) (sym c.in-Wayon.is) c.wayon_of_files.ensures.refused
