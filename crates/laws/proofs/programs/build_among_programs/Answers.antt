use Rattle.laws.proofs.BuildPrograms.{among_programs}
use Rattle.laws.proofs.programs.build_among_programs.Goals as goal

pub returns : goal.returns
returns g c =
    λ ended. among_programs c.args.rest c.args.solo.now c.run.new.solo (c.run.ensures ended)
