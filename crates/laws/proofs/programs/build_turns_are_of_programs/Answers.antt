use Rattle.laws.proofs.BuildPrograms.{build_turns_are_of_programs}
use Rattle.laws.proofs.programs.build_turns_are_of_programs.Goals as goal

pub returns : goal.returns
returns c = build_turns_are_of_programs
