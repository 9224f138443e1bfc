use Rattle.laws.proofs.OneProgram.{node_turns_are_of_programs}
use Rattle.laws.proofs.programs.node_turns_are_of_programs.Goals as goal

pub returns : goal.returns
returns c = node_turns_are_of_programs
