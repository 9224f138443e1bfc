use Rattle.laws.proofs.ProgramWorlds.{programs_make_a_world}
use Rattle.laws.proofs.programs.programs_make_a_world.Goals as goal

pub returns : goal.returns
returns c = programs_make_a_world
