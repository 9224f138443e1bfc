use Rattle.engine.proofs.WellMade.{path_is_found}
use Rattle.engine.proofs.unit_laws.paths_are_found.Goals as goal

pub returns : goal.returns
returns c = path_is_found
