use Rattle.engine.proofs.WellMade.{well_made}
use Rattle.engine.proofs.unit_laws.units_are_well_made.Goals as goal

pub returns : goal.returns
returns c = well_made
