use Rattle.engine.proofs.WellMade.{ignored_spreads}
use Rattle.engine.proofs.unit_laws.ignored_spreads.Goals as goal

pub returns : goal.returns
returns c = ignored_spreads
