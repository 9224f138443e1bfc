use Rattle.engine.proofs.WellMade.{singles_alone}
use Rattle.engine.proofs.unit_laws.singles_stand_alone.Goals as goal

pub returns : goal.returns
returns c = singles_alone
