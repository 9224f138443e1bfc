use Rattle.engine.proofs.WellMade.{one_unit_has, unit_unless}
use Rattle.engine.proofs.unit_laws.unit_unless_ignored.Goals as goal

pub returns-clause-some : goal.returns-clause-some
returns-clause-some c = unit_unless

pub returns-clause-one : goal.returns-clause-one
returns-clause-one c = one_unit_has
