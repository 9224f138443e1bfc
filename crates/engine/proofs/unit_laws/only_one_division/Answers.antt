use Rattle.engine.proofs.Once.{one_division, one_unit}
use Rattle.engine.proofs.unit_laws.only_one_division.Goals as goal

pub returns-clause-units : goal.returns-clause-units
returns-clause-units c = one_division

pub returns-clause-unit : goal.returns-clause-unit
returns-clause-unit c = one_unit
