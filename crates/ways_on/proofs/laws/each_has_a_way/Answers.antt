use Rattle.ways_on.proofs.HasOne.{each_has_one}
use Rattle.ways_on.proofs.Reasons.{one_reason}
use Rattle.ways_on.proofs.laws.each_has_a_way.Goals as goal

pub returns-clause-way : goal.returns-clause-way
returns-clause-way c = each_has_one

pub returns-clause-reason : goal.returns-clause-reason
returns-clause-reason c = one_reason
