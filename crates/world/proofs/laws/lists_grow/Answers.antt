use Rattle.world.proofs.DistinctEntries.{one_a_path}
use Rattle.world.proofs.Growth.{list_grows}
use Rattle.world.proofs.laws.lists_grow.Goals as goal

pub returns-clause-grows : goal.returns-clause-grows
returns-clause-grows c = list_grows

pub returns-clause-one_a_path : goal.returns-clause-one_a_path
returns-clause-one_a_path c = one_a_path
