use Rattle.world.proofs.DistinctEntries.{nothing_sent_twice}
use Rattle.world.proofs.Growth.{leads_later}
use Rattle.world.proofs.EventParts.{leads_together}
use Rattle.world.proofs.laws.datagrams_keep_their_numbers.Goals as goal
use Rattle.std.specs.Prelude.{◌++◌}
use Rattle.world.specs.World.{start}

pub returns : goal.returns
returns c = λ division weights early late w v first then. (
  nothing_sent_twice division weights (early ++ late) v (leads_together (start division weights) w v early late first then),
  (leads_later w v late then).sent,
)
