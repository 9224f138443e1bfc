use Rattle.world.proofs.HeldAlike.{held_alike}
use Rattle.world.proofs.laws.nodes_hold_alike.Goals as goal

pub returns : goal.returns
returns c = held_alike
