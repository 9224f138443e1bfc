use Rattle.turn_rules.proofs.FailedBelow.{none_below}
use Rattle.turn_rules.proofs.owning.own.Goals as goal

pub own_from-requires-clause-below : goal.own_from-requires-clause-below
own_from-requires-clause-below g c = none_below c.args.node.now.node.member c.args.pending.now
