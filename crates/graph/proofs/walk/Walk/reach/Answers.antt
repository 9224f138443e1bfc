use Rattle.graph.specs.Lists.{list_at}
use Rattle.graph.proofs.Turned.{AreReached-one}
use Rattle.graph.proofs.walk.Walk.reach.Goals as goal

pub returns-clause-reached : goal.returns-clause-reached
returns-clause-reached c = AreReached-one (list_at c.args.lists.now) c.args.from c.reach_all.new.self.found c.reach_all.ensures.reached
