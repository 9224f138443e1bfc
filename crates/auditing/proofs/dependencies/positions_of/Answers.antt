use Rattle.auditing.proofs.Positions.{one_more_listed}
use Rattle.auditing.proofs.dependencies.positions_of.Goals as goal

pub loop-dep-preserved : goal.loop-dep-preserved
loop-dep-preserved c =
    one_more_listed c.args.tree.now c.args.deps.now c.loop-dep.dep-index c.dep-item.result c.loop-dep.positions.items c.push.new.self.items c.in-Some.position
    c.loop-dep-test.true c.dep-item.is c.loop-dep.invariant c.in-Some.ensures c.in_ok-push.ensures.items
