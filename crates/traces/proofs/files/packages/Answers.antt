use Rattle.traces.specs.Fields.{package_in}
use Rattle.traces.proofs.Lists.{all_more}
use Rattle.traces.proofs.files.packages.Goals as goal

pub loop-item-preserved : goal.loop-item-preserved
loop-item-preserved c =
    rw c.in_ok-push.ensures.items
    (all_more package_in c.deref-item-items.result.now _ c.loop-item.packages.items c.loop-item.item-index c.item-item.result c.in_ok-package.field-0 c.loop-item-test.true c.item-item.is c.in_ok-package.ensures c.loop-item.invariant)
