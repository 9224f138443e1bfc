use Rattle.traces.specs.Fields.{number_of}
use Rattle.traces.proofs.Lists.{all_more}
use Rattle.traces.proofs.reading.bytes.Goals as goal

pub loop-item-preserved : goal.loop-item-preserved
loop-item-preserved c =
    rw c.in_ok-push.ensures.items
    (all_more (number_of 255) c.deref-item-items.result.now _ c.loop-item.numbers.items c.loop-item.item-index c.item-item.result c.in_ok-number_of.field-0 c.loop-item-test.true c.item-item.is c.in_ok-number_of.ensures.gives c.loop-item.invariant)
