use Rattle.package_lists.specs.ListText.{built_line}
use Rattle.package_lists.proofs.FlatLines.{flat_next}
use Rattle.package_lists.proofs.text.put_package.Goals as goal

pub loop-dep-preserved : goal.loop-dep-preserved
loop-dep-preserved c =
    flat_next built_line _ _ _ c.built-dep-items.result.now c.loop-dep.dep-index c.dep-item.result c.loop-dep-test.true c.dep-item.is
    c.loop-dep.invariant c.in_ok-put_signature-2.ensures
