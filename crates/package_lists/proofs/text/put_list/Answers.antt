use Rattle.package_lists.specs.ListText.{record_lines}
use Rattle.package_lists.proofs.FlatLines.{flat_next}
use Rattle.package_lists.proofs.text.put_list.Goals as goal

pub loop-package-preserved : goal.loop-package-preserved
loop-package-preserved c =
    flat_next record_lines _ _ _ c.args.list.now c.loop-package.package-index c.package-item.result c.loop-package-test.true c.package-item.is
    c.loop-package.invariant c.in_ok-put_package.ensures
