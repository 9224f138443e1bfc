use Rattle.std.proofs.Common.{◌∙◌, ap, arith}
use Rattle.serde_json.proofs.Views.{view-Array}
use Rattle.serde_json.specs.View.{view}
use Rattle.traces.specs.Written.{list_data, package_data, packages_data}
use Rattle.traces.proofs.Lists.{written_all, written_more}
use Rattle.traces.proofs.writing.packages.Goals as goal

pub loop-one-preserved : goal.loop-one-preserved
loop-one-preserved c =
    let one = c.one-item.result in
    rw c.in_ok-push.ensures.items
    (written_more view package_data c.loop-one.items.items c.as_slice-packages.result.now c.loop-one.one-index c.in_ok-package.field-0 one one c.loop-one-test.true c.one-item.is c.in_ok-package.ensures c.loop-one.invariant)

pub returns : goal.returns
returns c =
    view-Array c.loop-one.items
    ∙ ap list_data (written_all view package_data c.loop-one.items.items c.as_slice-packages.result.now c.loop-one.one-index
    (omega (arith, c.loop-one-test.false)) c.loop-one.invariant)
    ∙ ap packages_data c.as_slice-packages.ensures
