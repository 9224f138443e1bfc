use Rattle.std.proofs.Common.{◌∙◌, ap, arith}
use Rattle.package_record.specs.FileView.{file_view}
use Rattle.serde_json.proofs.Views.{view-Array}
use Rattle.serde_json.specs.View.{view}
use Rattle.traces.specs.Written.{file_data, files_data, list_data}
use Rattle.traces.proofs.Lists.{seen_all, seen_more}
use Rattle.traces.proofs.writing.files.Goals as goal

pub loop-one-preserved : goal.loop-one-preserved
loop-one-preserved c =
    rw c.in_ok-push.ensures.items
    (seen_more view file_data file_view c.loop-one.items.items c.as_slice-files.result.now c.loop-one.one-index c.in_ok-file.field-0 c.one-item.result c.loop-one-test.true c.one-item.is c.in_ok-file.ensures c.loop-one.invariant)

pub returns : goal.returns
returns c =
    view-Array c.loop-one.items
    ∙ ap list_data (seen_all view file_data file_view c.loop-one.items.items c.as_slice-files.result.now c.loop-one.one-index
    (omega (arith, c.loop-one-test.false)) c.loop-one.invariant)
    ∙ ap files_data c.as_slice-files.ensures
