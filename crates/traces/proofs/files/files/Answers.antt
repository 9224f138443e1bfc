use Rattle.std.proofs.Common.{map, [], ◌∷◌}
use Rattle.std.proofs.lemmas.List.{map-append}
use Rattle.package_record.specs.FileView.{file_view}
use Rattle.traces.specs.Fields.{file_in}
use Rattle.traces.proofs.Lists.{all_more}
use Rattle.traces.proofs.files.files.Goals as goal

pub loop-item-preserved : goal.loop-item-preserved
loop-item-preserved c =
    rw (c.in_ok-push.ensures.items, map-append file_view c.loop-item.files.items (c.in_ok-file.field-0 ∷ []))
    (all_more file_in c.deref-item-items.result.now _ (map file_view c.loop-item.files.items) c.loop-item.item-index c.item-item.result (file_view c.in_ok-file.field-0) c.loop-item-test.true c.item-item.is c.in_ok-file.ensures c.loop-item.invariant)
