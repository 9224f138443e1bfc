use Rattle.std.proofs.Common.{◌≡◌, map, drop}
use Rattle.package_record.specs.FileView.{file_view}
use Rattle.serde_json.specs.View.{items_view}
use Rattle.traces.specs.Fields.{all_of, file_in}
use Rattle.traces.proofs.Lists.{behind}
use Rattle.traces.proofs.files.files.Given as goal

abbrev pub invariant-loop-item : goal.invariant-loop-item
invariant-loop-item l =
    all_of file_in (items_view l.item-items) ≡ behind (map file_view l.files.items) (all_of file_in (items_view (drop l.item-index l.item-items)))
