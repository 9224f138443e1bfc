use Rattle.std.proofs.Common.{List, map, drop, ◌++◌}
use Rattle.package_record.specs.Content.{NamedFile}
use Rattle.package_record.specs.FileView.{file_view}
use Rattle.traces.proofs.TreeEvents.{ReadsItems}
use Rattle.traces.proofs.tree_event.read_files.Given as goal

abbrev pub invariant-loop-item : goal.invariant-loop-item
invariant-loop-item l =
    (fs : List NamedFile) → ReadsItems (drop l.item-index l.item-items) fs → ReadsItems l.item-items (map file_view l.files.items ++ fs)
