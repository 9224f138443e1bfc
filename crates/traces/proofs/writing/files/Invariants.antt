use Rattle.std.proofs.Common.{◌≡◌, map, take}
use Rattle.package_record.specs.FileView.{file_view}
use Rattle.serde_json.specs.View.{view}
use Rattle.traces.specs.Written.{file_data}
use Rattle.traces.proofs.writing.files.Given as goal

abbrev pub invariant-loop-one : goal.invariant-loop-one
invariant-loop-one l = map view l.items.items ≡ map file_data (map file_view (take l.one-index l.files))
