use Rattle.std.proofs.Common.{◌≡◌, map, take}
use Rattle.package_record.specs.FileView.{file_view}
use Rattle.package_record.proofs.files.copy_files.Given as goal

abbrev pub invariant-loop-file : goal.invariant-loop-file
invariant-loop-file l = map file_view l.copies.items ≡ map file_view (take l.file-index l.files)
