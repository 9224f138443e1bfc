use Rattle.std.proofs.Common.{◌≡◌, ◌++◌, flat_map, take}
use Rattle.package_record.specs.Content.{ended, file_lines}
use Rattle.package_record.proofs.writing.put_files.Given as goal

abbrev pub invariant-loop-index : goal.invariant-loop-index
invariant-loop-index l = l.out.items ≡ l.initial.out.items ++ ended (flat_map file_lines (take l.index l.files))
