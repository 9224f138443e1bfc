use Rattle.std.proofs.Common.{◌≡◌, ◌++◌, flat_map, map, take}
use Rattle.package_record.specs.FileView.{file_view}
use Rattle.package_record.proofs.writing.put_bodies.Given as goal

abbrev pub invariant-loop-file : goal.invariant-loop-file
invariant-loop-file l = l.out.items ≡ l.initial.out.items ++ flat_map (λ f. f.bytes) (map file_view (take l.file-index l.files))
