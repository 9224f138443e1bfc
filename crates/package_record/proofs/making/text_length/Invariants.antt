use Rattle.std.proofs.Common.{◌≡◌, ◌+◌, length, map, take, flat_map, min}
use Rattle.package_record.specs.FileView.{file_view}
use Rattle.package_record.proofs.making.text_length.Given as goal

abbrev pub invariant-loop-file : goal.invariant-loop-file
invariant-loop-file l = l.text_length ≡ min (l.initial.text_length + length (flat_map (λ f. f.bytes) (map file_view (take l.file-index l.files)))) 18446744073709551615
