use Rattle.std.proofs.Common.{◌≡◌, ◌+◌, flat_map, length, map, take}
use Rattle.package_record.specs.Content.{header_text}
use Rattle.package_record.specs.FileView.{file_view}
use Rattle.package_record.proofs.length.record_len.Given as goal

abbrev pub invariant-loop-file : goal.invariant-loop-file
invariant-loop-file l =
    l.len ≡ length (header_text l.part) + length (flat_map (λ f. f.bytes) (map file_view (take l.file-index l.file-items)))
