use Rattle.std.proofs.Common.{◌≡◌, ◌++◌, flat_map, map, take}
use Rattle.package_record.specs.Content.{header_text}
use Rattle.package_record.specs.FileView.{file_view}
use Rattle.package_record.proofs.matching.behind_record.Given as goal

abbrev pub invariant-loop-file : goal.invariant-loop-file
invariant-loop-file l =
    l.text ≡ (header_text l.own ++ flat_map (λ f. f.bytes) (map file_view (take l.file-index l.file-items))) ++ l.rest
