use Rattle.std.proofs.Common.{◌≡◌, drop, map}
use Rattle.std.specs.Cmp.Lexicographic.{pointwise}
use Rattle.package_record.specs.FileView.{file_view}
use Rattle.package_record.specs.inside.Same.{is_same_file}
use Rattle.package_record.proofs.equality.are_same_files.Given as goal

abbrev pub invariant-loop-index : goal.invariant-loop-index
invariant-loop-index l = pointwise is_same_file (map file_view l.files) (map file_view l.others)
    ≡ pointwise is_same_file (map file_view (drop l.index l.files)) (map file_view (drop l.index l.others))
