use Rattle.std.proofs.Common.{◌≡◌, drop}
use Rattle.std.specs.Cmp.Lexicographic.{pointwise}
use Rattle.package_record.specs.inside.Same.{is_same_content}
use Rattle.package_record.proofs.equality.are_same_records.Given as goal

abbrev pub invariant-loop-index : goal.invariant-loop-index
invariant-loop-index l = pointwise is_same_content l.records l.others
    ≡ pointwise is_same_content (drop l.index l.records) (drop l.index l.others)
