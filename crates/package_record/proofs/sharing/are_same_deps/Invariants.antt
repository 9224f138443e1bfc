use Rattle.std.proofs.Common.{◌≡◌, drop}
use Rattle.std.specs.Cmp.Lexicographic.{pointwise}
use Rattle.package_record.specs.BuildReading.{is_same_dep}
use Rattle.package_record.proofs.sharing.are_same_deps.Given as goal

abbrev pub invariant-loop-index : goal.invariant-loop-index
invariant-loop-index l = pointwise is_same_dep l.deps l.others ≡ pointwise is_same_dep (drop l.index l.deps) (drop l.index l.others)
