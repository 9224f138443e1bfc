use Rattle.std.proofs.Common.{◌≡◌, ◌++◌, length, take}
use Rattle.package_record.specs.Build.{lines_before, records_text}
use Rattle.package_record.proofs.matching.behind_build.Given as goal

abbrev pub invariant-loop-record : goal.invariant-loop-record
invariant-loop-record l =
    l.text ≡ (lines_before (length l.build) ++ records_text (take l.record-index l.build)) ++ l.rest
