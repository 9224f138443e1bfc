use Rattle.std.proofs.Common.{◌≡◌, ◌++◌, length, take}
use Rattle.package_record.specs.Build.{lines_before, records_text}
use Rattle.package_record.proofs.build_writing.text.Given as goal

abbrev pub invariant-loop-record : goal.invariant-loop-record
invariant-loop-record l = l.text.items ≡ lines_before (length l.records) ++ records_text (take l.record-index l.records)
