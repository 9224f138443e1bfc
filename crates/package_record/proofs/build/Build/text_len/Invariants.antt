use Rattle.std.proofs.Common.{◌≡◌, ◌+◌, length, take}
use Rattle.package_record.specs.Build.{lines_before, records_text}
use Rattle.package_record.proofs.build.Build.text_len.Given as goal

abbrev pub invariant-loop-record : goal.invariant-loop-record
invariant-loop-record l =
    l.len ≡ length (lines_before (length l.self)) + length (records_text (take l.record-index l.self))
