use Rattle.std.proofs.Common.{◌≡◌}
use Rattle.package_record.proofs.build.records_with_texts.Given as goal

abbrev pub invariant-loop-record : goal.invariant-loop-record
invariant-loop-record g l = l.same.items ≡ l.yielded
