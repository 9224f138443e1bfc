use Rattle.std.proofs.Common.{◌≡◌}
use Rattle.package_record.proofs.fields.paths_with_texts.Given as goal

abbrev pub invariant-loop-path : goal.invariant-loop-path
invariant-loop-path g l = l.same.items ≡ l.yielded
