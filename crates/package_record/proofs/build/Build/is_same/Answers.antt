use Rattle.std.proofs.Common.{rules}
use Rattle.package_record.proofs.Equals.{same_records}
use Rattle.package_record.proofs.build.Build.is_same.Goals as goal

-- the two are compared, and the result decides equality
pub returns : goal.returns
returns c = same_records c.args.self.now c.args.other.now c.are_same_records.result (search rules)
