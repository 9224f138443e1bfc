use Rattle.std.proofs.Common.{◌≡◌, []}
use Rattle.package_record.specs.BuildReading.{records_in}
use Rattle.package_record.proofs.several.read_records.Given as goal

abbrev pub invariant-loop-left : goal.invariant-loop-left
invariant-loop-left l = records_in l.length l.left l.records.items l.rest ≡ records_in l.length l.fn.count [] l.fn.text

abbrev pub decreases-loop-left : goal.decreases-loop-left
decreases-loop-left l = l.left
