use Rattle.package_record.proofs.BuildsTaken.{whole_build_taken}
use Rattle.package_record.proofs.laws.what_is_read_is_a_build.Goals as goal

pub returns : goal.returns
returns c = whole_build_taken
