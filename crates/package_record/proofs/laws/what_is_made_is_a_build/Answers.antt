use Rattle.package_record.proofs.BuildsMade.{made_is_build}
use Rattle.package_record.proofs.laws.what_is_made_is_a_build.Goals as goal

pub returns : goal.returns
returns c = made_is_build
