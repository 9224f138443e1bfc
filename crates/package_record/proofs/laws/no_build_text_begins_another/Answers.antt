use Rattle.package_record.proofs.BuildsRead.{no_build_text_begins}
use Rattle.package_record.proofs.laws.no_build_text_begins_another.Goals as goal

pub returns : goal.returns
returns c = no_build_text_begins
