use Rattle.package_record.proofs.ReadWhole.{no_text_begins}
use Rattle.package_record.proofs.laws.no_text_begins_another.Goals as goal

pub returns : goal.returns
returns c = no_text_begins
