use Rattle.package_record.proofs.ReadWhole.{text_is_read}
use Rattle.package_record.proofs.laws.record_text_is_read_again.Goals as goal

pub returns : goal.returns
returns c = text_is_read
