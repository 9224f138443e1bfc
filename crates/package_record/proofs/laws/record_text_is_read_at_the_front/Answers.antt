use Rattle.package_record.proofs.ReadWhole.{front_is_read}
use Rattle.package_record.proofs.laws.record_text_is_read_at_the_front.Goals as goal

pub returns : goal.returns
returns c = front_is_read
