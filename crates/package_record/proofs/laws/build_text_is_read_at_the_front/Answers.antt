use Rattle.package_record.proofs.BuildsRead.{build_front_is_read}
use Rattle.package_record.proofs.laws.build_text_is_read_at_the_front.Goals as goal

pub returns : goal.returns
returns c = build_front_is_read
