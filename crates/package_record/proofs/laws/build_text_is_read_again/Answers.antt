use Rattle.package_record.proofs.BuildsRead.{build_is_read}
use Rattle.package_record.proofs.laws.build_text_is_read_again.Goals as goal

pub returns : goal.returns
returns c = build_is_read
