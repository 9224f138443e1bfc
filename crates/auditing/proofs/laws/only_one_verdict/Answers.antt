use Rattle.auditing.proofs.OneVerdict.{one_verdict}
use Rattle.auditing.proofs.laws.only_one_verdict.Goals as goal

pub returns : goal.returns
returns c = one_verdict
