use Rattle.laws.proofs.BuildPrograms.{exchanges_are_notices}
use Rattle.laws.proofs.programs.exchanges_are_notices.Goals as goal

pub returns : goal.returns
returns c = exchanges_are_notices
