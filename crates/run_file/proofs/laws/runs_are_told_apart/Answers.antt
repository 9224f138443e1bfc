use Rattle.run_file.proofs.Texts.{same_run}
use Rattle.run_file.proofs.laws.runs_are_told_apart.Goals as goal

pub returns : goal.returns
returns c = same_run
