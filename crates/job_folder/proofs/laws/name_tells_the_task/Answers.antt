use Rattle.job_folder.proofs.Tellings.{name_tells_the_task}
use Rattle.job_folder.proofs.laws.name_tells_the_task.Goals as goal

pub returns : goal.returns
returns c = name_tells_the_task
