use Rattle.job_folder.proofs.Tellings.{text_tells_the_task}
use Rattle.job_folder.proofs.laws.text_tells_the_task.Goals as goal

pub returns : goal.returns
returns c = text_tells_the_task
