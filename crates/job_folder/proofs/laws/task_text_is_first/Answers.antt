use Rattle.job_folder.proofs.Tellings.{task_text_is_first}
use Rattle.job_folder.proofs.laws.task_text_is_first.Goals as goal

pub returns : goal.returns
returns c = task_text_is_first
