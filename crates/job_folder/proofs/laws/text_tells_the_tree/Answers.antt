use Rattle.job_folder.proofs.Tellings.{text_tells_the_tree}
use Rattle.job_folder.proofs.laws.text_tells_the_tree.Goals as goal

pub returns : goal.returns
returns c = text_tells_the_tree
