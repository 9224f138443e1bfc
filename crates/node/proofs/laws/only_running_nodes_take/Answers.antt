use Rattle.node.proofs.Finishing.{takes_when_running}
use Rattle.node.proofs.laws.only_running_nodes_take.Goals as goal

pub returns : goal.returns
returns c = takes_when_running
