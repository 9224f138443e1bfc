use Rattle.node.proofs.Finishing.{members_step}
use Rattle.node.proofs.laws.steps_are_the_members.Goals as goal

pub returns : goal.returns
returns c = members_step
