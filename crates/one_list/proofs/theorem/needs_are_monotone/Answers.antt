use Rattle.one_list.proofs.sent.MonotoneNeeds.{needs_are_monotone}
use Rattle.one_list.proofs.theorem.needs_are_monotone.Goals as goal

pub returns : goal.returns
returns c = needs_are_monotone
