use Rattle.laws.proofs.FromStart.{others_stay_down}
use Rattle.laws.proofs.from_start.others_stay_down.Goals as goal

pub returns : goal.returns
returns c = others_stay_down
