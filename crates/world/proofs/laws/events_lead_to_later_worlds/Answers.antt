use Rattle.world.proofs.Growth.{leads_later}
use Rattle.world.proofs.laws.events_lead_to_later_worlds.Goals as goal

pub returns : goal.returns
returns c = leads_later
