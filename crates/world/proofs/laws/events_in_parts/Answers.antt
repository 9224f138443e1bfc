use Rattle.world.proofs.EventParts.{leads_in_parts, leads_together}
use Rattle.world.proofs.laws.events_in_parts.Goals as goal

pub returns-clause-parts : goal.returns-clause-parts
returns-clause-parts c = leads_in_parts

pub returns-clause-together : goal.returns-clause-together
returns-clause-together c = leads_together
