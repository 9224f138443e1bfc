-- Runs in two parts.
use Rattle.std.specs.Prelude.{◌≡◌, ◌++◌, List, [], ◌∷◌, refl}
use Rattle.std.proofs.Common.{subst}
use Rattle.protocol.specs.Events.{Event}
use Rattle.world.specs.Happening.{Leads}
use Rattle.world.specs.World.{World}

-- if a concatenation of events leads to a world, both parts lead there, one after the other
pub leads_in_parts : (w v : World) (early late : List Event) → Leads w (early ++ late) v
    → (u : World) × Leads w early u × Leads u late v
leads_in_parts w v [] late l = (w, refl, l)
leads_in_parts w v (e ∷ es) late l =
    let rest = leads_in_parts l.0 v es late l.2 in (rest.0, (l.0, l.1, rest.1), rest.2)

-- if both parts lead there, one after the other, so does the concatenation
pub leads_together : (w u v : World) (early late : List Event) → Leads w early u → Leads u late v
    → Leads w (early ++ late) v
leads_together w u v [] late first then = let same : u ≡ w =
    first in subst (λ x. Leads x late v) same then
leads_together w u v (e ∷ es) late first then =
    (first.0, first.1, leads_together first.0 u v es late first.2 then)
