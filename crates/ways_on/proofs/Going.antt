-- How ways are composed, and why their events are refused only because a log is full.
use Rattle.std.proofs.Common.{List, [], ◌∷◌, ◌++◌, inl, inr}
use Rattle.protocol.specs.Events.{Event}
use Rattle.ways_on.specs.Ways.{LeadsTo}
use Rattle.world.specs.Happening.{Happens}
use Rattle.world.specs.World.{World}

-- a way followed by a way from each world that it leads to
pub leads_on : (P Q : World → Type 0) (w : World) (early late : List Event) → LeadsTo P w early
    → ((v : World) → P v → LeadsTo Q v late) → LeadsTo Q w (early ++ late)
leads_on P Q w [] late first then = then w first
leads_on P Q w (e ∷ es) late (up, inl (v, h, rest)) then =
    (up, inl (v, h, leads_on P Q v es late rest then))
leads_on P Q w (e ∷ es) late (up, inr full) then = (up, inr full)

-- what a way leads to satisfies everything that follows from it
pub leads_also : (P Q : World → Type 0) (w : World) (events : List Event) → LeadsTo P w events
    → ((v : World) → P v → Q v) → LeadsTo Q w events
leads_also P Q w [] p then = then w p
leads_also P Q w (e ∷ es) (up, inl (v, h, rest)) then = (up, inl (v, h, leads_also P Q v es rest then))
leads_also P Q w (e ∷ es) (up, inr full) then = (up, inr full)

-- a property that every event preserves holds at the end, too
pub leads_with : (P Q : World → Type 0) → ((w v : World) (e : Event) → Happens w e v → P w → P v)
    → (w : World) (events : List Event) → LeadsTo Q w events → P w
    → LeadsTo (λ v. Q v × P v) w events
leads_with P Q stays w [] q p = (q, p)
leads_with P Q stays w (e ∷ es) (up, inl (v, h, rest)) p =
    (up, inl (v, h, leads_with P Q stays v es rest (stays w v e h p)))
leads_with P Q stays w (e ∷ es) (up, inr full) p = (up, inr full)
