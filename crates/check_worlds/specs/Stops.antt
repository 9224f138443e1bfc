-- The effects on a world when a way is asked for and taken.
use Rattle.std.specs.Prelude.{◌≡◌, ◌⊎◌, ℕ, List, ◌∷◌, ◌++◌}
use Rattle.protocol.specs.Events.{Event}
use Rattle.faults.specs.Bytes.{Text}
use Rattle.protocol.specs.Given.{Given}
use Rattle.simulator.specs.History.{History, taken}
use Rattle.ways_on.specs.Asked.{HasNoWay, IsGranted}
use Rattle.ways_on.specs.Laws.{HasWay}
use Rattle.ways_on.specs.Ways.{HoldsUnit, no_room}
use Rattle.ways_on.specs.declared.fault.WayFault.{WayFault}
use Rattle.ways_on.specs.declared.fault.WayFault.TheVariants as ways
use Rattle.check_worlds.specs.declared.going.Stopped.{Stopped}
use Rattle.check_worlds.specs.declared.going.Stopped.TheVariants.{NoWay, Refused}
use Rattle.world.specs.Happening.{IsRefused, Leads}
use Rattle.world.specs.declared.fault.WorldFault.{WorldFault}
use Rattle.world.specs.declared.fault.WorldFault.TheVariants as worlds

-- ---- events that are taken

-- Exactly these events were taken, in order: they led from the one world to the other.
pub record HasTaken (h : History) (events : List Event) (h' : History) : Type 0 where
  pub led : Leads h.world events h'.world
  pub kept : taken h' ≡ taken h ++ events

-- Exactly the events before one of these were taken. That one is refused in the world that they led
-- to, because the log of its node is full, or memory ran out.
pub record StopsAt (h : History) (events : List Event) (h' : History)
    (f : WorldFault) : Type 0 where
  pub before : List Event
  pub event : Event
  pub behind : List Event
  pub among : events ≡ before ++ event ∷ behind
  pub has_taken : HasTaken h before h'
  pub refused : (f ≡ worlds.Memory) ⊎ ((f ≡ no_room) × IsRefused h'.world event no_room)

-- ---- a way that is asked for

-- A way was granted and returned, and its events were taken. So the node holds the unit.
pub record HasArrived (h : History) (k : ℕ) (path : Text) (host : ℕ) (given : Given)
    (h' : History) : Type 0 where
  pub granted : IsGranted h.world k path host given
  pub way : List Event
  pub is_way : HasWay h.world k path host given way
  pub has_taken : HasTaken h way h'
  pub holds : HoldsUnit h'.world k is_way.unit

-- A way was granted and returned, but taking it stopped at one of its events.
pub record StopsOnWay (h : History) (k : ℕ) (path : Text) (host : ℕ) (given : Given)
    (h' : History) (f : WorldFault) : Type 0 where
  pub granted : IsGranted h.world k path host given
  pub way : List Event
  pub is_way : HasWay h.world k path host given way
  pub stops : StopsAt h way h' f

-- There is no way, for one of its reasons or because memory ran out, and nothing changed; or taking
-- the way stopped at an event.
abbrev pub StopsSo : History → ℕ → Text → ℕ → Given → History → Stopped → Type 0
StopsSo h k path host given h' (NoWay f) =
    (h' ≡ h) × ((f ≡ ways.Memory) ⊎ HasNoWay h.world k path host given f)
StopsSo h k path host given h' (Refused f) = StopsOnWay h k path host given h' f
