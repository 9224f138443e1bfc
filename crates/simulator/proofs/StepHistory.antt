-- The events taken before are kept, and an event that happens extends the history; and what then
-- holds of the worlds before and after.
use Rattle.std.proofs.Common.{◌≡◌, ◌++◌, [], ◌∷◌, Result, Ok, Err, map, sym, ap, subst, ◌∙◌}
use Rattle.std.specs.Prelude.{OnErr, OnOk}
use Rattle.std.proofs.lemmas.List.{map-append}
use Rattle.protocol.specs.Events as events
use Rattle.protocol.specs.Events.{Event, event_view}
use Rattle.protocol.specs.declared.event.Event as declared
use Rattle.world.specs.Happening.{Happens}
use Rattle.world.specs.Headline.{AllFit, AreRecords, AuditSaysYes, HasOneAPath, HasOneList, HeldIsListed, HoldAlike, IsBeginningOf, IsLater}
use Rattle.world.specs.World.{World}
use Rattle.world.specs.declared.fault.WorldFault.{WorldFault}
use Rattle.world.proofs.HeldAlike.{held_alike}
use Rattle.world.proofs.Growth.{at_end, event_later, same_later}
use Rattle.simulator.specs.Effects.{Does}
use Rattle.simulator.specs.History.{History, IsHistory, taken}
use Rattle.simulator.specs.declared.event_effects.EventEffects.{EventEffects}
use Rattle.simulator.specs.declared.running_world.World.TheInside.{Inside}
use Rattle.simulator.specs.inside.Standing.{history_of, world_of}
use Rattle.simulator.proofs.Following.{goes_on, has_one_list}

-- the world is unchanged, and no event was kept
pub stays_so : (w v : Inside) → IsHistory (history_of w) → world_of v.state ≡ world_of w.state
    → v.events.items ≡ w.events.items → IsHistory (history_of v)
stays_so w v is world events = subst IsHistory
    (λ i. record { world = sym world i; events = sym events i }) is

-- an event that does something happens
pub it_happens : (w v : World) (e : Event) (done : EventEffects) → Does w e v done → Happens w e v
it_happens w v (events.Claim n path host above) done s = s.steps
it_happens w v (events.Built n path packages) done s = s.steps
it_happens w v (events.Failed n path) done s = s.steps
it_happens w v (events.Nudge n) done s = s.steps
it_happens w v (events.Ask n path) done s = s.steps
it_happens w v (events.Deliver d n) done s = s.steps
it_happens w v (events.Stop n) done s = s.stops
it_happens w v (events.StopIn e l) done s = s.stops
it_happens w v (events.Restart n) done s = s.restarts

-- the event happened, and was kept
pub goes_so : (w v : Inside) (e : declared.Event) → IsHistory (history_of w)
    → Happens (world_of w.state) (event_view e) (world_of v.state)
    → v.events.items ≡ w.events.items ++ e ∷ [] → IsHistory (history_of v)
goes_so w v e is happens kept =
    goes_on (history_of w) (history_of v) (event_view e) is happens
    (ap (map event_view) kept ∙ map-append event_view w.events.items (e ∷ []))

-- ---- now

-- what holds at each moment holds now
module _ (h : History) (is : IsHistory h) where
  abbrev one_list : HasOneList h.world.division h.world.weights (taken h) h.world
  one_list = has_one_list h is

  pub one_there : HasOneAPath h.world
  one_there = at_end h.world.division h.world.weights (λ early w. HasOneAPath w) (taken h) h.world
      one_list.one_a_path

  pub records_there : AreRecords h.world
  records_there = at_end h.world.division h.world.weights (λ early w. AreRecords w) (taken h) h.world
      one_list.records

  pub fits_there : AllFit h.world
  fits_there = at_end h.world.division h.world.weights (λ early w. AllFit w) (taken h) h.world
      one_list.fits

  pub allowed_there : AuditSaysYes h.world
  allowed_there = at_end h.world.division h.world.weights (λ early w. AuditSaysYes w) (taken h)
      h.world one_list.allowed

  pub listed_there : HeldIsListed h.world
  listed_there = at_end h.world.division h.world.weights (λ early w. HeldIsListed w) (taken h)
      h.world one_list.held

-- ---- before and after

-- a later world follows an event that happens, and one that is refused
pub later_so : {T : Type 0} (old new : History) (e : Event) (r : Result T WorldFault)
    → OnOk r (Happens old.world e new.world) → OnErr r (new ≡ old) → IsLater old.world new.world
later_so old new e (Ok done) happens same = event_later old.world new.world e happens
later_so old new e (Err f) happens same =
    same_later old.world new.world (ap (λ (h : History). h.world) same)

-- so if the list only grew, nodes before and after hold equal packages
pub alike_so : (old new : History) → IsHistory old → IsHistory new
    → IsBeginningOf old.world.agreed new.world.agreed → HoldAlike old.world new.world
alike_so old new before after grows =
    held_alike old.world new.world (listed_there old before) (listed_there new after) grows
    (one_there new after)
