-- What follows for a world from the events that led to it.
use Rattle.std.proofs.Common.{◌≡◌, [], ◌∷◌, ◌++◌, refl, subst, sym}
use Rattle.protocol.specs.Events.{Event}
use Rattle.one_list.proofs.clauses.OneListOfRuns.{each_has_one_list, each_run_is_acts}
use Rattle.one_list.proofs.clauses.RunInvariants.{always_alike}
use Rattle.one_list.specs.MatchingLaws.{IsSafe}
use Rattle.package_record.proofs.BuildsRead.{build_is_read}
use Rattle.engine.specs.Division.{Division}
use Rattle.world.proofs.Growth.{event_later}
use Rattle.world.proofs.EventParts.{leads_together}
use Rattle.world.specs.Happening.{Happens, Leads}
use Rattle.world.specs.Headline.{HasOneList, HoldAlike}
use Rattle.world.specs.World.{IsMade, start}
use Rattle.simulator.specs.History.{AlongRun, History, IsHistory, taken}

-- Each world that events lead to has one list, and is safe, and nodes hold equal packages.
pub has_one_list : (h : History) → IsHistory h
    → HasOneList h.world.division h.world.weights (taken h) h.world
has_one_list h is =
    (each_has_one_list each_run_is_acts build_is_read h.world.division h.world.weights (taken h)
    h.world is.made is.led).0

pub is_safe : (h : History) → IsHistory h
    → IsSafe h.world.division h.world.weights (taken h) h.world
is_safe h is =
    (each_has_one_list each_run_is_acts build_is_read h.world.division h.world.weights (taken h)
    h.world is.made is.led).1

pub hold_alike : (h : History) → IsHistory h → AlongRun h (λ early v. HoldAlike v h.world)
hold_alike h is =
    always_alike each_run_is_acts build_is_read h.world.division h.world.weights is.made (taken h)
    h.world is.led

-- ---- extending a history

-- At the start no events were taken.
pub at_start : (h : History) → IsMade h.world.division h.world.weights
    → h.world ≡ start h.world.division h.world.weights → taken h ≡ [] → IsHistory h
at_start h made e none = record {
  made = made;
  led = subst (λ es. Leads (start h.world.division h.world.weights) es h.world) (sym none) e;
}

-- An event that happens extends the history.
pub goes_on : (old new : History) (e : Event) → IsHistory old → Happens old.world e new.world
    → taken new ≡ taken old ++ e ∷ [] → IsHistory new
goes_on old new e is happens kept =
    let later = event_later old.world new.world e happens in
    let led = leads_together (start old.world.division old.world.weights) old.world new.world
    (taken old) (e ∷ []) is.led (new.world, happens, refl) in
    record {
      made = subst (λ d. IsMade d new.world.weights) (sym later.division)
          (subst (IsMade old.world.division) (sym later.weights) is.made);
      led = subst (λ (d : Division). Leads (start d new.world.weights) (taken new) new.world)
          (sym later.division)
          (subst (λ ws. Leads (start old.world.division ws) (taken new) new.world)
          (sym later.weights)
          (subst (λ es. Leads (start old.world.division old.world.weights) es new.world)
          (sym kept) led));
    }
