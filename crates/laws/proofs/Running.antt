-- Whatever happens to the nodes is a list of events of one world.
use Rattle.std.proofs.Common.{◌++◌, ℕ, List, [], refl}
use Rattle.engine.specs.Division.{Division}
use Rattle.protocol.specs.Events.{Event}
use Rattle.laws.proofs.Moving.{GoesOn, ended_so, opened_so, refused_so, stayed_so, turned_so}
use Rattle.laws.proofs.Starting.{starts}
use Rattle.laws.specs.Hosts.{Hosts, at_start}
use Rattle.laws.specs.Laws.{LaterEventsLeadOn, LoneNodesMakeAWorld}
use Rattle.laws.specs.Run.{Run, ended, nothing_yet, opened, refused, stayed, turned}
use Rattle.laws.specs.Worlds.{AreNodesOf}
use Rattle.package_record.proofs.BuildsRead.{build_is_read}
use Rattle.world.proofs.EventParts.{leads_together}
use Rattle.one_list.proofs.clauses.OneListOfRuns.{each_has_one_list, each_run_is_acts}
use Rattle.world.specs.Happening.{Leads}
use Rattle.world.specs.World.{IsMade, World, start}

module _ (division : Division) (weights : List ℕ) (made : IsMade division weights)
    (events : List Event) (v : World) (led : Leads (start division weights) events v)
    (first : Hosts) where
  -- one thing more
  one_more : (mid last : Hosts) → GoesOn v mid
      → ((more : List Event) (u : World) → Leads (start division weights) more u
      → AreNodesOf u mid → GoesOn u last)
      → GoesOn v last
  one_more mid last (before, u, leads, are) then =
      let next = then (events ++ before) u
      (leads_together (start division weights) v u events before led leads) are in
      (before ++ next.0, next.1, leads_together v u next.1 before next.0 leads next.2, next.3)

  -- a whole run
  pub all_go_on : AreNodesOf v first → (last : Hosts) → Run division.tree weights first last
      → GoesOn v last
  all_go_on are _ nothing_yet = ([], v, refl, are)
  all_go_on are _ (stayed h g run step) = one_more h g (all_go_on are h run)
      (λ more u leads mid. stayed_so division weights made more u leads h mid g step)
  all_go_on are _ (turned h g run step) = one_more h g (all_go_on are h run)
      (λ more u leads mid. turned_so division weights made more u leads h mid g step)
  all_go_on are _ (refused h g run step) = one_more h g (all_go_on are h run)
      (λ more u leads mid. refused_so division weights made more u leads h mid g step)
  all_go_on are _ (ended h g run step) = one_more h g (all_go_on are h run)
      (λ more u leads mid. ended_so division weights made more u leads h mid g step)
  all_go_on are _ (opened h g run step) = one_more h g (all_go_on are h run)
      (λ more u leads mid. opened_so division weights made more u leads h mid g step)

-- what happens later leads on
pub later_events_lead_on : LaterEventsLeadOn
later_events_lead_on division weights early late events v made is run =
    let next = all_go_on division weights made events v is.led early is.are late run in (
      next.0,
      next.1,
      next.2,
      record {
        led = leads_together (start division weights) v next.1 events next.0 is.led next.2;
        are = next.3;
      },
    )

-- all of it leads from the start
pub a_world : LoneNodesMakeAWorld
a_world division weights h made run =
    let first = starts division weights in
    let next = later_events_lead_on division weights (at_start weights) h first.0 first.1 made
    first.2 run in
    let all = each_has_one_list each_run_is_acts build_is_read division weights
    (first.0 ++ next.0) next.1 made next.3.led in
    (first.0 ++ next.0, next.1, next.3, all.0, all.1)
