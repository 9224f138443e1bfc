-- A node that holds the unit has a record for each of its packages.
use Rattle.std.proofs.Common.{◌≡◌, ℕ, true, List, length, Option, None, Some, slice_get, refl, sym, ap, subst, ◌∙◌, true≢false}
use Rattle.std.specs.Prelude.{Contains, is_some}
use Rattle.listing.specs.Tree.{path_at}
use Rattle.protocol.specs.State.{Value, facts_at, holds_package, is_held_any}
use Rattle.simulator.specs.History.{History, IsHistory, taken}
use Rattle.std.proofs.lemmas.List.{length-replicate}
use Rattle.engine.specs.Division.{Division, unit_at}
use Rattle.engine.proofs.Kept.{unit_listed}
use Rattle.engine.proofs.WellMade.{one_unit_has}
use Rattle.ways_on.specs.Ways.{HoldsUnit}
use Rattle.ways_on.proofs.Deciding.{some_same}
use Rattle.ways_on.proofs.Reached.{IsReached, its_acts, its_local, its_match, its_own}
use Rattle.world.specs.Headline.{holds}
use Rattle.world.proofs.Growth.{leads_later}
use Rattle.world.specs.World.{IsMade, World, WorldNode, fresh_node, member_at, start}
use Rattle.one_list.proofs.builds.BuildableBuilds.{has_its_record}
use Rattle.one_list.proofs.matching.CutSteps.{made_here}
use Rattle.one_list.proofs.builds.HeldPackages.{held_within}

module _ (division : Division) (weights : List ℕ) (made : IsMade division weights) (w : World)
    (r : IsReached division weights made w) where
  pub has_packages : (k u p : ℕ) (h : HoldsUnit w k u) (x : WorldNode)
      → slice_get w.nodes k ≡ Some x → Contains (unit_at w.division u).packages p
      → is_some (holds w k x (path_at w.division.tree p)) ≡ true
  has_packages k u p h x stands within =
      subst (λ (y : WorldNode). is_some (holds w k y (path_at w.division.tree p)) ≡ true)
      (some_same h.node x (sym h.stands ∙ stands))
      (by (facts_at (member_at w k h.node) u).held refl h.held)
    where
      by : (o : Option Value) → (facts_at (member_at w k h.node) u).held ≡ o → is_some o ≡ true
          → is_some (holds w k h.node (path_at w.division.tree p)) ≡ true
      by None e some = absurd (true≢false (sym some))
      by (Some v) e some =
          let acts = its_acts division weights made w r in
          let own = its_own division weights made w r in
          let local = its_local division weights made w r in
          let m = its_match division weights made w r in
          let here = made_here division weights acts w made own local m in
          let lt = held_within division weights acts w made own m local k u h.node v h.stands e in
          let number = (one_unit_has w.division u p here.divided lt within).0 in
          let packed : holds_package (member_at w k h.node) p ≡ true =
          ap (is_held_any (member_at w k h.node)) number ∙ h.held in
          ap is_some (has_its_record division weights acts w made own local m k h.node h.stands p
          (unit_listed w.division u p here.divided lt within) packed).1

-- In a reachable world there is a node for each member.
pub one_for_each : (h : History) → IsHistory h → length h.world.nodes ≡ length h.world.weights
one_for_each h is =
    let later = leads_later (start h.world.division h.world.weights) h.world (taken h) is.led in
    later.nodes ∙ length-replicate (length h.world.weights) fresh_node
