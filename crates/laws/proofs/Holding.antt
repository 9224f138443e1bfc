-- What follows for the nodes themselves.
use Rattle.std.proofs.Common.{◌≡◌, ◌++◌, ℕ, true, List, [], Some, slice_get, refl, sym, ap, subst, ◌∙◌}
use Rattle.std.specs.Prelude.{is_some}
use Rattle.std.proofs.lemmas.List.{append-nil}
use Rattle.engine.specs.Division.{Division}
use Rattle.engine.specs.State as engine
use Rattle.engine.specs.declared.Letter.TheVariants as letters
use Rattle.protocol.specs.Events.{Event}
use Rattle.faults.specs.Bytes.{Text}
use Rattle.laws.proofs.Moving.{not_foreign}
use Rattle.laws.proofs.Running.{a_world, later_events_lead_on}
use Rattle.laws.specs.Hosts.{Hosts, Up}
use Rattle.laws.specs.Laws.{InstallableIsHeldThere, NodesHoldAlike, NothingOfferedIsForeign, WhatNodesHoldIsListed}
use Rattle.laws.specs.Worlds.{IsWorldOf}
use Rattle.listing.specs.Tree.{position_of}
use Rattle.node.specs.State.{NodeState}
use Rattle.node.specs.Step.{Comes}
use Rattle.package_record.proofs.BuildsRead.{build_is_read}
use Rattle.package_record.specs.Content.{Content}
use Rattle.protocol.specs.State.{State, engine_of, held_record}
use Rattle.world.proofs.Growth.{leads_later}
use Rattle.one_list.proofs.clauses.OneListOfRuns.{each_has_one_list, each_run_is_acts, one_world, one_world_at_end}
use Rattle.world.specs.Happening.{Leads}
use Rattle.world.specs.Headline.{HeldIsListed, HoldAlike, InstallableIsHeld, IsInRunClosure}
use Rattle.world.specs.World.{IsMade, World, member_at, start, up_node}

-- no node takes what was sent for foreign
pub nothing_is_foreign : NothingOfferedIsForeign
nothing_is_foreign division weights h k n text f made run up came refuses =
    let r = a_world division weights h made run in
    not_foreign division weights made r.0 r.1 r.2.led h r.2.are k n up (Comes text) tt came f
    refuses

-- ---- what nodes hold

module _ (division : Division) (weights : List ℕ) (events : List Event) (w : World) (h : Hosts)
    (is : IsWorldOf division weights events w h) (k : ℕ) (n : NodeState)
    (up : slice_get h.hosts k ≡ Some (Up n)) where
  -- its member is that of the world's node
  pub member_is : n.member ≡ member_at w k (up_node n)
  member_is = ap (λ (m : NodeState). m.member) (is.are.nodes k (Up n) up).1

  -- so it holds what that node holds
  pub held_there : (path : Text) (r : Content) → held_record n.member path ≡ Some r
      → held_record (member_at w k (up_node n)) path ≡ Some r
  held_there path r held =
      sym (ap (λ (s : State). held_record s path) member_is) ∙ held

-- that is in the list
listed_then : (division : Division) (weights : List ℕ) (events : List Event) (w : World)
    → IsMade division weights → Leads (start division weights) events w → HeldIsListed w
listed_then division weights events w made led =
    let all = each_has_one_list each_run_is_acts build_is_read division weights events w made led in
    let then = all.0.held events [] (sym (append-nil events)) in
    subst HeldIsListed (sym then.2) then.3

pub held_is_listed : WhatNodesHoldIsListed
held_is_listed division weights events w h k n path r made is up held =
    (listed_then division weights events w made is.led).paths k (up_node n) path r
    (is.are.nodes k (Up n) up).0 (held_there division weights events w h is k n up path r held)

-- nodes hold alike at the end of a run's first part and at its end
alike_then : (division : Division) (weights : List ℕ) (events more : List Event) (v w : World)
    → IsMade division weights → Leads (start division weights) events v
    → Leads (start division weights) (events ++ more) w → HoldAlike v w
alike_then division weights events more v w made first last =
    let all = each_has_one_list each_run_is_acts build_is_read division weights (events ++ more) w
    made last in
    let then = all.0.alike events more refl in
    subst (λ u. HoldAlike u w)
    (one_world_at_end (one_world each_run_is_acts build_is_read) division weights events then.0 v
    made then.1 first) then.3

pub nodes_hold_alike : NodesHoldAlike
nodes_hold_alike division weights early late j k n m path r q made first run up then held other =
    let a = a_world division weights early made first in
    let b = later_events_lead_on division weights early late a.0 a.1 made a.2 run in
    alike_then division weights a.0 b.0 a.1 b.1 made a.2.led b.3.led j k (up_node n) (up_node m)
    path r q (a.2.are.nodes j (Up n) up).0 (b.3.are.nodes k (Up m) then).0
    (held_there division weights a.0 a.1 early a.2 j n up path r held)
    (held_there division weights (a.0 ++ b.0) b.1 late b.3 k m then path q other)

-- ---- what nodes show

-- at the end of a run
installable_then : (division : Division) (weights : List ℕ) (events : List Event) (w : World)
    → IsMade division weights → Leads (start division weights) events w → InstallableIsHeld w
installable_then division weights events w made led =
    let all = each_has_one_list each_run_is_acts build_is_read division weights events w made led in
    let then = all.0.installable events [] (sym (append-nil events)) in
    subst InstallableIsHeld (sym then.2) then.3

pub installable_is_held : InstallableIsHeldThere
installable_is_held division weights h k p n path q made run up position letter closure =
    let r = a_world division weights h made run in
    let w : World = r.1 in
    let later = leads_later (start division weights) w r.0 r.2.led in
    let same : n.member ≡ member_at w k (up_node n) =
    member_is division weights r.0 w h r.2 k n up in
    subst (λ (s : State). is_some (held_record s q) ≡ true) (sym same)
    (installable_then division weights r.0 w made r.2.led k p (up_node n) path q
    (r.2.are.nodes k (Up n) up).0 refl
    (ap (λ (d : Division). position_of d.tree path) later.division ∙ position)
    (subst (λ (s : State). engine.HasLetter (engine_of s) p letters.I) same letter)
    (subst (λ (s : State). IsInRunClosure (held_record s) path q) same closure))
