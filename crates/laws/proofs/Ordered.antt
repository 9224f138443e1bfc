-- Each package of the list comes after everything that its unit's build needs.
use Rattle.std.proofs.Common.{◌≡◌, ℕ, true, List, [], ◌∷◌, ◌++◌, slice_get, refl, sym, subst, ◌∙◌, arith, ⊎_elim}
use Rattle.std.specs.Prelude.{Some, All, Contains}
use Rattle.std.specs.Str.{bytes_eq}
use Rattle.std.proofs.lemmas.List.Elements.{All-contains, All-weaker, Contains-append_right}
use Rattle.std.proofs.lemmas.Bool.{or_left}
use Rattle.std.proofs.lemmas.List.Folds.{list_any-append, list_any_at}
use Rattle.engine.specs.Division.{Division, IsDivision, unit_at}
use Rattle.engine.specs.Letters.{IsInstallable}
use Rattle.engine.proofs.Places.{equal_bytes}
use Rattle.engine.proofs.WellMade.{one_unit_has}
use Rattle.protocol.specs.Events.{Event}
use Rattle.faults.specs.Bytes.{Text}
use Rattle.listing.specs.Tree.{Tree, path_at}
use Rattle.package_record.specs.Content.{Content}
use Rattle.package_record.specs.Laws.{BuildTextIsReadAgain}
use Rattle.protocol.specs.State.{Building, State}
use Rattle.protocol.proofs.Asked.{unit_is_one}
use Rattle.world.specs.Happening.{Happens, Leads}
use Rattle.world.specs.Headline.{Builds, IsBeginningOf, WasBuilt}
use Rattle.world.specs.Lists.{has_path}
use Rattle.one_list.specs.MatchingLaws.{EachRunIsActs}
use Rattle.world.specs.World.{IsMade, World, WorldNode, member_at, start}
use Rattle.one_list.proofs.builds.BuildableBuilds.{has_its_record}
use Rattle.one_list.proofs.clauses.BuiltPackages.{list_was_built}
use Rattle.world.proofs.Growth.{event_later, leads_later}
use Rattle.one_list.proofs.builds.HeldPackages.{held_is_listed}
use Rattle.world.proofs.EventParts.{leads_in_parts, leads_together}
use Rattle.one_list.proofs.clauses.OneListOfRuns.{one_world, one_world_at_end}
use Rattle.laws.specs.Missing.{IsReadyOn, StandsBehindItsNeeds, stands_in}
use Rattle.laws.proofs.Claimed.{all_ready, made_there, wherever_reached}
use Rattle.laws.proofs.Lists.{begins_before, in_parts, none_before}
use Rattle.laws.proofs.Showing.{held_by, held_parts, stays_installable}

-- ---- elements of a list

-- the list has the path of each of its packages
pub path_stands : (list : List Content) (r : Content) (path : Text) → Contains list r
    → r.path ≡ path → has_path list path ≡ true
path_stands list r path h e =
    list_any_at (λ (c : Content). bytes_eq c.path path) list h.0 r h.1
    (subst (λ (c : Content). bytes_eq c.path path ≡ true) (sym h.2) (equal_bytes r.path path e))

-- what can be built on a list can be built on a longer one
ready_on_more : (tree : Tree) (list longer : List Content) (r : Content)
    → ((q : ℕ) → stands_in tree list q ≡ true → stands_in tree longer q ≡ true)
    → IsReadyOn tree list r → IsReadyOn tree longer r
ready_on_more tree list longer r more ready = record {
  position = ready.position;
  of_package = ready.of_package;
  can = record {
    unit = ready.can.unit;
    of_unit = ready.can.of_unit;
    installable = All-weaker (IsInstallable tree (stands_in tree list))
        (IsInstallable tree (stands_in tree longer))
        (stays_installable tree (stands_in tree list) (stands_in tree longer) more)
        ready.can.unit.build ready.can.installable;
  };
}

-- ---- in a reachable world

module _ (runs : EachRunIsActs) (again : BuildTextIsReadAgain) (division : Division)
    (weights : List ℕ) (made : IsMade division weights) where
  of_run : (events : List Event) (w : World) → Leads (start division weights) events w
      → (w.division ≡ division) × (w.weights ≡ weights)
  of_run events w led =
      let later = leads_later (start division weights) w events led in
      (later.division, later.weights)

  -- what a node holds is in the list
  held_stands : (events : List Event) (w : World) (led : Leads (start division weights) events w)
      (k : ℕ) (x : WorldNode) → slice_get w.nodes k ≡ Some x
      → (q : ℕ) → held_by (member_at w k x) q ≡ true
      → stands_in w.division.tree w.agreed q ≡ true
  held_stands events w led k x stands q held =
      let r = runs division weights events w made led in
      let of = of_run events w led in
      let parts = held_parts (member_at w k x) q held in
      let its = has_its_record division weights r.0 w made of r.3 r.2 k x stands q parts.0 parts.1
      in
      let there = (held_is_listed division weights r.0 w made of r.2 r.3).paths k x
      (path_at w.division.tree q) its.0 stands its.1 in
      path_stands w.agreed its.0 (path_at w.division.tree q) there.1 there.0

  -- What an event built could be built on what was in the list then.
  built_ready : (events : List Event) (w : World) (e : Event) (r : Content)
      → Leads (start division weights) events w → Builds w e r
      → IsReadyOn w.division.tree w.agreed r
  built_ready events w e r led b =
      let s : State = member_at w b.takes.builder b.takes.node in
      let divided : IsDivision w.division = (made_there runs division weights made events w led).divided
      in
      let within = unit_is_one s b.takes.path b.takes.unit b.takes.for_unit in record {
        position = b.position;
        of_package = b.of_package;
        can = record {
          unit = unit_at w.division b.takes.unit;
          of_unit = (one_unit_has w.division b.takes.unit b.position divided within b.in_unit).1;
          installable = All-weaker (IsInstallable w.division.tree (held_by s))
              (IsInstallable w.division.tree (stands_in w.division.tree w.agreed))
              (stays_installable w.division.tree (held_by s)
              (stands_in w.division.tree w.agreed)
              (held_stands events w led b.takes.builder b.takes.node b.takes.stands.0))
              (unit_at w.division b.takes.unit).build
              (all_ready runs division weights made events w led b.takes.builder b.takes.node
              (record {
                unit = b.takes.unit;
                host = b.takes.host;
                progress = Building b.takes.claim;
              }) b.takes.stands.0 b.takes.waits);
        };
      }

  -- What is in a prefix of the list is in the list.
  stands_later : (tree : Tree) (list longer : List Content) → IsBeginningOf list longer → (q : ℕ)
      → stands_in tree list q ≡ true → stands_in tree longer q ≡ true
  stands_later tree list longer grew q e =
      subst (λ l. stands_in tree l q ≡ true) (sym grew.1)
      (list_any-append (λ (c : Content). bytes_eq c.path (path_at tree q)) list grew.0
      ∙ or_left (has_path list (path_at tree q)) (has_path grew.0 (path_at tree q)) e)

  -- ---- what an event adds

  module _ (events : List Event) (w v : World) (e : Event)
      (led : Leads (start division weights) events w) (h : Happens w e v) where
    led_on : Leads (start division weights) (events ++ e ∷ []) v
    led_on = leads_together (start division weights) w v events (e ∷ []) led (v, h, refl)

    -- each package of the list could be built on the list before the event that added it
    new_ready : (r : Content) → WasBuilt division weights (events ++ e ∷ []) r
        → IsReadyOn division.tree w.agreed r
    new_ready r b =
        let rest = begins_before events b.before b.behind e b.event b.among in
        let parts = leads_in_parts (start division weights) w b.before rest.0
        (subst (λ es. Leads (start division weights) es w) rest.1 led) in
        let same : b.world ≡ parts.0 =
        one_world_at_end (one_world runs again) division weights b.before b.world parts.0 made b.led
        parts.1 in
        let grew : IsBeginningOf b.world.agreed w.agreed =
        subst (λ (u : World). IsBeginningOf u.agreed w.agreed) (sym same)
        (leads_later parts.0 w rest.0 parts.2).agreed in
        let ready = subst (λ (d : Division). IsReadyOn d.tree b.world.agreed r)
        (of_run b.before b.world b.led).0 (built_ready b.before b.world b.event r b.led b.builds) in
        ready_on_more division.tree b.world.agreed w.agreed r
        (stands_later division.tree b.world.agreed w.agreed grew) ready

    -- each package of the later list was built
    was_built : All (WasBuilt division weights (events ++ e ∷ [])) v.agreed
    was_built =
        let r = runs division weights (events ++ e ∷ []) v made led_on in
        list_was_built division weights made (events ++ e ∷ []) v r.0 r.1 r.2

  -- ---- so it holds in each world

  abbrev InOrder : List Event → World → Type 0
  InOrder events w =
      (before : List Content) (r : Content) (behind : List Content)
      → w.agreed ≡ before ++ r ∷ behind → IsReadyOn division.tree before r

  one_more : (events : List Event) (w v : World) (e : Event)
      → Leads (start division weights) events w → Happens w e v
      → InOrder events w → InOrder (events ++ e ∷ []) v
  one_more events w v e led h ordered before r behind parts = ⊎_elim
      (λ old. ordered before r old.0 old.1)
      (λ new. ready_on_more division.tree w.agreed before r
      (stands_later division.tree w.agreed before new)
      (new_ready events w v e led h r
      (All-contains (WasBuilt division weights (events ++ e ∷ [])) v.agreed r
      (was_built events w v e led h) there)))
      (in_parts w.agreed grew.0 before behind r (sym grew.1 ∙ parts))
    where
      grew : IsBeginningOf w.agreed v.agreed
      grew = (event_later w v e h).agreed

      there : Contains v.agreed r
      there = subst (λ l. Contains l r) (sym parts)
          (Contains-append_right before (r ∷ behind) r (0, omega arith, refl))

  pub stands_behind_its_needs : (events : List Event) (w : World)
      → Leads (start division weights) events w → StandsBehindItsNeeds w
  stands_behind_its_needs events w led before r behind parts =
      subst (λ (d : Division). IsReadyOn d.tree before r) (sym (of_run events w led).0)
      (wherever_reached division weights InOrder one_more
      (λ before r behind parts. absurd (none_before before behind r parts)) events w led before r
      behind parts)
