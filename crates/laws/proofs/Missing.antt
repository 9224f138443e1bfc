-- The first package of the list that a node lacks is queued there.
use Rattle.std.proofs.Common.{◌≡◌, ◌<◌, ◌&&◌, ℕ, Bool, true, List, ◌∷◌, ◌++◌, length, get_or, Option, None, Some, option_and_then, slice_get, refl, sym, ap, subst, ◌∙◌, arith, true≢false}
use Rattle.std.specs.Prelude.{All, Contains, is_some, nat_lt}
use Rattle.std.proofs.lemmas.Bool.{and_from, and_parts, lt-ltb, ltb-true}
use Rattle.std.proofs.lemmas.List.Elements.{Contains-append_left, Contains-append_right, Contains-get_or}
use Rattle.std.proofs.lemmas.List.Folds.{Any-from_list_any}
use Rattle.std.proofs.lemmas.List.Quantifiers.{position-Some}
use Rattle.std.specs.Str.{bytes_eq}
use Rattle.claims.specs.AgreedList.{Act}
use Rattle.engine.specs.Division.{Division, IsDivision, no_unit, number_found, number_of, unit_at}
use Rattle.engine.specs.Letters.{CanBeBuilt, IsInstallable}
use Rattle.engine.specs.State as engine
use Rattle.engine.specs.Units.{IsUnitOf, Unit, is_in}
use Rattle.engine.specs.declared.Letter.TheVariants as letters
use Rattle.engine.proofs.Dependents.{run_listed}
use Rattle.engine.proofs.Lists.{in_contains, not_true}
use Rattle.engine.proofs.Once.{one_unit}
use Rattle.engine.proofs.Places.{has_position, listed_at, same_bytes}
use Rattle.engine.proofs.Together.{not_ignored}
use Rattle.engine.proofs.WellMade.{one_unit_has, path_is_found, unit_unless, well_made}
use Rattle.listing.specs.Tree.{Tree, path_at}
use Rattle.package_record.specs.Content.{Content}
use Rattle.package_record.specs.Laws.{BuildTextIsReadAgain}
use Rattle.protocol.specs.State.{State, Value, engine_of, facts_at, held_record, holds_package, is_held_any, record_in, unit_with}
use Rattle.world.specs.Headline.{HasOneAPath, HeldIsListed, holds}
use Rattle.one_list.specs.Local.{AreLocal}
use Rattle.one_list.specs.Matches.{Matches}
use Rattle.one_list.specs.MatchingLaws.{EachRunIsActs, InEachRun}
use Rattle.one_list.specs.Mirrored.{after_all_acts}
use Rattle.world.specs.World.{IsMade, World, WorldNode, member_at, start}
use Rattle.world.proofs.HeldAlike.{only_one_with}
use Rattle.one_list.proofs.builds.BuildableBuilds.{has_its_record}
use Rattle.one_list.proofs.matching.CutSteps.{made_here}
use Rattle.world.proofs.DistinctEntries.{one_there}
use Rattle.world.proofs.Growth.{each_moment, leads_later}
use Rattle.one_list.proofs.builds.HeldPackages.{held_is_listed}
use Rattle.laws.specs.Missing.{ClaimedIsQueued, FirstMissingIsQueued, Holds, IsMissingAndQueued, IsQueuedAt, IsReadyOn, StandsBehindItsNeeds, WhatIsMissingIsQueued, stands_in}
use Rattle.laws.proofs.Claimed.{claimed_is_queued}
use Rattle.laws.proofs.Lists.{IsFirstWithout, first_without}
use Rattle.laws.proofs.Ordered.{stands_behind_its_needs}
use Rattle.laws.proofs.Showing.{held_by, held_from, not_held_from}

module _ (division : Division) (weights : List ℕ) (acts : List (Act Value)) (w : World)
    (made : IsMade division weights)
    (of : (w.division ≡ division) × (w.weights ≡ weights)) (local : AreLocal w)
    (m : Matches w (after_all_acts division weights acts)) (one : HasOneAPath w)
    (ordered : StandsBehindItsNeeds w)
    (k : ℕ) (x : WorldNode) (stands : slice_get w.nodes k ≡ Some x) where
  abbrev s : State
  s = member_at w k x

  abbrev tree : Tree
  tree = w.division.tree

  divided : IsDivision w.division
  divided = (made_here division weights acts w made of local m).divided

  listed : HeldIsListed w
  listed = held_is_listed division weights acts w made of m local

  -- ---- what is held

  -- whether the node holds something for the package's path
  abbrev has : Content → Bool
  has r = is_some (holds w k x r.path)

  -- if it does, and the package is in the list, it holds that package
  holds_it : (r : Content) → Contains w.agreed r → has r ≡ true → Holds w k x r
  holds_it r there some = by (holds w k x r.path) refl some
    where
      by : (o : Option Content) → holds w k x r.path ≡ o → is_some o ≡ true → Holds w k x r
      by None e some = absurd (true≢false (sym some))
      by (Some q) e some =
          let p = listed.paths k x r.path q stands e in
          e ∙ ap (λ (c : Content). Some c) (only_one_with w.agreed one q r p.1 there p.0)

  -- the package at the position of a held package is held
  held_at : (r : Content) → Holds w k x r → (p : ℕ) → p < length tree → path_at tree p ≡ r.path
      → held_by s p ≡ true
  held_at r held p lt same = held_from s p lt (by (number_of w.division p)
      (ap (option_and_then (number_of w.division))
      (sym (has_position tree r.path p divided.tree lt same))) held)
    where
      of_build : (u : ℕ) (o : Option Value) → (facts_at s u).held ≡ o
          → option_and_then (record_in r.path) o ≡ Some r → is_some (facts_at s u).held ≡ true
      of_build u None e is = absurd (let no : None ≡ Some r = is in cc)
      of_build u (Some v) e is = ap is_some e

      by : (o : Option ℕ) → o ≡ unit_with w.division r.path
          → held_record s r.path ≡ Some r → is_held_any s o ≡ true
      by None e is = absurd (let no : None ≡ Some r =
          ap (option_and_then (λ u. option_and_then (record_in r.path) (facts_at s u).held)) e
          ∙ is in cc)
      by (Some u) e is = of_build u (facts_at s u).held refl
          (ap (option_and_then (λ u. option_and_then (record_in r.path) (facts_at s u).held)) e
          ∙ is)

  -- so everything in a list of held packages is held
  held_of : (list : List Content) → All (Holds w k x) list → (p : ℕ) → p < length tree
      → stands_in tree list p ≡ true → held_by s p ≡ true
  held_of list all p lt e =
      let a = Any-from_list_any (λ (c : Content). bytes_eq c.path (path_at tree p)) list e in
      held_at a.1 (subst (Holds w k x) a.3 (all a.0 a.1 a.2)) p lt
      (sym (same_bytes (a.1).path (path_at tree p) a.4))

  -- what is installable on such a list is installable at the node
  installable_there : (list : List Content) → All (Holds w k x) list → (p : ℕ) → p < length tree
      → IsInstallable tree (stands_in tree list) p → IsInstallable tree (held_by s) p
  installable_there list all p lt i = record {
    among = λ q. i.among q && nat_lt q (length tree);
    member = and_from (i.among p) (nat_lt p (length tree)) i.member (lt-ltb p (length tree) lt);
    all_held = λ q e. let parts = and_parts (i.among q) (nat_lt q (length tree)) e in
        held_of list all q (ltb-true q (length tree) parts.1) (i.all_held q parts.0);
    closed = λ q d e needs. let parts = and_parts (i.among q) (nat_lt q (length tree)) e in
        and_from (i.among d) (nat_lt d (length tree)) (i.closed q d parts.0 needs)
        (lt-ltb d (length tree) (run_listed tree divided.tree q d needs).1);
  }

  -- ---- the first package that is missing

  module _ (before : List Content) (r : Content) (behind : List Content)
      (parts : w.agreed ≡ before ++ r ∷ behind) (all : All (Holds w k x) before)
      (lacks : ¬ Holds w k x r) where
    ready : IsReadyOn tree before r
    ready = ordered before r behind parts

    abbrev can : CanBeBuilt tree (stands_in tree before) ready.position
    can = ready.can

    there : Contains w.agreed r
    there = subst (λ l. Contains l r) (sym parts)
        (Contains-append_right before (r ∷ behind) r (0, omega arith, refl))

    place : (ready.position < length tree) × (path_at tree ready.position ≡ r.path)
    place = listed_at tree r.path ready.position ready.of_package

    -- its unit
    unit_is : (u : ℕ) × (number_of w.division ready.position ≡ Some u)
        × IsUnitOf tree ready.position (unit_at w.division u)
    unit_is = (unit_unless w.division ready.position divided place.0).0
        (not_ignored tree ready.position can.unit can.of_unit)

    abbrev u : ℕ
    u = unit_is.0

    within : (u < length w.division.units)
        × Contains (unit_at w.division u).packages ready.position
    within =
        let p = position-Some (λ (x : Unit). is_in x.packages ready.position) w.division.units u
        no_unit unit_is.1 in
        (p.0, in_contains (unit_at w.division u).packages ready.position p.1)

    -- nothing of the unit is held
    none_held : (o : Option Value) → (facts_at s u).held ≡ o → (facts_at s u).held ≡ None
    none_held None e = e
    none_held (Some v) e =
        let held : holds_package s ready.position ≡ true =
        ap (is_held_any s) unit_is.1 ∙ ap is_some e in
        let its = has_its_record division weights acts w made of local m k x stands ready.position
        place.0 held in
        absurd (lacks (holds_it r there
        (ap is_some (ap (held_record s) (sym place.1) ∙ its.1))))

    not_held : (facts_at s u).held ≡ None
    not_held = none_held (facts_at s u).held refl

    -- everything that the unit's build needs is installable
    needs : All (IsInstallable tree (held_by s)) (unit_at w.division u).build
    needs =
        let well = well_made tree ready.position (unit_at w.division u) divided.tree unit_is.2 in
        let same = one_unit tree ready.position can.unit (unit_at w.division u) can.of_unit
        unit_is.2 in
        let on_list = subst (λ (v : Unit). All (IsInstallable tree (stands_in tree before)) v.build)
        same can.installable in
        λ i d lt. installable_there before all (get_or (unit_at w.division u).build i d)
        (well.needs.within i d lt) (on_list i d lt)

    is_queued : (p : ℕ) → Contains (unit_at w.division u).packages p
        → engine.HasLetter (engine_of s) p letters.Q
    is_queued p member =
        let its = one_unit_has w.division u p divided within.0 member in (
          not_held_from s p (ap (is_held_any s) its.0 ∙ ap is_some not_held),
          not_ignored tree p (unit_at w.division u) its.1,
          record {
            unit = unit_at w.division u;
            of_unit = its.1;
            installable = needs;
          },
        )

    first_is_queued : IsQueuedAt w k x r
    first_is_queued = record {
      position = ready.position;
      of_package = ready.of_package;
      unit = u;
      in_unit = within.1;
      found = subst (λ path. number_found w.division path ≡ Some u) place.1
          (path_is_found w.division u ready.position divided within.0 within.1);
      not_held = not_held;
      letters = λ i d lt. is_queued (get_or (unit_at w.division u).packages i d)
          (Contains-get_or (unit_at w.division u).packages i d lt);
    }

  -- ---- any package that is missing

  some_is_queued : (r : Content) → Contains w.agreed r → ¬ Holds w k x r
      → (q : Content) × IsMissingAndQueued w k x q
  some_is_queued r there lacks = (
    f.first,
    record {
      listed = its;
      lacks = missing;
      queued = first_is_queued f.before f.first f.behind f.parts all missing;
    },
  )
    where
      f : IsFirstWithout has w.agreed
      f = first_without has w.agreed r there
          (not_true (has r) (λ some. lacks (holds_it r there some)))

      its : Contains w.agreed f.first
      its = subst (λ l. Contains l f.first) (sym f.parts)
          (Contains-append_right f.before (f.first ∷ f.behind) f.first (0, omega arith, refl))

      missing : ¬ Holds w k x f.first
      missing = λ held. true≢false (sym (ap is_some held) ∙ f.fails)

      all : All (Holds w k x) f.before
      all i d lt = holds_it (get_or f.before i d)
          (subst (λ l. Contains l (get_or f.before i d)) (sym f.parts)
          (Contains-append_left f.before (f.first ∷ f.behind) (get_or f.before i d)
          (Contains-get_or f.before i d lt)))
          (f.pass i d lt)

-- ---- in each run

module _ (runs : EachRunIsActs) (again : BuildTextIsReadAgain) where
  pub always_claimed : InEachRun (λ last early w. ClaimedIsQueued w)
  always_claimed division weights events last made led =
      each_moment division weights (λ early w. ClaimedIsQueued w)
      (claimed_is_queued runs division weights made) events last led

  pub always_behind : InEachRun (λ last early w. StandsBehindItsNeeds w)
  always_behind division weights events last made led =
      each_moment division weights (λ early w. StandsBehindItsNeeds w)
      (stands_behind_its_needs runs again division weights made) events last led

  pub always_first : InEachRun (λ last early w. FirstMissingIsQueued w)
  always_first division weights events last made led =
      each_moment division weights (λ early w. FirstMissingIsQueued w)
      (λ early w l k x before r behind stands parts all lacks.
      let i = runs division weights early w made l in
      let later = leads_later (start division weights) w early l in
      first_is_queued division weights i.0 w made (later.division, later.weights) i.3 i.2
      (one_there division weights early w l)
      (stands_behind_its_needs runs again division weights made early w l) k x stands before r
      behind parts all lacks)
      events last led

  pub always_some : InEachRun (λ last early w. WhatIsMissingIsQueued w)
  always_some division weights events last made led =
      each_moment division weights (λ early w. WhatIsMissingIsQueued w)
      (λ early w l k x r stands there lacks.
      let i = runs division weights early w made l in
      let later = leads_later (start division weights) w early l in
      some_is_queued division weights i.0 w made (later.division, later.weights) i.3 i.2
      (one_there division weights early w l)
      (stands_behind_its_needs runs again division weights made early w l) k x stands r there
      lacks)
      events last led
