-- Each package of the list was built by an event: under a claim for its unit, on packages that were
-- in the list.
use Rattle.std.proofs.Common.{◌≡◌, ◌<◌, ℕ, suc, List, [], ◌∷◌, length, None, Some, eqb, eqb-true, sym, ap, subst, arith}
use Rattle.std.specs.Prelude.{All, Contains}
use Rattle.std.proofs.lemmas.Bool.{cond_both}
use Rattle.std.proofs.lemmas.List.{get_or_default}
use Rattle.claims.specs.AgreedList.{Act, Cluster, Entry, WasBuilt as WasBuiltInActs, beginning, lookup}
use Rattle.claims.specs.Quorums.{is_majority}
use Rattle.claims.proofs.AgreedList.{listed_fine}
use Rattle.claims.proofs.Majorities.{majorities}
use Rattle.protocol.specs.Events.{Event}
use Rattle.package_record.specs.Content.{Content}
use Rattle.protocol.specs.Jobs.{job_of, record_by}
use Rattle.protocol.specs.State.{Value}
use Rattle.engine.specs.Division.{Division, IsDivision, unit_at}
use Rattle.engine.proofs.Kept.{unit_listed}
use Rattle.engine.proofs.Places.{has_position}
use Rattle.world.specs.Headline.{HasSignature, WasBuilt}
use Rattle.world.specs.World.{IsMade, World, member_at, start}
use Rattle.world.proofs.Growth.{leads_later}
use Rattle.one_list.specs.Matches.{Matches, packages_of}
use Rattle.one_list.specs.Mirrored.{Mirrors, after_all_acts}
use Rattle.one_list.specs.Needs.{may_build}
use Rattle.one_list.proofs.sent.MessageHeaders.{in_order}
use Rattle.one_list.proofs.builds.ListedBuilds.{of_entry, stands_listed}
use Rattle.one_list.proofs.sent.MonotoneNeeds.{needs_are_monotone}
use Rattle.one_list.proofs.sent.SentMessages.{has_preimage}
use Rattle.one_list.proofs.clauses.BuildsOfActs.{WasMade, built_was_made, mirrors_lead}

-- each entry is for a unit of the division
pub entry_within : (n : ℕ) (list : List (Entry Value)) (u : ℕ) (v : Value)
    → All (λ e. e.path < n) list → lookup list u ≡ Some v → u < n
entry_within n [] u v units e = absurd (let no : None ≡ Some v = e in cc)
entry_within n (x ∷ xs) u v units e =
    cond_both (eqb x.path u) (Some x.value) (lookup xs u) (λ o. o ≡ Some v → u < n)
    (λ same h. subst (λ p. p < n) (eqb-true x.path u same) (units 0 x (omega arith)))
    (λ other h. entry_within n xs u v (λ k d lt. units (suc k) d (omega (arith, lt))) h) e

module _ (division : Division) (weights : List ℕ) (made : IsMade division weights) where
  -- a run's world has this division and these weights
  pub of_run : (events : List Event) (w : World) (acts : List (Act Value))
      → Mirrors division weights events w acts → (w.division ≡ division) × (w.weights ≡ weights)
  of_run events w acts mirrors =
      let later = leads_later (start division weights) w events
      (mirrors_lead division weights events w acts mirrors) in (later.division, later.weights)

  -- a record of a build that was made was built by an event
  record_built : (events : List Event) (u : ℕ) (build : Value)
      (was : WasMade division weights events u build) → u < length division.units → (r : Content)
      → Contains build r
      → WasBuilt division weights events r
  record_built events u build was within r h = record {
    before = was.before;
    event = was.event;
    behind = was.behind;
    among = was.among;
    world = was.world;
    led = mirrors_lead division weights was.before was.world was.acts was.mirrors;
    then = was.then;
    happened = was.happened;
    builds = record {
      takes = record {
        builder = was.maker;
        path = was.makes.path;
        files = was.makes.files;
        event = was.makes.event;
        node = was.makes.node;
        stands = (was.makes.stands, was.makes.up);
        unit = u;
        host = was.makes.host;
        claim = was.makes.claim;
        waits = was.makes.opened;
        for_unit = was.makes.for_unit;
      };
      position = p.0;
      of_package = has_position was.world.division.tree r.path p.0 divided.tree
          (unit_listed was.world.division u p.0 divided lt p.1)
          (sym (ap (λ (c : Content). c.path) p.2));
      in_unit = p.1;
      record_is = p.2;
      stood = subst (λ l. All (HasSignature l) r.built) (sym was.is_match.list)
          (stands_listed division (after_all_acts division weights was.acts).list u build was.listed
          r h);
    };
  }
    where
      of : (was.world.division ≡ division) × (was.world.weights ≡ weights)
      of = of_run was.before was.world was.acts was.mirrors

      divided : IsDivision was.world.division
      divided = subst IsDivision (sym of.0) made.divided

      lt : u < length was.world.division.units
      lt = subst (λ (d : Division). u < length d.units) (sym of.0) within

      p : (p : ℕ) × Contains (unit_at was.world.division u).packages p
          × (r ≡ record_by was.world.division.tree
          (job_of (member_at was.world was.maker was.makes.node) u was.makes.host was.makes.claim)
          was.makes.files p)
      p = has_preimage (record_by was.world.division.tree
          (job_of (member_at was.world was.maker was.makes.node) u was.makes.host was.makes.claim)
          was.makes.files)
          (unit_at was.world.division u).packages r (subst (λ b. Contains b r) was.makes.build_is h)

  -- So each package of the list was built by an event.
  pub list_was_built : (events : List Event) (w : World) (acts : List (Act Value))
      → Mirrors division weights events w acts
      → Matches w (after_all_acts division weights acts)
      → All (WasBuilt division weights events) w.agreed
  list_was_built events w acts mirrors m =
      subst (All (WasBuilt division weights events)) (sym m.list) each
    where
      of : (w.division ≡ division) × (w.weights ≡ weights)
      of = of_run events w acts mirrors

      c : Cluster Value
      c = after_all_acts division weights acts

      one : (r : Content) → Contains (packages_of (after_all_acts division weights acts).list) r
          → WasBuilt division weights events r
      one r h =
          let o = in_order division weights acts w made of m in
          let n = of_entry division (after_all_acts division weights acts).list o.allowed r h in
          let fine = listed_fine Value (is_majority weights) (majorities weights)
          (may_build division) (needs_are_monotone division)
          (WasBuiltInActs (is_majority weights) (may_build division) acts beginning)
          (after_all_acts division weights acts) o n.unit n.build n.entry in
          let within = entry_within (length w.division.units)
          (after_all_acts division weights acts).list n.unit n.build m.units n.entry in
          record_built events n.unit n.build (built_was_made division weights events w acts mirrors
          n.unit n.build fine)
          (subst (λ (d : Division). n.unit < length d.units) of.0 within) r n.there

      each : All (WasBuilt division weights events)
          (packages_of (after_all_acts division weights acts).list)
      each k d lt = one _ (
        k,
        lt,
        get_or_default
            (packages_of (after_all_acts division weights acts).list) k _ d lt,
      )
