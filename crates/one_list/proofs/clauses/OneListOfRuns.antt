-- Each run has one list and is safe, and its events have one outcome.
use Rattle.std.proofs.Common.{◌≡◌, ◌<◌, ◌++◌, ◌∷◌, [], ◌∙◌, ℕ, List, length, refl, sym, subst}
use Rattle.claims.specs.AgreedList.{Act}
use Rattle.auditing.specs.Allowed as audit
use Rattle.protocol.specs.Events.{Event}
use Rattle.package_record.specs.Build.{paths_of}
use Rattle.package_record.specs.Laws.{BuildTextIsReadAgain}
use Rattle.protocol.specs.State.{Value}
use Rattle.std.specs.Prelude.{All, AllPairs, map, ◌≢◌}
use Rattle.std.proofs.lemmas.List.Elements.{All-contains_itself}
use Rattle.engine.specs.Division.{Division}
use Rattle.engine.specs.Units.{AreUnits}
use Rattle.auditing.specs.Fits.{Fits}
use Rattle.world.specs.Happening.{Leads}
use Rattle.world.specs.Headline.{AllFit, AreRecords, AtEachMoment, AuditSaysYes, HasOneAPath, HasOneList, HeldIsListed, HoldAlike, InstallableIsHeld, IsBeginningOf, WasBuilt, entry_of}
use Rattle.world.specs.Laws.{EachHappensOrIsRefused, EachStepHasAList, EventsLeadToOneWorld, OneAnswer, OneWorldFollows}
use Rattle.one_list.specs.Safety.{EachIsOfAMessage, EqualHeaders, JobsStood, LaterRepeats, OneProposal, PromisesBound, SentVotesAreNoted}
use Rattle.world.specs.World.{IsMade, World, start}
use Rattle.world.proofs.DistinctEntries.{one_a_path, one_there}
use Rattle.world.proofs.Growth.{each_moment, leads_later, list_grows}
use Rattle.world.proofs.EventParts.{leads_together}
use Rattle.one_list.proofs.builds.ListRecords.{always_records}
use Rattle.one_list.specs.MatchingLaws.{EachRunHasOneList, EachRunIsActs, InEachRun, IsSafe}
use Rattle.one_list.specs.Matches.{Matches, packages_of}
use Rattle.one_list.specs.Mirrored.{after_all_acts}
use Rattle.one_list.proofs.builds.AuditOfList.{audit_says_yes}
use Rattle.one_list.proofs.clauses.BuiltPackages.{list_was_built}
use Rattle.one_list.proofs.answers.HappensOrRefused.{either_way}
use Rattle.one_list.proofs.answers.OneNextWorld.{happens_not_refused, one_follows, one_refusal}
use Rattle.one_list.proofs.sent.MessageHeaders.{in_order}
use Rattle.one_list.proofs.clauses.InstalledClosures.{installable_is_held}
use Rattle.one_list.proofs.builds.ListedBuilds.{list_fits}
use Rattle.one_list.proofs.acts.EventActs.{event_is_act, step_has_list, step_has_one_list}
use Rattle.one_list.proofs.clauses.RunInvariants.{always_alike, always_bound, always_listed, always_noted, always_one_proposal, always_repeated, always_told_apart, at_each, runs_are_acts}
use Rattle.one_list.proofs.clauses.SignedDependencies.{jobs_stood}
use Rattle.one_list.proofs.acts.LocalFacts.{event_keeps}
use Rattle.package_record.proofs.BuildsRead.{build_is_read}

-- ---- a world that matches

module _ (division : Division) (weights : List ℕ) (made : IsMade division weights)
    (acts : List (Act Value)) (w : World)
    (of : (w.division ≡ division) × (w.weights ≡ weights))
    (m : Matches w (after_all_acts division weights acts)) where
  -- the entries are of units
  units : All (λ n. n.path < length division.units) (after_all_acts division weights acts).list
  units = subst (λ (d : Division). All (λ n. n.path < length d.units)
      (after_all_acts division weights acts).list) of.0 m.units

  -- Each package of the list fits the tree.
  all_fit : AllFit w
  all_fit =
      subst (λ (d : Division). All (λ r. Fits d.tree r.path r.name r.built r.run) w.agreed)
      (sym of.0)
      (subst (All (λ r. Fits division.tree r.path r.name r.built r.run)) (sym m.list)
      (λ k d lt. list_fits division made.divided (after_all_acts division weights acts).list
      (in_order division weights acts w made of m).allowed units _
      (All-contains_itself (packages_of (after_all_acts division weights acts).list) k d lt)))

  -- An audit accepts it, if it has one package for each path.
  audited : AllPairs ◌≢◌ (paths_of w.agreed) → AuditSaysYes w
  audited one =
      subst (λ (d : Division). audit.IsAllowed d.tree (map entry_of w.agreed)) (sym of.0)
      (subst (λ l. audit.IsAllowed division.tree (map entry_of l)) (sym m.list)
      (audit_says_yes division made.divided (after_all_acts division weights acts).list
      (in_order division weights acts w made of m).allowed units
      (subst (λ l. AllPairs ◌≢◌ (paths_of l)) m.list one)))

-- ---- at every point

module _ (runs : EachRunIsActs) (again : BuildTextIsReadAgain) (division : Division)
    (weights : List ℕ) (made : IsMade division weights)
    (events : List Event) (last : World) (led : Leads (start division weights) events last) where
  always_built : AtEachMoment division weights events last
      (λ early w. All (WasBuilt division weights early) w.agreed)
  always_built =
      each_moment division weights (λ early w. All (WasBuilt division weights early) w.agreed)
      (λ early w l. let r = runs division weights early w made l in list_was_built division weights
      made early w r.0 r.1 r.2)
      events last led

  always_fits : AtEachMoment division weights events last (λ early w. AllFit w)
  always_fits = at_each runs again division weights made events last led AllFit
      (λ acts w of m local. all_fit division weights made acts w of m)

  always_installable : AtEachMoment division weights events last (λ early w. InstallableIsHeld w)
  always_installable = at_each runs again division weights made events last led InstallableIsHeld
      (λ acts w of m local. installable_is_held division weights acts w made of local m)

  always_allowed : AtEachMoment division weights events last (λ early w. AuditSaysYes w)
  always_allowed = each_moment division weights (λ early w. AuditSaysYes w)
      (λ early w l.
      let r = runs division weights early w made l in
      let later = leads_later (start division weights) w early l in
      audited division weights made r.0 w (later.division, later.weights) r.2
      (one_there division weights early w l))
      events last led

  always_jobs : AtEachMoment division weights events last
      (λ early w. JobsStood division weights early w)
  always_jobs = each_moment division weights (λ early w. JobsStood division weights early w)
      (λ early w l. let r = runs division weights early w made l in jobs_stood division weights made
      runs again early w r.0 r.1 r.2)
      events last led

  has_one_list : HasOneList division weights events last
  has_one_list = record {
    grows = list_grows division weights events last led;
    one_a_path = one_a_path division weights events last led;
    built = always_built;
    records = always_records division weights events last led;
    fits = always_fits;
    held = always_listed runs again division weights made events last led;
    alike = always_alike runs again division weights made events last led;
    installable = always_installable;
    allowed = always_allowed;
  }

  is_safe : IsSafe division weights events last
  is_safe = record {
    one_proposal = always_one_proposal runs again division weights made events last led;
    promises_bound = always_bound runs again division weights made events last led;
    votes_noted = always_noted runs again division weights made events last led;
    later_repeats = always_repeated runs again division weights made events last led;
    jobs_stood = always_jobs;
    equal_headers = always_told_apart runs again division weights made events last led;
  }

-- Each run has one list, and is safe.
pub each_has_one_list : EachRunIsActs → BuildTextIsReadAgain → EachRunHasOneList
each_has_one_list runs again division weights events w made led = (
  has_one_list runs again division weights made events w led,
  is_safe runs again division weights
      made events w led,
)

-- ---- part by part

module _ (runs : EachRunIsActs) (again : BuildTextIsReadAgain) where
  pub always_grows : InEachRun (λ last early w. IsBeginningOf w.agreed last.agreed)
  always_grows division weights events last made led =
      list_grows division weights events last led

  pub one_always : InEachRun (λ last early w. HasOneAPath w)
  one_always division weights events last made led = one_a_path division weights events last led

  pub built_always : InEachRun
      (λ last early w. All (WasBuilt last.division last.weights early) w.agreed)
  built_always division weights events last made led =
      let later = leads_later (start division weights) last events led in
      subst (λ (d : Division). AtEachMoment division weights events last
      (λ early w. All (WasBuilt d last.weights early) w.agreed)) (sym later.division)
      (subst (λ ws. AtEachMoment division weights events last
      (λ early w. All (WasBuilt division ws early) w.agreed)) (sym later.weights)
      (always_built runs again division weights made events last led))

  pub records_always : InEachRun (λ last early w. AreRecords w)
  records_always division weights events last made led =
      always_records division weights events last led

  pub fits_always : InEachRun (λ last early w. AllFit w)
  fits_always division weights events last made led =
      always_fits runs again division weights made events last led

  pub held_always : InEachRun (λ last early w. HeldIsListed w)
  held_always division weights events last made led =
      always_listed runs again division weights made events last led

  pub alike_always : InEachRun (λ last early w. HoldAlike w last)
  alike_always division weights events last made led =
      always_alike runs again division weights made events last led

  pub installable_always : InEachRun (λ last early w. InstallableIsHeld w)
  installable_always division weights events last made led =
      always_installable runs again division weights made events last led

  pub allowed_always : InEachRun (λ last early w. AuditSaysYes w)
  allowed_always division weights events last made led =
      always_allowed runs again division weights made events last led

  pub one_proposal_always : InEachRun (λ last early w. OneProposal w)
  one_proposal_always division weights events last made led =
      always_one_proposal runs again division weights made events last led

  pub bound_always : InEachRun (λ last early w. PromisesBound w)
  bound_always division weights events last made led =
      always_bound runs again division weights made events last led

  pub noted_always : InEachRun (λ last early w. SentVotesAreNoted w)
  noted_always division weights events last made led =
      always_noted runs again division weights made events last led

  pub repeated_always : InEachRun (λ last early w. LaterRepeats w)
  repeated_always division weights events last made led =
      always_repeated runs again division weights made events last led

  pub jobs_always : InEachRun (λ last early w. JobsStood last.division last.weights early w)
  jobs_always division weights events last made led =
      let later = leads_later (start division weights) last events led in
      subst (λ (d : Division). AtEachMoment division weights events last
      (λ early w. JobsStood d last.weights early w)) (sym later.division)
      (subst (λ ws. AtEachMoment division weights events last
      (λ early w. JobsStood division ws early w)) (sym later.weights)
      (always_jobs runs again division weights made events last led))

  pub told_apart_always : InEachRun (λ last early w. EqualHeaders w × EachIsOfAMessage w)
  told_apart_always division weights events last made led =
      always_told_apart runs again division weights made events last led

-- ---- answers

-- One world follows an event, and an event has one outcome.
pub one_world : EachRunIsActs → BuildTextIsReadAgain → OneWorldFollows
one_world runs again division weights events w a b e made led first second =
    let r = runs division weights events w made led in
    let later = leads_later (start division weights) w events led in
    one_follows w a b e (λ v step s. step_has_one_list division weights r.0 w made
    (later.division, later.weights) r.3 r.2 again e v step s) first second

-- So events lead to one world.
one_end : OneWorldFollows → (division : Division) (weights : List ℕ) → IsMade division weights
    → (before events : List Event) (w a b : World) → Leads (start division weights) before w
    → Leads w events a → Leads w events b → a ≡ b
one_end one division weights made before [] w a b led first second = first ∙ sym second
one_end one division weights made before (e ∷ es) w a b led first second =
    let same = one division weights before w second.0 first.0 e made led second.1 first.1 in
    one_end one division weights made (before ++ e ∷ []) es first.0 a b
    (leads_together (start division weights) w first.0 before (e ∷ []) led
    (first.0, first.1, refl))
    first.2 (subst (λ v. Leads v es b) same second.2)

pub one_world_at_end : OneWorldFollows → EventsLeadToOneWorld
one_world_at_end one division weights events v w made first second =
    one_end one division weights made [] events (start division weights) v w refl first second

-- Some list follows after each step.
pub each_has_list : EachRunIsActs → BuildTextIsReadAgain → EachStepHasAList
each_has_list runs again division weights events w e x t made led step acts =
    let r = runs division weights events w made led in
    let later = leads_later (start division weights) w events led in
    step_has_list division weights r.0 w made (later.division, later.weights) r.3 r.2 again e step
    (record { node = x; taken = t; acts = acts })

-- So each event happens or is refused.
pub each_happens_or_not : EachRunIsActs → BuildTextIsReadAgain → EachHappensOrIsRefused
each_happens_or_not runs again division weights events w e made led can =
    let later = leads_later (start division weights) w events led in
    either_way w
    (subst (λ (d : Division). AreUnits d.tree d.units) (sym later.division) made.divided.units)
    (λ e step x t acts. each_has_list runs again division weights events w e x t made led step acts)
    e can

pub one_answer : OneAnswer
one_answer division weights events w e made led =
    (λ v f h refused. happens_not_refused w v e f h refused, λ f g a b. one_refusal w e f g a b)

-- ---- by the laws of events

pub each_run_is_acts : EachRunIsActs
each_run_is_acts = runs_are_acts
    (λ division weights acts w v e made of local m h. event_is_act division weights acts w made of
    local m build_is_read e v h)
    (λ w v e made local each h. event_keeps w made local each e v h)
