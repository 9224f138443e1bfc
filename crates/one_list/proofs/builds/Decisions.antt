-- What a step decides is also decided in the agreements, so the lists stay equal.
use Rattle.std.proofs.Common.{◌≡◌, ◌<◌, ◌==◌, ℕ, zero, suc, Bool, true, false, cond, List, [], ◌∷◌, ◌++◌, length, map, Option, None, Some, refl, sym, ap, subst, ◌∙◌, ⊎_elim, inl, inr, arith, eq-eqb}
use Rattle.std.specs.Prelude.{All, Contains}
use Rattle.std.specs.List.{list_any}
use Rattle.std.specs.Str.{bytes_eq}
use Rattle.std.proofs.lemmas.Bool.{cases_eq, cond-true, false_from_ne_true, true≢false}
use Rattle.std.proofs.lemmas.List.Elements.{Contains-append_cases}
use Rattle.std.proofs.lemmas.List.Folds.{Any-from_list_any, list_any_at}
use Rattle.faults.specs.Bytes.{Text}
use Rattle.claims.specs.Agreed.{IsAgreed, IsValue, decided_value}
use Rattle.claims.specs.Agreed as theory
use Rattle.claims.specs.AgreedList.{Act, Cluster, Entry, IsAllowed, list_with, lookup}
use Rattle.claims.specs.Messages as messages
use Rattle.claims.specs.Quorums.{is_majority}
use Rattle.claims.specs.Votes.{Ballot, Has, ballot}
use Rattle.claims.specs.declared.claim.Claim.{Claim}
use Rattle.claims.proofs.Agreed.{found}
use Rattle.claims.proofs.Kept.{vote_sent}
use Rattle.claims.proofs.Majorities.{majorities}
use Rattle.ballots.specs.declared.message.Body.TheVariants.{Propose}
use Rattle.ballots.specs.declared.message.Message.{Message}
use Rattle.package_record.specs.Build.{AreAlike}
use Rattle.package_record.specs.Content.{Content}
use Rattle.package_record.specs.Laws.{BuildTextIsReadAgain}
use Rattle.protocol.specs.State.{Value}
use Rattle.engine.specs.Division.{Division, IsDivision}
use Rattle.engine.proofs.Places.{same_bytes}
use Rattle.world.specs.Lists.{IsDecided, IsDecidedFor, IsListAfter, has_path, with_build}
use Rattle.world.specs.Sent.{message, voters}
use Rattle.world.specs.World.{IsMade, World, WorldNode}
use Rattle.world.proofs.DistinctEntries.{has_path_of}
use Rattle.one_list.specs.Matches.{Matches, WasSaid, name_of, packages_of}
use Rattle.one_list.specs.Mirrored.{after_all_acts}
use Rattle.one_list.specs.Needs.{may_build}
use Rattle.one_list.proofs.nodes.EqualParts.{some_same}
use Rattle.one_list.proofs.sent.MessageHeaders.{in_order, sent_was_said}
use Rattle.one_list.proofs.builds.HeldPackages.{entry_listed}
use Rattle.one_list.proofs.builds.UnitRecords.{no_path_of_both}
use Rattle.one_list.proofs.matching.LawfulMatch.{majority_within, voted_there}

-- ---- lists of entries

-- the package is of a build that was allowed for another unit
record IsOfAnother (division : Division) (u : ℕ) (r : Content) : Type 0 where
  unit : ℕ
  listed : unit < length division.units
  other : unit ≡ u → ⊥
  on : ℕ → Option Value
  build : Value
  allowed : may_build division on unit build ≡ true
  there : Contains build r

of_another : (division : Division) (list : List (Entry Value)) (u : ℕ)
    → IsAllowed (may_build division) list
    → All (λ n. n.path < length division.units) list → lookup list u ≡ None → (r : Content)
    → Contains (packages_of list) r → IsOfAnother division u r
of_another division [] u allowed units none r (k, within, at) = absurd (omega arith)
of_another division (e ∷ es) u allowed units none r h =
    let parts = other_first (e.path == u) refl none in ⊎_elim
    (λ old. of_another division es u allowed.2 (λ k d lt. units (suc k) d (omega (arith, lt)))
    parts.1 r old)
    (λ new. record {
      unit = e.path;
      listed = units 0 e (omega arith);
      other = λ same. true≢false (sym (eq-eqb e.path u same) ∙ parts.0);
      on = lookup es;
      build = e.value;
      allowed = allowed.1;
      there = new;
    })
    (Contains-append_cases (packages_of es) e.value r h)
  where
    other_first : (b : Bool) → (e.path == u) ≡ b
        → cond (e.path == u) (Some e.value) (lookup es u) ≡ None → ((e.path == u) ≡ false)
        × (lookup es u ≡ None)
    other_first true is none = absurd (let wrong : Some e.value ≡ None = sym
        (cond-true (e.path == u) (Some e.value) (lookup es u) is) ∙ none in cc)
    other_first false is none = (is, sym (ap (λ b. cond b (Some e.value) (lookup es u)) is) ∙ none)

-- a package in the list has its path there
path_there : (list : List Content) (r : Content) → Contains list r → has_path list r.path ≡ true
path_there list r h = has_path_of list r.path (image list r h)
  where
    image : (list : List Content) (r : Content) → Contains list r
        → Contains (map (λ (r : Content). r.path) list) r.path
    image [] r (k, within, at) = absurd (omega arith)
    image (x ∷ xs) r (zero, within, at) = (zero, omega arith, ap (λ (r : Content). r.path) at)
    image (x ∷ xs) r (suc k, within, at) = let i =
        image xs r (k, omega (arith, within), at) in (suc i.0, omega (arith, i.1), i.2)

-- conversely, a path in the list has a package there
there_by_path : (list : List Content) (path : Text) → has_path list path ≡ true → (r : Content)
    × Contains list r × (r.path ≡ path)
there_by_path list path e =
    let a = Any-from_list_any (λ (r : Content). bytes_eq r.path path) list e in
    (a.1, (a.0, a.2, a.3), same_bytes (a.1).path path a.4)

-- a build has at least one record
some_record : (build : Value) → AreAlike build → (r : Content) × Contains build r
some_record [] are = absurd are
some_record (r ∷ rs) are = (r, (zero, omega arith, refl))

-- ---- before and after a step

module _ (division : Division) (weights : List ℕ) (acts more : List (Act Value)) (w : World)
    (made : IsMade division weights)
    (of : (w.division ≡ division) × (w.weights ≡ weights))
    (m : Matches w (after_all_acts division weights acts))
    (nodes : List WorldNode) (sent : List Text) (packages : List Content)
    (after : Matches (record w { nodes = nodes; sent = sent; agreed = packages })
    (after_all_acts division weights more)) (again : BuildTextIsReadAgain)
    (u : ℕ) (within : u < length w.division.units)
    (elsewhere : (q : ℕ) → (q ≡ u → ⊥)
    → ((after_all_acts division weights more).at q).sent ≡
    ((after_all_acts division weights acts).at q).sent)
    (goes_on : (after_all_acts division weights more).list ≡ list_with u
    (after_all_acts division weights acts).list
    (lookup (after_all_acts division weights acts).list u)
    (decided_value (is_majority weights) ((after_all_acts division weights more).at u).sent
    ((after_all_acts division weights more).at u).sent)) where
  -- the clusters after the acts, before and after the step
  abbrev old : Cluster Value
  old = after_all_acts division weights acts

  abbrev new : Cluster Value
  new = after_all_acts division weights more

  -- the world after the step
  abbrev v : World
  v = record w { nodes = nodes; sent = sent; agreed = packages }

  -- the members that voted for a claim, in the agreement
  abbrev votes_in : Cluster Value → ℕ → Claim → ℕ → Bool
  votes_in c q b = theory.voters (c.at q).sent b

  -- a member that voted there sent its vote
  vote_went_out : (q : ℕ) (b : Claim) (k : ℕ) → q < length w.division.units
      → votes_in new q b k ≡ true → voters w sent (name_of w q) b k ≡ true
  vote_went_out q b k lt e = (after.votes q k b lt (vote_sent (new.at q).sent b k e)).went_out

  vote_had_gone_out : (q : ℕ) (b : Claim) (k : ℕ) → q < length w.division.units
      → votes_in old q b k ≡ true → voters w w.sent (name_of w q) b k ≡ true
  vote_had_gone_out q b k lt e = (m.votes q k b lt (vote_sent (old.at q).sent b k e)).went_out

  -- majorities by the weights of this world and of the acts are the same
  enough_here : (S : ℕ → Bool) → is_majority w.weights S ≡ true → is_majority weights S ≡ true
  enough_here S e = subst (λ ws. is_majority ws S ≡ true) of.1 e

  enough_there : (S : ℕ → Bool) → is_majority weights S ≡ true → is_majority w.weights S ≡ true
  enough_there S e = subst (λ ws. is_majority ws S ≡ true) (sym of.1) e

  -- ---- if nothing is decided

  -- if the votes are enough, something is agreed
  was_agreed : (q : ℕ) (b : Claim) → is_majority weights (votes_in old q b) ≡ true → (a : Value)
      × IsAgreed (is_majority weights) (old.at q) (ballot b a)
  was_agreed q b e =
      let some = (majorities weights).meet (votes_in old q b) (votes_in old q b) e e in
      let sound = (in_order division weights acts w made of m).sound q in
      let vote = sound.said (messages.Vote some.0 b) (vote_sent (old.at q).sent b some.0 some.1) in (
        vote.0,
        (
          e,
          (sound.noted (record { member = some.0; ballot = ballot b vote.0 }) vote.1).proposed,
        ),
      )

  -- so if nothing was agreed before, and a proposal has enough votes now, it is decided now
  decided_now : lookup old.list u ≡ None → (b : Ballot Value)
      → is_majority weights (votes_in new u b.claim) ≡ true
      → Has (new.at u).sent (messages.Propose b)
      → IsDecided w sent (name_of w u) b.claim
  decided_now none b votes proposed =
      let proposal = after.proposals u b.claim b.value within proposed in record {
        claim_is = proposal.is_message.body.0;
        now = enough_there (voters w sent (name_of w u) b.claim)
            (majority_within weights (votes_in new u b.claim) (voters w sent (name_of w u) b.claim)
            (λ k lt e. vote_went_out u b.claim k within e) votes);
        not_before = false_from_ne_true (is_majority w.weights
            (voters w w.sent (name_of w u) b.claim)) (λ before.
            let enough = majority_within weights (voters w w.sent (name_of w u) b.claim)
            (votes_in old u b.claim)
            (λ k lt e. voted_there division weights acts w made of m again u (name_of w u) b.claim
            b.value within refl k lt b.claim.member proposal.is_message e)
            (enough_here (voters w w.sent (name_of w u) b.claim) before) in
            let a = was_agreed u b.claim enough in
            let value = subst (IsValue (is_majority weights) (old.at u)) none
            ((in_order division weights acts w made of m).values u) in
            value (ballot b.claim a.0) a.1);
      }

  -- if nothing is decided now, the entries stay the same
  entries_stay : ((name : Text) (c : Claim) → IsDecided w sent name c → ⊥) → new.list ≡ old.list
  entries_stay none = goes_on ∙ by (lookup old.list u) refl
      (decided_value (is_majority weights) (new.at u).sent (new.at u).sent) refl
    where
      by : (o : Option Value) → lookup old.list u ≡ o → (d : Option Value)
          → decided_value (is_majority weights) (new.at u).sent (new.at u).sent ≡ d
          → list_with u old.list o d ≡ old.list
      by (Some a) is d e = refl
      by None is None e = refl
      by None is (Some a) e =
          let f = found Value (is_majority weights) (majorities weights) (λ v. Unit {0})
          (new.at u).sent (new.at u).sent a e in
          absurd (none (name_of w u) (f.0).claim (decided_now is f.0 (f.1).0 (f.1).1))

  -- ---- if something is decided

  module _ (build : Value) (d : IsDecidedFor w sent build) where
    -- the proposal, which was said
    abbrev proposal : Message Value
    proposal = message w d.name d.proposed.0 (Propose d.claim build)

    was : WasSaid v new proposal
    was = sent_was_said division weights more v made of after again proposal d.proposed.1

    -- the members that voted for its claim
    voted_now : (k : ℕ) → k < length weights → voters w sent d.name d.claim k ≡ true
        → votes_in new was.unit d.claim k ≡ true
    voted_now k lt e = voted_there division weights more v made of after again was.unit d.name
        d.claim build was.listed was.about k lt d.proposed.0 d.proposed.1.is_message e

    -- it is agreed there
    agreed_there : IsAgreed (is_majority weights) (new.at was.unit) (ballot d.claim build)
    agreed_there = (
      majority_within weights (voters w sent d.name d.claim) (votes_in new was.unit d.claim)
          voted_now (enough_here (voters w sent d.name d.claim) d.decided.now),
      was.said_there,
    )

    -- it is this step's unit: at other units everything sent had been sent before
    at_this : was.unit ≡ u
    at_this = ⊎_elim (λ same. same)
        (λ other. absurd (true≢false (sym (enough_there (voters w w.sent d.name d.claim)
        (majority_within weights (voters w sent d.name d.claim) (voters w w.sent d.name d.claim)
        (λ k lt e. subst (λ name. voters w w.sent name d.claim k ≡ true) (sym was.about)
        (vote_had_gone_out was.unit d.claim k was.listed
        (subst (λ l. theory.voters l d.claim k ≡ true) (elsewhere was.unit other)
        (voted_now k lt e))))
        (enough_here (voters w sent d.name d.claim) d.decided.now))) ∙ d.decided.not_before)))
        (cases_eq was.unit u)

    -- so it is the unit's entry
    its_entry : lookup new.list u ≡ Some build
    its_entry = subst (λ q. lookup new.list q ≡ Some build) at_this
        (by (lookup new.list was.unit) ((in_order division weights more v made of after).values
        was.unit))
      where
        by : (o : Option Value) → IsValue (is_majority weights) (new.at was.unit) o → o ≡ Some build
        by None none = absurd (none (ballot d.claim build) agreed_there)
        by (Some a) value = ap (λ x. Some x) (sym (value.1 (ballot d.claim build) agreed_there))

    -- some package of the build
    some : (r : Content) × Contains build r
    some = some_record build d.proposed.1.is_message.body.1.build_is.alike

    -- if the unit had an entry before, it was this one, and the list stays the same
    had_entry : (a : Value) → lookup old.list u ≡ Some a
        → with_build w.agreed build ≡ packages_of new.list
    had_entry a e =
        let stays : new.list ≡ old.list = goes_on
        ∙ ap (λ o. list_with u old.list o
        (decided_value (is_majority weights) (new.at u).sent (new.at u).sent)) e in
        let same : a ≡ build =
        some_same a build (sym e ∙ ap (λ l. lookup l u) (sym stays) ∙ its_entry) in
        let listed : All (Contains (packages_of old.list)) build =
        subst (All (Contains (packages_of old.list))) same (entry_listed old.list u a e) in
        let there : Contains w.agreed (some.0) = subst (λ l. Contains l some.0) (sym m.list)
        (subst (Contains (packages_of old.list)) (some.1).2
        (listed (some.1).0 some.0 (some.1).1)) in
        let known : list_any (λ r. has_path w.agreed r.path) build ≡ true =
        list_any_at (λ (r : Content). has_path w.agreed r.path) build (some.1).0 some.0 (some.1).1
        (subst (λ (r : Content). has_path w.agreed r.path ≡ true) (sym (some.1).2)
        (path_there w.agreed some.0 there)) in
        cond-true (list_any (λ r. has_path w.agreed r.path) build) w.agreed (w.agreed ++ build)
        known ∙ m.list ∙ ap packages_of (sym stays)

    -- if it had none, its packages are new
    had_none : lookup old.list u ≡ None → with_build w.agreed build ≡ packages_of new.list
    had_none none = by (decided_value (is_majority weights) (new.at u).sent (new.at u).sent) refl
      where
        divided : IsDivision w.division
        divided = subst IsDivision (sym of.0) made.divided

        goes : (o : Option Value) → decided_value (is_majority weights) (new.at u).sent
            (new.at u).sent ≡ o → new.list ≡ list_with u old.list None o
        goes o e = goes_on ∙ ap (λ p. list_with u old.list p
            (decided_value (is_majority weights) (new.at u).sent (new.at u).sent)) none
            ∙ ap (list_with u old.list None) e

        by : (o : Option Value) → decided_value (is_majority weights) (new.at u).sent
            (new.at u).sent ≡ o → with_build w.agreed build ≡ packages_of new.list
        by None e = absurd (let wrong : None ≡ Some build = sym none
            ∙ ap (λ l. lookup l u) (sym (goes None e)) ∙ its_entry in cc)
        by (Some a) e =
            let here : lookup (record { path = u; value = a } ∷ old.list) u ≡ Some a =
            cond-true (u == u) (Some a) (lookup old.list u) (eq-eqb u u refl) in
            let same : a ≡ build = some_same a build
            (sym here ∙ ap (λ l. lookup l u) (sym (goes (Some a) e)) ∙ its_entry) in
            let fresh : list_any (λ r. has_path w.agreed r.path) build ≡ false = false_from_ne_true
            (list_any (λ r. has_path w.agreed r.path) build) (λ known. is_new a e same known) in
            ap (λ b. cond b w.agreed (w.agreed ++ build)) fresh
            ∙ ap (λ l. l ++ build) m.list ∙ ap (λ x. packages_of old.list ++ x) (sym same)
            ∙ ap packages_of (sym (goes (Some a) e))
          where
            is_new : (a : Value) → decided_value (is_majority weights) (new.at u).sent
                (new.at u).sent ≡ Some a → a ≡ build
                → list_any (λ r. has_path w.agreed r.path) build ≡ true → ⊥
            is_new a e same known =
                let allowed = subst (IsAllowed (may_build division)) (goes (Some a) e)
                (in_order division weights more v made of after).allowed in
                let mine =
                subst (λ x. may_build division (lookup old.list) u x ≡ true) same allowed.1 in
                let one =
                Any-from_list_any (λ (r : Content). has_path w.agreed r.path) build known in
                let other = there_by_path w.agreed (one.1).path one.4 in
                let o = of_another division old.list u allowed.2
                (subst (λ d. All (λ n. n.path < length d.units) old.list) of.0 m.units) none
                other.0
                (subst (λ l. Contains l other.0) m.list other.1) in
                o.other (no_path_of_both division made.divided o.on (lookup old.list) o.unit u
                o.build build o.listed (subst (λ d. u < length d.units) of.0 within)
                o.allowed mine other.0 one.1 o.there (one.0, one.2, one.3) other.2)

    decided_list : with_build w.agreed build ≡ packages_of new.list
    decided_list = by (lookup old.list u) refl
      where
        by : (o : Option Value) → lookup old.list u ≡ o
            → with_build w.agreed build ≡ packages_of new.list
        by None e = had_none e
        by (Some a) e = had_entry a e

  -- The list after the event is that of the agreements.
  pub list_is : (list : List Content) → IsListAfter w sent list → list ≡ packages_of new.list
  list_is list (inl (build, d, e)) = e ∙ decided_list build d
  list_is list (inr (none, e)) = e ∙ m.list ∙ ap packages_of (sym (entries_stay none))
