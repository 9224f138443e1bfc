-- What a member builds for its open claim is allowed on what the member holds.
use Rattle.std.proofs.Common.{◌≡◌, ◌<◌, ◌&&◌, ℕ, zero, suc, Bool, true, false, List, [], ◌∷◌, length, map, Option, None, Some, find, option_and_then, slice_get, eqb, eqb-true, refl, sym, ap, subst, ◌∙◌, arith}
use Rattle.std.specs.Prelude.{All, Contains, is_some}
use Rattle.std.specs.List.{list_all}
use Rattle.std.specs.Str.{bytes_eq}
use Rattle.std.proofs.lemmas.Bool.{and_from, cond_both, true≢false}
use Rattle.std.proofs.lemmas.List.Elements.{All-contains}
use Rattle.std.proofs.lemmas.List.Folds.{list_any_at}
use Rattle.std.proofs.lemmas.List.Quantifiers.{position-Some}
use Rattle.faults.specs.Bytes.{Text}
use Rattle.faults.specs.Pieces.{set_of}
use Rattle.claims.specs.AgreedList.{Act, Cluster, Entry, IsAllowed, Needs, WasBuilt, beginning, held_by, lookup}
use Rattle.claims.specs.Member.{Member}
use Rattle.claims.specs.Quorums.{is_majority}
use Rattle.claims.specs.declared.claim.Claim.{Claim}
use Rattle.claims.proofs.AgreedList.{held_listed}
use Rattle.claims.proofs.Majorities.{majorities}
use Rattle.claims.specs.Job.{Task}
use Rattle.claims.specs.declared.deps.Dep.{Dep}
use Rattle.listing.specs.Tree.{path_at}
use Rattle.package_record.specs.Content.{Content}
use Rattle.protocol.specs.Given.{Given}
use Rattle.protocol.specs.Jobs.{build_by, deps_of, job_of, record_by, signature}
use Rattle.protocol.specs.State.{State, Value, facts_at, held_record, holds_package, is_held_any, record_in, unit_with}
use Rattle.protocol.proofs.HeldRecords.{builds_stand, jobs_have_all}
use Rattle.engine.specs.Division.{Division, no_unit, number_of, unit_at}
use Rattle.engine.specs.Units.{Unit, is_in}
use Rattle.engine.proofs.Kept.{unit_good}
use Rattle.engine.proofs.Lists.{in_contains}
use Rattle.engine.proofs.Places.{equal_bytes, has_position}
use Rattle.world.specs.World.{IsMade, World, WorldNode, member_at}
use Rattle.one_list.specs.Local.{AreLocal}
use Rattle.one_list.specs.Matches.{Matches}
use Rattle.one_list.specs.Mirrored.{after_all_acts}
use Rattle.one_list.specs.Needs.{are_records_of, is_record_of, is_signed, may_build, same_signature, stands_on}
use Rattle.one_list.proofs.matching.CutSteps.{made_here}
use Rattle.one_list.proofs.sent.MessageHeaders.{in_order}
use Rattle.one_list.proofs.builds.HeldPackages.{find_is, held_within}
use Rattle.one_list.proofs.sent.MonotoneNeeds.{needs_are_monotone}
use Rattle.one_list.proofs.builds.UnitRecords.{are_records, has_record, record_told}
use Rattle.one_list.proofs.matching.SpokenMessages.{passes}

-- if an element passes, one is found
find_some : {X : Type 0} (t : X → Bool) (xs : List X) (x : X) → Contains xs x → t x ≡ true → (y : X)
    × (find t xs ≡ Some y)
find_some t [] x (k, within, e) on = absurd (omega arith)
find_some {X} t (y ∷ ys) x h on = by (t y) refl (λ off. find_some t ys x (later off h) on)
  where
    later : t y ≡ false → Contains (y ∷ ys) x → Contains ys x
    later off (zero, within, e) = absurd (true≢false (sym on ∙ ap t (sym e) ∙ off))
    later off (suc k, within, e) = (k, omega (arith, within), e)

    by : (b : Bool) → t y ≡ b → (t y ≡ false → (z : X) × (find t ys ≡ Some z)) → (z : X)
        × (find t (y ∷ ys) ≡ Some z)
    by true e rest = (
      y,
      cond_both (t y) (Some y) (find t ys) (λ o. o ≡ Some y) (λ on. refl)
          (λ off. absurd (true≢false (sym e ∙ off))),
    )
    by false e rest =
        let r = rest e in (
          r.0,
          cond_both (t y) (Some y) (find t ys) (λ o. o ≡ Some r.0)
              (λ on. absurd (true≢false (sym on ∙ e))) (λ off. r.1),
        )

-- each entry was allowed
entry_allowed : (may : Needs Value) (list : List (Entry Value)) (u : ℕ) (v : Value)
    → IsAllowed may list → lookup list u ≡ Some v
    → (f : ℕ → Option Value) × (may f u v ≡ true)
entry_allowed may [] u v allowed e = absurd (let no : None ≡ Some v = e in cc)
entry_allowed may (n ∷ ns) u v allowed e =
    cond_both (eqb n.path u) (Some n.value) (lookup ns u)
    (λ o. o ≡ Some v → (f : ℕ → Option Value) × (may f u v ≡ true))
    (λ same h. (
      lookup ns,
      subst (λ x. may (lookup ns) u x ≡ true) (value_is n.value v h)
          (subst (λ p. may (lookup ns) p n.value ≡ true) (eqb-true n.path u same) allowed.1),
    ))
    (λ other h. entry_allowed may ns u v allowed.2 h) e
  where
    value_is : (a b : Value) → Some a ≡ Some b → a ≡ b
    value_is a b e = cc

-- equal signatures pass the test
signed_alike : (a b : Dep) → a ≡ b → same_signature a b ≡ true
signed_alike a b e =
    and_from (bytes_eq a.path b.path && bytes_eq a.name b.name) (bytes_eq a.digest b.digest)
    (and_from (bytes_eq a.path b.path) (bytes_eq a.name b.name)
    (equal_bytes a.path b.path (ap (λ (d : Dep). d.path) e))
    (equal_bytes a.name b.name (ap (λ (d : Dep). d.name) e)))
    (equal_bytes a.digest b.digest (ap (λ (d : Dep). d.digest) e))

module _ (division : Division) (weights : List ℕ) (acts : List (Act Value)) (w : World)
    (made : IsMade division weights)
    (of : (w.division ≡ division) × (w.weights ≡ weights)) (local : AreLocal w)
    (m : Matches w (after_all_acts division weights acts))
    (k : ℕ) (x : WorldNode) (stands : slice_get w.nodes k ≡ Some x) where
  -- the cluster after the acts
  abbrev here : Cluster Value
  here = after_all_acts division weights acts

  abbrev s : State
  s = member_at w k x

  its_made : IsMade w.division w.weights
  its_made = made_here division weights acts w made of local m

  -- what the node holds of a unit, its member in the theory holds
  held_there : (q : ℕ) (v : Value) → (facts_at s q).held ≡ Some v → held_by here k q ≡ Some v
  held_there q v e = ap (λ (z : Member Value). z.held)
      (m.members k q x stands (held_within division weights acts w made of m local k q x v stands
      e)) ∙ e

  -- what is held has the records of the unit's packages
  pub held_records : (q : ℕ) (v : Value) → (facts_at s q).held ≡ Some v
      → are_records_of w.division.tree (unit_at w.division q) (unit_at w.division q).packages v ≡
      true
  held_records q v e =
      let o = in_order division weights acts w made of m in
      let listed = held_listed Value (is_majority weights) (majorities weights) (may_build division)
      (needs_are_monotone division)
      (WasBuilt (is_majority weights) (may_build division) acts beginning) here o k q v
      (held_there q v e) in
      let a = entry_allowed (may_build division) here.list q v o.allowed listed in
      subst (λ (d : Division). are_records_of d.tree (unit_at d q) (unit_at d q).packages v ≡ true)
      (sym of.0) (are_records division made.divided a.0 q v a.1)

  -- so a package that the member holds has a record there
  pub has_its_record : (p : ℕ) → p < length w.division.tree → holds_package s p ≡ true
      → (r : Content) × (held_record s (path_at w.division.tree p) ≡ Some r)
  has_its_record p lt held = by (number_of w.division p) refl held
    where
      path : Text
      path = path_at w.division.tree p

      found : unit_with w.division path ≡ number_of w.division p
      found = ap (option_and_then (number_of w.division))
          (has_position w.division.tree path p its_made.divided.tree lt refl)

      of_build : (q : ℕ) → number_of w.division p ≡ Some q → (o : Option Value)
          → (facts_at s q).held ≡ o → is_some o ≡ true → (r : Content)
          × (held_record s path ≡ Some r)
      of_build q e None is some = absurd (true≢false (sym some))
      of_build q e (Some v) is some =
          let at = position-Some (λ (u : Unit). is_in u.packages p) w.division.units q no_unit e in
          let r = has_record w.division.tree (unit_at w.division q) (unit_at w.division q).packages
          v (held_records q v is) p
          (in_contains (unit_at w.division q).packages p at.1) in
          let f = find_some (λ (c : Content). bytes_eq c.path path) v r.0 r.1
          (equal_bytes (r.0).path path (r.2).path) in (
            f.0,
            ap (option_and_then (λ u. option_and_then (record_in path) (facts_at s u).held))
                (found ∙ e) ∙ ap (option_and_then (record_in path)) is ∙ f.1,
          )

      by : (o : Option ℕ) → number_of w.division p ≡ o → is_held_any s o ≡ true → (r : Content)
          × (held_record s path ≡ Some r)
      by None e held = absurd (true≢false (sym held))
      by (Some q) e held = of_build q e (facts_at s q).held refl held

  module _ (u : ℕ) (within : u < length w.division.units)
      (ready : All (λ p. holds_package s p ≡ true) (unit_at w.division u).build) (host : ℕ)
      (c : Claim) (given : Given) where
    abbrev job : Task
    job = job_of s u host c

    -- the job has the signatures of everything that the build needs
    signs_all : map (λ (d : Dep). d.path) (deps_of s u) ≡ set_of
        (map (path_at w.division.tree) (unit_at w.division u).build)
    signs_all = jobs_have_all s u (λ i d lt.
        has_its_record _ ((unit_good w.division u its_made.divided within).needs.within i d lt)
        (ready i d lt))

    -- so the records are those of the unit's packages
    recorded : (ps : List ℕ) → are_records_of w.division.tree (unit_at w.division u) ps
        (map (record_by w.division.tree job given) ps) ≡ true
    recorded [] = refl
    recorded (p ∷ ps) =
        and_from (is_record_of w.division.tree (unit_at w.division u) p
        (record_by w.division.tree job given p))
        (are_records_of w.division.tree (unit_at w.division u) ps
        (map (record_by w.division.tree job given) ps))
        (record_told w.division.tree (unit_at w.division u) p
        (record_by w.division.tree job given p)
        (record { path = refl; name = refl; built = signs_all; run = refl }))
        (recorded ps)

    -- each signature is that of a held package
    is_signed_there : (d : Dep) (r : Content) → held_record s d.path ≡ Some r → d ≡ signature r
        → is_signed (option_and_then (held_by here k) (unit_with w.division d.path)) d ≡ true
    is_signed_there d r e same = by (unit_with w.division d.path) e
      where
        of_build : (q : ℕ) (o : Option Value) → (facts_at s q).held ≡ o
            → option_and_then (record_in d.path) o ≡ Some r → is_signed (held_by here k q) d ≡ true
        of_build q None is e = absurd (let no : None ≡ Some r = e in cc)
        of_build q (Some v) is e =
            let f = find_is (λ (c : Content). bytes_eq c.path d.path) v r e in
            subst (λ o. is_signed o d ≡ true) (sym (held_there q v is))
            (list_any_at (λ (c : Content). same_signature (signature c) d) v (f.0).0 r (f.0).1
            (subst (λ (c : Content). same_signature (signature c) d ≡ true) (sym (f.0).2)
            (signed_alike (signature r) d (sym same))))

        by : (o : Option ℕ) → option_and_then
            (λ u. option_and_then (record_in d.path) (facts_at s u).held) o ≡ Some r
            → is_signed (option_and_then (held_by here k) o) d ≡ true
        by None e = absurd (let no : None ≡ Some r = e in cc)
        by (Some q) e = of_build q (facts_at s q).held refl e

    stand : (ps : List ℕ) → list_all (stands_on w.division (held_by here k))
        (map (record_by w.division.tree job given) ps) ≡ true
    stand [] = refl
    stand (p ∷ ps) =
        and_from (stands_on w.division (held_by here k) (record_by w.division.tree job given p))
        (list_all (stands_on w.division (held_by here k))
        (map (record_by w.division.tree job given) ps))
        (passes (λ d. is_signed (option_and_then (held_by here k) (unit_with w.division d.path)) d)
        (deps_of s u)
        (λ d h. let b = All-contains (λ d. (r : Content) × (held_record s d.path ≡ Some r)
        × (d ≡ signature r)) (deps_of s u) d (builds_stand s u) h in
        is_signed_there d b.0 b.1 b.2))
        (stand ps)

    -- What is made by the job is allowed.
    pub made_may_be_built : may_build division (held_by here k) u (build_by s u job given) ≡ true
    made_may_be_built = subst (λ (d : Division). may_build d (held_by here k) u
        (build_by s u job given) ≡ true) of.0
        (and_from (are_records_of w.division.tree (unit_at w.division u)
        (unit_at w.division u).packages (build_by s u job given))
        (list_all (stands_on w.division (held_by here k)) (build_by s u job given))
        (recorded (unit_at w.division u).packages) (stand (unit_at w.division u).packages))
