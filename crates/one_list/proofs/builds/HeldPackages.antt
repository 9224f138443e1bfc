-- What nodes hold is in the list.
use Rattle.std.proofs.Common.{◌≡◌, ◌<◌, ◌==◌, ℕ, zero, suc, Bool, true, List, [], ◌∷◌, ◌++◌, length, Option, None, Some, find, option_and_then, slice_get, refl, sym, ap, subst, ◌∙◌, arith, ⊎_elim}
use Rattle.std.specs.Prelude.{All, Contains}
use Rattle.std.specs.Str.{bytes_eq}
use Rattle.std.proofs.lemmas.Bool.{cases_lt, cond_both}
use Rattle.std.proofs.lemmas.List.{get_or_past}
use Rattle.std.proofs.lemmas.List.Elements.{All-contains, All-contains_itself, All-weaker, Contains-append_left, Contains-append_right}
use Rattle.faults.specs.Bytes.{Text}
use Rattle.claims.specs.AgreedList.{Act, Cluster, Entry, WasBuilt, beginning, held_by, lookup}
use Rattle.claims.specs.Member.{Facts, Member, no_facts}
use Rattle.claims.specs.Quorums.{is_majority}
use Rattle.claims.proofs.AgreedList.{held_listed}
use Rattle.claims.proofs.Majorities.{majorities}
use Rattle.package_record.specs.Content.{Content}
use Rattle.protocol.specs.State.{Value, facts_at, record_in, unit_with}
use Rattle.engine.specs.Division.{Division}
use Rattle.engine.proofs.Places.{same_bytes}
use Rattle.world.specs.Headline.{HeldIsListed, holds}
use Rattle.world.specs.World.{IsMade, World, WorldNode, member_at}
use Rattle.one_list.specs.Local.{AreLocal}
use Rattle.one_list.specs.Matches.{Matches, packages_of}
use Rattle.one_list.specs.Mirrored.{after_all_acts}
use Rattle.one_list.specs.Needs.{may_build}
use Rattle.one_list.proofs.nodes.EqualParts.{some_same}
use Rattle.one_list.proofs.sent.MessageHeaders.{in_order}
use Rattle.one_list.proofs.nodes.NodesAsMembers.{node_is_member}
use Rattle.one_list.proofs.sent.MonotoneNeeds.{needs_are_monotone}

-- the packages of each entry are in the list
pub entry_listed : (list : List (Entry Value)) (u : ℕ) (v : Value) → lookup list u ≡ Some v
    → All (Contains (packages_of list)) v
entry_listed [] u v e = absurd (let wrong : None ≡ Some v = e in cc)
entry_listed (e ∷ es) u v h =
    cond_both (e.path == u) (Some e.value) (lookup es u)
    (λ o. o ≡ Some v → All (Contains (packages_of es ++ e.value)) v)
    (λ same h. subst (All (Contains (packages_of es ++ e.value))) (some_same e.value v h)
    (λ k d lt. Contains-append_right (packages_of es) e.value _
    (All-contains_itself e.value k d lt)))
    (λ other h. All-weaker (Contains (packages_of es)) (Contains (packages_of es ++ e.value))
    (λ r m. Contains-append_left (packages_of es) e.value r m) v (entry_listed es u v h)) h

-- what is found is an element that passes
pub find_is : {X : Type 0} (t : X → Bool) (xs : List X) (x : X) → find t xs ≡ Some x → Contains xs x
    × (t x ≡ true)
find_is t [] x e = absurd (let wrong : None ≡ Some x = e in cc)
find_is {X} t (y ∷ ys) x e =
    cond_both (t y) (Some y) (find t ys) (λ o. o ≡ Some x → Contains (y ∷ ys) x × (t x ≡ true))
    (λ on h. let same = some_same y x h in ((zero, omega arith, same), ap t (sym same) ∙ on))
    (λ off h. let r = find_is t ys x h in ((suc (r.0).0, omega (arith, (r.0).1), (r.0).2), r.1)) e

module _ (division : Division) (weights : List ℕ) (acts : List (Act Value)) (w : World)
    (made : IsMade division weights)
    (of : (w.division ≡ division) × (w.weights ≡ weights))
    (m : Matches w (after_all_acts division weights acts)) (local : AreLocal w) where
  -- the cluster after the acts
  abbrev here : Cluster Value
  here = after_all_acts division weights acts

  made_here : IsMade w.division w.weights
  made_here = subst (λ (d : Division). IsMade d w.weights) (sym of.0)
      (subst (IsMade division) (sym of.1) made)

  -- nothing is known of a number that isn't a unit's
  pub held_within : (k u : ℕ) (x : WorldNode) (build : Value) → slice_get w.nodes k ≡ Some x
      → (facts_at (member_at w k x) u).held ≡ Some build → u < length w.division.units
  held_within k u x build stands e = ⊎_elim (λ lt. lt)
      (λ past. absurd (
      let each = (node_is_member w made_here local k x stands).each in
      let none : facts_at (member_at w k x) u ≡ no_facts =
      get_or_past (member_at w k x).facts u no_facts (omega (arith, past, each)) in
      let wrong : None ≡ Some build = sym (ap (λ (f : Facts Value). f.held) none) ∙ e in cc))
      (cases_lt u (length w.division.units))

  -- each package of a held build is in the list
  builds_listed : (k u : ℕ) (x : WorldNode) (build : Value) → slice_get w.nodes k ≡ Some x
      → (facts_at (member_at w k x) u).held ≡ Some build → All (Contains w.agreed) build
  builds_listed k u x build stands e =
      let lt = held_within k u x build stands e in
      let there : held_by here k u ≡ Some build =
      ap (λ (z : Member Value). z.held) (m.members k u x stands lt) ∙ e in
      subst (λ (l : List Content). All (Contains l) build) (sym m.list)
      (entry_listed here.list u build
      (held_listed Value (is_majority weights) (majorities weights) (may_build division)
      (needs_are_monotone division)
      (WasBuilt (is_majority weights) (may_build division) acts beginning) here
      (in_order division weights acts w made of m) k u build there))

  -- each package found by its path is in the list
  package_listed : (k : ℕ) (x : WorldNode) (path : Text) (r : Content)
      → slice_get w.nodes k ≡ Some x
      → holds w k x path ≡ Some r → (r.path ≡ path) × Contains w.agreed r
  package_listed k x path r stands e = by (unit_with w.division path) e
    where
      of_build : (u : ℕ) (held : Option Value) → (facts_at (member_at w k x) u).held ≡ held
          → option_and_then (record_in path) held ≡ Some r → (r.path ≡ path) × Contains w.agreed r
      of_build u None is e = absurd (let wrong : None ≡ Some r = e in cc)
      of_build u (Some build) is e =
          let f = find_is (λ (r : Content). bytes_eq r.path path) build r e in (
            same_bytes r.path path f.1,
            All-contains (Contains w.agreed) build r
                (builds_listed k u x build stands is) f.0,
          )

      by : (u : Option ℕ) → option_and_then (λ u. option_and_then (record_in path)
          (facts_at (member_at w k x) u).held) u ≡ Some r
          → (r.path ≡ path) × Contains w.agreed r
      by None e = absurd (let wrong : None ≡ Some r = e in cc)
      by (Some u) e = of_build u (facts_at (member_at w k x) u).held refl e

  -- Each package that a node holds, up or down, is in the list.
  pub held_is_listed : HeldIsListed w
  held_is_listed = record {
    builds = λ k u x build stands e. builds_listed k u x build stands e;
    paths = λ k x path r stands e. package_listed k x path r stands e;
  }
