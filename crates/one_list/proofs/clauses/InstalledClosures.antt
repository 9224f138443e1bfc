-- A node that shows a path as installable holds all of the path's run closure.
use Rattle.std.proofs.Common.{◌≡◌, ℕ, Bool, true, false, List, map, Option, None, Some, option_and_then, slice_get, refl, sym, ap, subst, ◌∙◌}
use Rattle.std.specs.Prelude.{All, Contains, filter, is_some}
use Rattle.std.specs.FinSet.{contains-from_list_nat}
use Rattle.std.specs.Str.{bytes_eq}
use Rattle.std.proofs.lemmas.Bool.{and_parts, true≢false}
use Rattle.std.proofs.lemmas.List.Elements.{Contains-get_or}
use Rattle.faults.specs.Bytes.{Text}
use Rattle.faults.specs.Pieces.{set_of}
use Rattle.faults.proofs.Sets.{from_set}
use Rattle.claims.specs.AgreedList.{Act}
use Rattle.engine.specs.Letters.{IsInstallable}
use Rattle.engine.specs.State as engine
use Rattle.engine.proofs.Dependents.{run_listed}
use Rattle.listing.specs.Tree.{IsTree, Tree, path_at, position_of, run_at}
use Rattle.package_record.specs.Content.{Content}
use Rattle.protocol.specs.State.{State, Value, engine_of, facts_at, held_record, holds_package, record_in, unit_with}
use Rattle.engine.specs.Division.{Division, IsDivision, unit_at}
use Rattle.engine.specs.Units.{is_in, positions}
use Rattle.engine.proofs.Kept.{unit_listed}
use Rattle.engine.proofs.Lists.{in_kept}
use Rattle.engine.proofs.Places.{has_position, listed_at, same_bytes}
use Rattle.world.specs.Headline.{InstallableIsHeld, IsClosed, holds}
use Rattle.world.specs.World.{IsMade, World, WorldNode, member_at}
use Rattle.one_list.specs.Local.{AreLocal}
use Rattle.one_list.specs.Matches.{Matches}
use Rattle.one_list.specs.Mirrored.{after_all_acts}
use Rattle.one_list.proofs.builds.BuildableBuilds.{has_its_record, held_records}
use Rattle.one_list.proofs.matching.CutSteps.{made_here}
use Rattle.one_list.proofs.builds.HeldPackages.{find_is, held_within}
use Rattle.one_list.proofs.builds.UnitRecords.{record_of}
use Rattle.one_list.proofs.sent.SentMessages.{has_preimage}

-- whether there is a position and it is in the set
abbrev has_any : (ℕ → Bool) → Option ℕ → Bool
has_any among None = false
has_any among (Some p) = among p

-- what the engine has as agreed is held
agreed_is_held : (s : State) (p : ℕ) → engine.has_agreed (engine_of s) p ≡ true
    → holds_package s p ≡ true
agreed_is_held s p e =
    let all = positions s.division.tree in
    let found = sym (contains-from_list_nat (filter (holds_package s) all) p) ∙ e in
    (and_parts (is_in all p) (holds_package s p) (sym (in_kept (holds_package s) all p) ∙ found)).1

module _ (division : Division) (weights : List ℕ) (acts : List (Act Value)) (w : World)
    (made : IsMade division weights)
    (of : (w.division ≡ division) × (w.weights ≡ weights)) (local : AreLocal w)
    (m : Matches w (after_all_acts division weights acts)) where
  tree_is : IsTree w.division.tree
  tree_is = (made_here division weights acts w made of local m).divided.tree

  divided : IsDivision w.division
  divided = (made_here division weights acts w made of local m).divided

  module _ (k : ℕ) (x : WorldNode) (stands : slice_get w.nodes k ≡ Some x) where
    abbrev s : State
    s = member_at w k x

    abbrev tree : Tree
    tree = w.division.tree

    -- a held record names its package's run dependencies
    record_runs : (path : Text) (r : Content) (p : ℕ) → held_record s path ≡ Some r
        → position_of tree path ≡ Some p → r.run ≡ set_of (map (path_at tree) (run_at tree p))
    record_runs path r p e at = by (unit_with w.division path) e
      where
        of_build : (u : ℕ) (o : Option Value) → (facts_at s u).held ≡ o
            → option_and_then (record_in path) o ≡ Some r
            → r.run ≡ set_of (map (path_at tree) (run_at tree p))
        of_build u None is e = absurd (let no : None ≡ Some r = e in cc)
        of_build u (Some v) is e =
            let f = find_is (λ (c : Content). bytes_eq c.path path) v r e in
            let o = record_of tree (unit_at w.division u) (unit_at w.division u).packages v
            (held_records division weights acts w made of local m k x stands u v is) r f.0 in
            let lt = held_within division weights acts w made of m local k u x v stands is in
            let here = listed_at tree path p at in
            let same : o.0 ≡ p =
            tree_is.once o.0 p (unit_listed w.division u o.0 divided lt o.1) here.0
            (sym (o.2).path ∙ same_bytes r.path path f.1 ∙ sym here.1) in
            (o.2).run ∙ ap (λ q. set_of (map (path_at tree) (run_at tree q))) same

        by : (o : Option ℕ) → option_and_then
            (λ u. option_and_then (record_in path) (facts_at s u).held) o ≡ Some r
            → r.run ≡ set_of (map (path_at tree) (run_at tree p))
        by None e = absurd (let no : None ≡ Some r = e in cc)
        by (Some u) e = of_build u (facts_at s u).held refl e

    module _ (p : ℕ) (i : IsInstallable tree (engine.has_agreed (engine_of s)) p) where
      -- the paths of the packages that are installable together
      abbrev S : Text → Bool
      S path = has_any i.among (position_of tree path)

      runs_along : (q : ℕ) → i.among q ≡ true → (t : Text)
          → Contains (set_of (map (path_at tree) (run_at tree q))) t → S t ≡ true
      runs_along q there t h =
          let d = has_preimage (path_at tree) (run_at tree q) t
          (from_set (map (path_at tree) (run_at tree q)) t h) in
          ap (has_any i.among) (has_position tree t d.0 tree_is
          (run_listed tree tree_is q d.0 d.1).1 (sym d.2)) ∙ i.closed q d.0 there d.1

      is_closed : IsClosed (holds w k x) S
      is_closed path r there e = by (position_of tree path) refl there
        where
          by : (o : Option ℕ) → position_of tree path ≡ o → has_any i.among o ≡ true
              → All (λ q. S q ≡ true) r.run
          by None at there = absurd (true≢false (sym there))
          by (Some q) at there =
              let runs = record_runs path r q e at in
              subst (All (λ q. S q ≡ true)) (sym runs)
              (λ j d lt. runs_along q there _ (Contains-get_or
              (set_of (map (path_at tree) (run_at tree q))) j d lt))

      all_held : (path : Text) → S path ≡ true → is_some (holds w k x path) ≡ true
      all_held path there = by (position_of tree path) refl there
        where
          by : (o : Option ℕ) → position_of tree path ≡ o → has_any i.among o ≡ true
              → is_some (holds w k x path) ≡ true
          by None at there = absurd (true≢false (sym there))
          by (Some q) at there =
              let here = listed_at tree path q at in
              let r = has_its_record division weights acts w made of local m k x stands q here.0
              (agreed_is_held s q (i.all_held q there)) in
              ap is_some (ap (held_record s) (sym here.1) ∙ r.1)

  -- What a node shows as installable is held, with its whole run closure.
  pub installable_is_held : InstallableIsHeld w
  installable_is_held k p x path q stands up at letter closure =
      let i = letter.1 in
      all_held k x stands p i q (closure (S k x stands p i) (ap (has_any i.among) at ∙ i.member)
      (is_closed k x stands p i))
