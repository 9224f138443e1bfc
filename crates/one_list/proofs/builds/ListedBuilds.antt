-- Each package of the list was built by an event and fits the tree, and an audit accepts the list.
use Rattle.std.proofs.Common.{◌≡◌, ◌<◌, ◌&&◌, ℕ, suc, true, List, [], ◌∷◌, length, get_or, Option, None, Some, option_and_then, eqb, eq-eqb, refl, sym, ap, subst, ◌∙◌, arith, ⊎_elim}
use Rattle.std.specs.Prelude.{All, Contains}
use Rattle.std.specs.List.{list_all}
use Rattle.std.specs.Str.{bytes_eq}
use Rattle.std.proofs.lemmas.Bool.{and_parts, cond-false, cond-true, ne_eqb, true≢false}
use Rattle.std.proofs.lemmas.List.Elements.{All-contains, Contains-append_cases}
use Rattle.std.proofs.lemmas.List.Folds.{Any-from_list_any}
use Rattle.std.proofs.lemmas.List.Sums.{AllPass-from_list_all}
use Rattle.claims.specs.AgreedList.{Entry, IsAllowed, lookup}
use Rattle.auditing.specs.Fits.{Fits}
use Rattle.claims.specs.declared.deps.Dep.{Dep}
use Rattle.engine.proofs.Together.{not_ignored}
use Rattle.package_record.specs.Content.{Content}
use Rattle.protocol.specs.Jobs.{signature}
use Rattle.protocol.specs.State.{Value, unit_with}
use Rattle.engine.specs.Division.{Division, IsDivision, unit_at}
use Rattle.engine.proofs.Kept.{unit_listed}
use Rattle.engine.proofs.Places.{has_position, same_bytes}
use Rattle.engine.proofs.WellMade.{one_unit_has}
use Rattle.world.specs.Headline.{HasSignature}
use Rattle.one_list.specs.Matches.{packages_of}
use Rattle.one_list.specs.Needs.{are_records_of, is_signed, may_build, same_signature, stands_on}
use Rattle.one_list.proofs.builds.HeldPackages.{entry_listed}
use Rattle.one_list.proofs.builds.UnitRecords.{are_records, record_of}

-- ---- entries

-- the package is of an entry
pub record IsOfEntry (list : List (Entry Value)) (r : Content) : Type 0 where
  pub unit : ℕ
  pub build : Value
  pub entry : lookup list unit ≡ Some build
  pub there : Contains build r

pub of_entry : (division : Division) (list : List (Entry Value))
    → IsAllowed (may_build division) list → (r : Content) → Contains (packages_of list) r
    → IsOfEntry list r
of_entry division [] allowed r (k, within, e) = absurd (omega arith)
of_entry division (n ∷ ns) allowed r h = ⊎_elim
    (λ old. let o = of_entry division ns allowed.2 r old in record {
      unit = o.unit;
      build = o.build;
      entry = cond-false (eqb n.path o.unit) (Some n.value) (lookup ns o.unit)
          (ne_eqb n.path o.unit (λ same.
          let none : lookup ns o.unit ≡ None = ap (lookup ns) (sym same) ∙ allowed.0 in
          let wrong : None ≡ Some o.build = sym none ∙ o.entry in cc)) ∙ o.entry;
      there = o.there;
    })
    (λ new. record {
      unit = n.path;
      build = n.value;
      entry = cond-true (eqb n.path n.path) (Some n.value) (lookup ns n.path)
          (eq-eqb n.path n.path refl);
      there = new;
    })
    (Contains-append_cases (packages_of ns) n.value r h)

-- signatures that pass the test are equal
pub signatures_same : (a b : Dep) → same_signature a b ≡ true → a ≡ b
signatures_same a b e =
    let x = and_parts (bytes_eq a.path b.path && bytes_eq a.name b.name)
    (bytes_eq a.digest b.digest) e in
    let y = and_parts (bytes_eq a.path b.path) (bytes_eq a.name b.name) x.0 in
    let path = same_bytes a.path b.path y.0 in
    let name = same_bytes a.name b.name y.1 in
    let digest = same_bytes a.digest b.digest x.1 in
    λ i. record { path = path i; name = name i; digest = digest i }

-- what a record depends on is in the list with exactly that signature, if its build is allowed on
-- the list
pub stands_listed : (division : Division) (list : List (Entry Value)) (u : ℕ) (build : Value)
    → may_build division (lookup list) u build ≡ true
    → (r : Content) → Contains build r → All (HasSignature (packages_of list)) r.built
stands_listed division list u build may r h k d lt =
    let all = (and_parts
    (are_records_of division.tree (unit_at division u) (unit_at division u).packages build)
    (list_all (stands_on division (lookup list)) build) may).1 in
    let mine = All-contains (λ r. stands_on division (lookup list) r ≡ true) build r
    (AllPass-from_list_all (stands_on division (lookup list)) build all) h in
    by (get_or r.built k d) (AllPass-from_list_all
    (λ d. is_signed (option_and_then (lookup list) (unit_with division d.path)) d) r.built mine
    k d lt)
  where
    of_build : (d : Dep) (q : ℕ) (o : Option Value) → lookup list q ≡ o → is_signed o d ≡ true
        → HasSignature (packages_of list) d
    of_build d q None is e = absurd (true≢false (sym e))
    of_build d q (Some v) is e =
        let a = Any-from_list_any (λ (c : Content). same_signature (signature c) d) v e in (
          a.1,
          subst (Contains (packages_of list)) a.3 (entry_listed list q v is a.0 a.1 a.2),
          signatures_same (signature a.1) d a.4,
        )

    by : (d : Dep) → is_signed (option_and_then (lookup list) (unit_with division d.path)) d ≡ true
        → HasSignature (packages_of list) d
    by d e = by_unit (unit_with division d.path) e
      where
        by_unit : (o : Option ℕ) → is_signed (option_and_then (lookup list) o) d ≡ true
            → HasSignature (packages_of list) d
        by_unit None e = absurd (true≢false (sym e))
        by_unit (Some q) e = of_build d q (lookup list q) refl e

-- ---- packages fit the tree

module _ (division : Division) (is : IsDivision division) where
  -- a record of a build that is allowed for a unit fits the tree
  pub record_fits : (f : ℕ → Option Value) (u : ℕ) (build : Value) → u < length division.units
      → may_build division f u build ≡ true → (r : Content) → Contains build r
      → Fits division.tree r.path r.name r.built r.run
  record_fits f u build lt may r h =
      let o = record_of division.tree (unit_at division u) (unit_at division u).packages build
      (are_records division is f u build may) r h in
      let one = one_unit_has division u o.0 is lt o.1 in record {
        position = o.0;
        listed = has_position division.tree r.path o.0 is.tree
            (unit_listed division u o.0 is lt o.1) (sym (o.2).path);
        not_ignored = not_ignored division.tree o.0 (unit_at division u) one.1;
        name_is = (o.2).name;
        unit = unit_at division u;
        of_unit = one.1;
        built_on = (o.2).built;
        runs_on = (o.2).run;
      }

  -- so all packages in the list fit the tree
  pub list_fits : (list : List (Entry Value)) → IsAllowed (may_build division) list
      → All (λ n. n.path < length division.units) list
      → (r : Content) → Contains (packages_of list) r
      → Fits division.tree r.path r.name r.built r.run
  list_fits [] allowed units r (k, within, e) = absurd (omega arith)
  list_fits (n ∷ ns) allowed units r h = ⊎_elim
      (λ old. list_fits ns allowed.2 (λ k d lt. units (suc k) d (omega (arith, lt))) r old)
      (λ new. record_fits (lookup ns) n.path n.value (units 0 n (omega arith)) allowed.1 r new)
      (Contains-append_cases (packages_of ns) n.value r h)
