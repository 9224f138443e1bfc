-- A unit is found by its name, since the names of units are distinct.
use Rattle.std.proofs.Common.{◌≡◌, ◌==◌, ◌&&◌, ◌<◌, not, ℕ, Bool, true, false, List, [], ◌∷◌, Option, None, Some, ⊎_elim, refl, sym, subst, ap, ◌∙◌, arith, cond, eqb-true, filter, get_or, length, nat_le, nat_lt, position}
use Rattle.std.proofs.lemmas.Bool.{and_from, and_parts, cond-true, false≢true, leb-true, lt-ltb, ltb-true}
use Rattle.std.proofs.lemmas.List.{get_or-map, length-map}
use Rattle.std.proofs.lemmas.List.Elements.{All-get_or}
use Rattle.std.proofs.lemmas.List.Kept.{AllPairs-filter}
use Rattle.std.proofs.lemmas.List.Sums.{AllPass-from_list_all, position_or_len_is}
use Rattle.std.proofs.lemmas.Map.Views.{any-filter_same}
use Rattle.std.proofs.lemmas.Slice.Eq.{bytes_eq-Decides}
use Rattle.std.specs.List.{list_all}
use Rattle.std.specs.Str.{bytes_eq}
use Rattle.faults.specs.Bytes.{Text}
use Rattle.listing.proofs.Without.{without-once}
use Rattle.listing.specs.PkgPath.{IsPath, without_subpackage}
use Rattle.listing.specs.Tree.{IsTree, Tree, group_at, no_package, path_at}
use Rattle.engine.specs.Division.{Division, IsDivision, no_unit, number_named, unit_at}
use Rattle.engine.proofs.Lists.{in_range, kept_all, kept_pass, not_true, passes, range_below, range_rising}
use Rattle.engine.specs.Units.{Unit, is_in, is_least, made_with, name_of, positions, unit_with, units_with}

-- ---- a unit's name determines its group

-- what determines a group, from a path in it and from the name of its unit
pub record Tells (tree : Tree) : Type 0 where
  pub group_of : Text → Text
  pub path : (p : ℕ) → p < length tree → group_of (path_at tree p) ≡ group_at tree p
  pub group : (p : ℕ) → p < length tree → group_of (group_at tree p) ≡ group_at tree p

pub tells : (tree : Tree) → IsTree tree → Tells tree
tells tree is = ⊎_elim
    (λ grouped.
    let at : (p : ℕ) → p < length tree → group_at tree p ≡ without_subpackage (path_at tree p) =
    λ p lt. All-get_or (λ x. x.group ≡ without_subpackage x.path) tree p no_package lt grouped in
    record {
      group_of = without_subpackage;
      path = λ p lt. sym (at p lt);
      group = λ p lt.
          ap without_subpackage (at p lt)
          ∙ without-once (path_at tree p) (All-get_or (λ x. IsPath x.path) tree p no_package lt is.paths)
          ∙ sym (at p lt);
    })
    (λ single. record {
      group_of = λ t. t;
      path = λ p lt. sym (All-get_or (λ x. x.group ≡ x.path) tree p no_package lt single);
      group = λ p lt. refl;
    })
    is.groups

module _ (tree : Tree) (is : IsTree tree) (ignored : ℕ → Bool) where
  -- the test for packages that are made with the one at p
  abbrev is_with : ℕ → ℕ → Bool
  is_with p q = bytes_eq (group_at tree q) (group_at tree p) && not (ignored q)

  name_of_tells : (p : ℕ) (qs : List ℕ) → list_all (is_with p) qs ≡ true → list_all (λ q. nat_lt q (length tree)) qs ≡ true → is_in qs p ≡ true
      → (tells tree is).group_of (name_of tree qs) ≡ group_at tree p
  name_of_tells p [] with_p below e = absurd (false≢true e)
  name_of_tells p (q ∷ []) with_p below e =
      let same = (bytes_eq-Decides (group_at tree q) (group_at tree p)).0 (and_parts _ (not (ignored q)) (and_parts (is_with p q) _ with_p).0).0 in
      (tells tree is).path q (ltb-true q (length tree) (and_parts _ _ below).0) ∙ same
  name_of_tells p (q ∷ r ∷ qs) with_p below e =
      let same = (bytes_eq-Decides (group_at tree q) (group_at tree p)).0 (and_parts _ (not (ignored q)) (and_parts (is_with p q) _ with_p).0).0 in
      (tells tree is).group q (ltb-true q (length tree) (and_parts _ _ below).0) ∙ same

  -- a listed package that is not ignored is made with itself and with all of its group
  is_made : (p q : ℕ) → q < length tree → ignored q ≡ false → group_at tree q ≡ group_at tree p → is_in (made_with tree ignored p) q ≡ true
  is_made p q lt free same =
      any-filter_same (λ j. j == q) (is_with p) (is_with p q) (λ j t. ap (is_with p) (eqb-true j q t)) (positions tree)
      ∙ and_from (is_with p q) (is_in (positions tree) q) (and_from _ _ ((bytes_eq-Decides (group_at tree q) (group_at tree p)).1 same) (ap not free)) (in_range 0 (length tree) q (omega arith) (omega (arith, lt)))

  pub unit_tells : (p : ℕ) → p < length tree → ignored p ≡ false → (tells tree is).group_of (unit_with tree ignored p).name ≡ group_at tree p
  unit_tells p lt free =
      name_of_tells p (made_with tree ignored p) (kept_pass (is_with p) (positions tree))
      (kept_all (λ q. nat_lt q (length tree)) (is_with p) (positions tree) (range_below 0 (length tree) (length tree) (omega arith)))
      (is_made p p lt free refl)

  not_ignored : (p : ℕ) → is_least tree ignored p ≡ true → ignored p ≡ false
  not_ignored p least = not_true (ignored p) (λ e. false≢true (sym (ap not e) ∙ (and_parts (not (ignored p)) _ least).0))

  -- the lowest packages of two units with equal names are equal
  one_least : (p q : ℕ) → p < length tree → q < length tree → is_least tree ignored p ≡ true → is_least tree ignored q ≡ true
      → (unit_with tree ignored p).name ≡ (unit_with tree ignored q).name → p ≡ q
  one_least p q ltp ltq leastp leastq same =
      let freep = not_ignored p leastp in
      let freeq = not_ignored q leastq in
      let group = sym (unit_tells p ltp freep) ∙ ap (tells tree is).group_of same ∙ unit_tells q ltq freeq in
      let low = leb-true p q (passes (nat_le p) (made_with tree ignored p) q (and_parts (not (ignored p)) _ leastp).1 (is_made p q ltq freeq (sym group))) in
      let high = leb-true q p (passes (nat_le q) (made_with tree ignored q) p (and_parts (not (ignored q)) _ leastq).1 (is_made q p ltp freep group)) in
      omega (arith, low, high)

  -- the lowest package of each unit, in order
  abbrev leasts : List ℕ
  leasts = filter (is_least tree ignored) (positions tree)

  found_among : (k : ℕ) → k < length (units_with tree ignored)
      → position (λ u. bytes_eq u.name (get_or (units_with tree ignored) k no_unit).name) (units_with tree ignored) ≡ Some k
  found_among k lt =
      let us = units_with tree ignored in
      let len = length-map leasts (unit_with tree ignored) in
      let test : Unit → Bool = λ u. bytes_eq u.name (get_or us k no_unit).name in
      let at : (j : ℕ) → j < length us → get_or us j no_unit ≡ unit_with tree ignored (get_or leasts j 0) =
      λ j within. get_or-map (unit_with tree ignored) leasts j 0 no_unit (omega (arith, within, len)) in
      let below : (j : ℕ) → j < length us → get_or leasts j 0 < length tree =
      λ j within. ltb-true _ (length tree) (AllPass-from_list_all (λ q. nat_lt q (length tree)) leasts
      (kept_all _ (is_least tree ignored) (positions tree) (range_below 0 (length tree) (length tree) (omega arith))) j 0 (omega (arith, within, len))) in
      let least : (j : ℕ) → j < length us → is_least tree ignored (get_or leasts j 0) ≡ true =
      λ j within. AllPass-from_list_all (is_least tree ignored) leasts (kept_pass (is_least tree ignored) (positions tree)) j 0 (omega (arith, within, len)) in
      let rising = AllPairs-filter (λ x y. x < y) (is_least tree ignored) (positions tree) (range_rising (length tree)) in
      let earlier : (j : ℕ) → j < k → test (get_or us j no_unit) ≡ false =
      λ j before.
      let within : j < length us = omega (arith, before, lt) in
      not_true _ (λ e.
      let names = (bytes_eq-Decides (get_or us j no_unit).name (get_or us k no_unit).name).0 e in
      let same = one_least (get_or leasts j 0) (get_or leasts k 0) (below j within) (below k lt) (least j within) (least k lt)
      (sym (ap (λ u. u.name) (at j within)) ∙ names ∙ ap (λ u. u.name) (at k lt)) in
      let up = rising j k 0 before (omega (arith, lt, len)) in
      omega (arith, same, up)) in
      let first = position_or_len_is test us k no_unit (omega (arith, lt)) earlier (λ w. (bytes_eq-Decides (get_or us k no_unit).name (get_or us k no_unit).name).1 refl) in
      ap (λ i. cond (nat_lt i (length us)) (Some i) None) first ∙ cond-true (nat_lt k (length us)) _ _ (lt-ltb k (length us) lt)

-- a unit is found by its name
pub name_is_found : (d : Division) (k : ℕ) → IsDivision d → k < length d.units → number_named d (unit_at d k).name ≡ Some k
name_is_found d k is lt =
    let P : List Unit → Type 0 = λ us. k < length us → position (λ u. bytes_eq u.name (get_or us k no_unit).name) us ≡ Some k in
    subst P (sym is.units.are) (found_among d.tree is.tree is.units.ignored k) lt

-- the number that is found; read only if one is
abbrev found_or : ℕ → Option ℕ → ℕ
found_or j None = j
found_or j (Some k) = k

-- units with equal names are equal
pub name_tells : (d : Division) (j k : ℕ) → IsDivision d → j < length d.units → k < length d.units → (unit_at d j).name ≡ (unit_at d k).name → j ≡ k
name_tells d j k is ltj ltk same = ap (found_or j) (sym (name_is_found d j is ltj) ∙ ap (number_named d) same ∙ name_is_found d k is ltk)
