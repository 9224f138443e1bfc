-- The units of a tree by number, and the number of each package's unit.
use Rattle.std.proofs.Common.{◌≡◌, ◌<◌, ◌&&◌, not, inl, inr, ℕ, Bool, true, false, List, [], None, Some, length, map, get_or, filter, cond, position, nat_le, refl, sym, ap, subst, ◌∙◌, arith}
use Rattle.std.specs.Prelude.{Contains}
use Rattle.std.specs.List.{list_any, range_with_len}
use Rattle.std.specs.Str.{bytes_eq}
use Rattle.std.proofs.lemmas.Bool.{and_from, and_parts, cases_lt, cond-false, cond-true, false≢true, le-leb, leb-true, not-true}
use Rattle.std.proofs.lemmas.List.{get_or-map, get_or_default, length-map}
use Rattle.std.proofs.lemmas.List.Kept.{IsStrictlyIncreasing-filter}
use Rattle.std.proofs.lemmas.Map.Made.{AllPairs-from_IsDistinct}
use Rattle.std.proofs.lemmas.Slice.Eq.{bytes_eq-Decides}
use Rattle.faults.specs.Bytes.{Text}
use Rattle.listing.specs.Tree.{IsTree, Tree, group_at}
use Rattle.engine.proofs.InOrder.{from_order, into_order}
use Rattle.engine.proofs.Lists.{all_from, and_false, and_true, any_of, any_some, below_in, contains_in, filter_same, in_below, in_contains, in_kept, not_true, passes, position-map, position-never, range_increasing, same_answers}
use Rattle.engine.proofs.OneMore.{covered, groups_distinct, with_from, with_parts}
use Rattle.engine.proofs.Places.{first_place}
use Rattle.engine.specs.Division.{no_unit}
use Rattle.engine.specs.Units.{Unit, is_in, is_least, made_with, positions, unit_from, unit_with, units_with}
use Rattle.engine.specs.inside.Gathering.{firsts, groups_below, is_first, is_with, made_below, place_of}
use Rattle.engine.specs.inside.UnitKeeping.{AreAlike}

module _ (tree : Tree) (ignored : ℕ → Bool) where
  -- the lowest of its unit is the first of its group that is not ignored
  least_is_first : (p : ℕ) → p < length tree → is_least tree ignored p ≡ is_first tree ignored p
  least_is_first p lt = ap (λ b. not (ignored p) && b) (same_answers _ _
      (λ all. ap not (not_true (list_any (is_with tree ignored p) (range_with_len 0 p)) (λ any.
      let some = any_some (is_with tree ignored p) (range_with_len 0 p) any in
      let below = in_below p some.0 some.1 in
      let member = in_kept (is_with tree ignored p) (positions tree) some.0 ∙ and_from _ _ (below_in (length tree) some.0 (omega (arith, below, lt))) some.2 in
      let le = leb-true p some.0 (passes (nat_le p) (made_with tree ignored p) some.0 all member) in
      omega (arith, below, le))))
      (λ none. all_from (nat_le p) (made_with tree ignored p) (λ q member.
      let parts = and_parts _ _ (sym (in_kept (is_with tree ignored p) (positions tree) q) ∙ member) in
      elim (cases_lt q p) [
        | inl below ↦ absurd (false≢true (sym (not-true _ none) ∙ any_of (is_with tree ignored p) (range_with_len 0 p) q (below_in p q below) parts.1))
        | inr above ↦ le-leb p q above
      ])))

  -- the units, by the first packages of their groups
  pub units_are : units_with tree ignored ≡ map (λ p. unit_from tree (made_below tree ignored (length tree) p)) (firsts tree ignored (length tree))
  units_are = ap (map (unit_with tree ignored)) (filter_same (is_least tree ignored) (is_first tree ignored) (positions tree) (λ p member. least_is_first p (in_below (length tree) p member)))

  -- a package is made with another if it is of that one's group and not ignored
  made_in : (f p : ℕ) → p < length tree → is_in (made_with tree ignored f) p ≡ is_with tree ignored f p
  made_in f p lt = in_kept (is_with tree ignored f) (positions tree) p ∙ ap (λ b. b && is_with tree ignored f p) (below_in (length tree) p lt)

  pub made_listed : (f p : ℕ) → Contains (made_with tree ignored f) p → (p < length tree) × (ignored p ≡ false) × (group_at tree p ≡ group_at tree f)
  made_listed f p member =
      let parts = and_parts _ _ (sym (in_kept (is_with tree ignored f) (positions tree) p) ∙ contains_in (made_with tree ignored f) p member) in
      let with = with_parts tree ignored f p parts.1 in
      (in_below (length tree) p parts.0, with.0, with.1)

  pub made_contains : (f p : ℕ) → p < length tree → ignored p ≡ false → group_at tree p ≡ group_at tree f → Contains (made_with tree ignored f) p
  made_contains f p lt free same = in_contains (made_with tree ignored f) p (made_in f p lt ∙ with_from tree ignored f p free same)

  -- the packages of a unit are in one group
  pub made_alike : (p : ℕ) → p < length tree → ignored p ≡ false → AreAlike tree (made_with tree ignored p)
  made_alike p lt free = record {
    some = let member = made_contains p p lt free refl in omega (arith, member.1);
    listed = λ q member. (made_listed p q member).0;
    rising = IsStrictlyIncreasing-filter (is_with tree ignored p) (positions tree) (range_increasing (length tree));
    alike = λ q r mq mr. (made_listed p q mq).2 ∙ sym (made_listed p r mr).2;
  }

  -- packages of one group have one unit
  pub same_unit : (p q : ℕ) → group_at tree p ≡ group_at tree q → unit_with tree ignored p ≡ unit_with tree ignored q
  same_unit p q same = ap (λ g. unit_from tree (filter (λ r. bytes_eq (group_at tree r) g && not (ignored r)) (positions tree))) same

  -- ---- by number

  abbrev pub groups : List Text
  groups = groups_below tree ignored (length tree)

  abbrev pub leasts : List ℕ
  leasts = firsts tree ignored (length tree)

  pub unit_number : (k : ℕ) → k < length (units_with tree ignored) → (k < length leasts) × (get_or (units_with tree ignored) k no_unit ≡ unit_with tree ignored (get_or leasts k 0))
  unit_number k lt =
      let unit : ℕ → Unit = λ p. unit_from tree (made_below tree ignored (length tree) p) in
      let size = length-map leasts unit in
      let within : k < length leasts = omega (arith, lt, ap length units_are, size) in
      (within, ap (λ us. get_or us k no_unit) units_are ∙ get_or-map unit leasts k 0 no_unit within)

  pub units_count : length (units_with tree ignored) ≡ length groups
  units_count = ap length units_are ∙ length-map leasts (λ p. unit_from tree (made_below tree ignored (length tree) p)) ∙ sym (length-map leasts (group_at tree))

  -- the index of a group among those of the units
  pub group_place : (p k : ℕ) → k < length leasts → group_at tree (get_or leasts k 0) ≡ group_at tree p → position (bytes_eq (group_at tree p)) groups ≡ Some k
  group_place p k lt same =
      let size = length-map leasts (group_at tree) in
      let within : k < length groups = omega (arith, lt, size) in
      let here : get_or groups k [] ≡ group_at tree p = get_or-map (group_at tree) leasts k 0 [] lt ∙ same in
      let apart = AllPairs-from_IsDistinct bytes_eq-Decides groups (groups_distinct tree ignored (length tree)) in
      first_place (bytes_eq (group_at tree p)) groups k [] within
      (λ j before. not_true _ (λ e. apart j k [] before within (sym ((bytes_eq-Decides (group_at tree p) (get_or groups j [])).0 e) ∙ sym here)))
      ((bytes_eq-Decides (group_at tree p) (get_or groups k [])).1 (sym here))

  -- each package that is not ignored has a unit
  pub has_place : (p : ℕ) → p < length tree → ignored p ≡ false → (k : ℕ) × (k < length leasts) × (group_at tree (get_or leasts k 0) ≡ group_at tree p)
  has_place p lt free =
      let first = covered tree ignored p free in
      let there = in_contains leasts first.0 (in_kept (is_first tree ignored) (range_with_len 0 (length tree)) first.0 ∙ and_from _ _ (below_in (length tree) first.0 (omega (arith, first.1, lt))) first.2) in
      (there.0, there.1, ap (group_at tree) (get_or_default leasts there.0 0 first.0 there.1 ∙ there.2) ∙ first.3)

  module _ (is : IsTree tree) where
    in_unit : (f p : ℕ) → p < length tree → is_in (unit_with tree ignored f).packages p ≡ is_with tree ignored f p
    in_unit f p lt = same_answers _ _
        (λ e. contains_in (made_with tree ignored f) p (from_order tree is (made_with tree ignored f) p (λ q member. (made_listed f q member).0) (in_contains _ p e)))
        (λ e. contains_in _ p (into_order tree is (made_with tree ignored f) p lt (in_contains (made_with tree ignored f) p e)))
        ∙ made_in f p lt

    pub number_is : (p : ℕ) → p < length tree → position (λ u. is_in u.packages p) (units_with tree ignored) ≡ place_of tree ignored groups p
    number_is p lt =
        ap (position (λ (u : Unit). is_in u.packages p)) units_are
        ∙ position-map (λ (u : Unit). is_in u.packages p) (λ f. unit_from tree (made_below tree ignored (length tree) f)) leasts
        ∙ ap (λ (t : ℕ → Bool). position t leasts) (λ i f. in_unit f p lt i)
        ∙ by (ignored p) refl
      where
        by : (b : Bool) → ignored p ≡ b → position (λ f. is_with tree ignored f p) leasts ≡ cond b None (position (bytes_eq (group_at tree p)) groups)
        by true e =
            ap (λ (t : ℕ → Bool). position t leasts) (λ i f. (ap (λ b. bytes_eq (group_at tree p) (group_at tree f) && not b) e ∙ and_false _) i)
            ∙ position-never leasts
        by false e =
            ap (λ (t : ℕ → Bool). position t leasts) (λ i f. (ap (λ b. bytes_eq (group_at tree p) (group_at tree f) && not b) e ∙ and_true _) i)
            ∙ sym (position-map (bytes_eq (group_at tree p)) (group_at tree) leasts)

    -- the number of a package of the unit with this number
    pub number_here : (k p : ℕ) → k < length (units_with tree ignored) → Contains (get_or (units_with tree ignored) k no_unit).packages p
        → (p < length tree) × (ignored p ≡ false) × (group_at tree (get_or leasts k 0) ≡ group_at tree p)
        × (position (λ u. is_in u.packages p) (units_with tree ignored) ≡ Some k)
    number_here k p lt member =
        let at = unit_number k lt in
        let made = from_order tree is (made_with tree ignored (get_or leasts k 0)) p (λ q m. (made_listed (get_or leasts k 0) q m).0) (subst (λ (u : Unit). Contains u.packages p) at.1 member) in
        let parts = made_listed (get_or leasts k 0) p made in (
          parts.0,
          parts.1,
          sym parts.2,
          number_is p parts.0 ∙ cond-false (ignored p) None _ parts.1 ∙ group_place p k at.0 (sym parts.2),
        )

    -- a package that is not ignored has a number, and the unit there is its own
    pub number_some : (p : ℕ) → p < length tree → ignored p ≡ false
        → (k : ℕ) × (k < length (units_with tree ignored)) × (position (λ u. is_in u.packages p) (units_with tree ignored) ≡ Some k)
        × (get_or (units_with tree ignored) k no_unit ≡ unit_with tree ignored p)
    number_some p lt free =
        let place = has_place p lt free in
        let size = length-map leasts (λ f. unit_from tree (made_below tree ignored (length tree) f)) in
        let within : place.0 < length (units_with tree ignored) = omega (arith, place.1, ap length units_are, size) in (
          place.0,
          within,
          number_is p lt ∙ cond-false (ignored p) None _ free ∙ group_place p place.0 place.1 place.2,
          (unit_number place.0 within).1 ∙ same_unit (get_or leasts place.0 0) p place.2,
        )

    -- an ignored package has no number
    pub number_none : (p : ℕ) → p < length tree → ignored p ≡ true → position (λ u. is_in u.packages p) (units_with tree ignored) ≡ None
    number_none p lt e = number_is p lt ∙ cond-true (ignored p) None _ e
