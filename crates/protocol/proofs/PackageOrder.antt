-- The packages of a unit: in order of path, in one group, and not more than the tree has.
use Rattle.std.proofs.Common.{◌≡◌, ◌<◌, ◌≤◌, ◌&&◌, ℕ, suc, Bool, true, List, [], ◌∷◌, length, map}
use Rattle.std.proofs.Common.{Option, None, Some, Less, Equal, Greater, arith, refl, sym, ap, ◌∙◌}
use Rattle.std.proofs.Common.{inl, inr}
use Rattle.std.specs.Prelude.{Contains, filter_map, not}
use Rattle.std.specs.List.{cons_option, list_all, slice_index_or}
use Rattle.std.specs.Ordering.{is_lt}
use Rattle.std.specs.declared.cmp.Ordering.{Ordering}
use Rattle.std.specs.Str.{bytes_eq}
use Rattle.std.proofs.lemmas.Bool.{and_from, cases_eq}
use Rattle.std.proofs.lemmas.List.{length-map}
use Rattle.std.proofs.lemmas.List.FromFn.{length-range_with_len}
use Rattle.std.proofs.lemmas.List.Elements.{Contains-get_or}
use Rattle.std.proofs.lemmas.List.Sums.{count_by-le-length, length-filter}
use Rattle.faults.specs.Bytes.{Text}
use Rattle.faults.specs.Pieces.{by_order, set_of, text_cmp, with_member}
use Rattle.faults.proofs.Ascending.{Rising}
use Rattle.faults.proofs.Members.{contains_first, contains_later}
use Rattle.faults.proofs.Sets.{set_rises}
use Rattle.claims.specs.Deps.{is_ascending}
use Rattle.engine.specs.Tree.{Tree, group_at, path_at, position_of}
use Rattle.package_record.specs.PkgPath.{without_subpackage}
use Rattle.engine.specs.Division.{Division, IsDivision, unit_at}
use Rattle.engine.specs.Units.{made_with, positions}
use Rattle.engine.specs.Units as units
use Rattle.engine.proofs.Kept.{unit_good, unit_some}
use Rattle.engine.proofs.WellMade.{one_unit_has}
use Rattle.protocol.specs.Jobs.{in_order_of_path}

-- ---- ascending lists

all_pass : {X : Type 0} (test : X → Bool) (xs : List X) → ((x : X) → Contains xs x → test x ≡ true)
    → list_all test xs ≡ true
all_pass test [] each = refl
all_pass test (x ∷ xs) each =
    and_from (test x) (list_all test xs) (each x (contains_first x xs))
    (all_pass test xs (λ y later. each y (contains_later x y xs later)))

-- strictly increasing texts ascend
pub rising_ascends : (ts : List Text) → Rising text_cmp ts → is_ascending ts ≡ true
rising_ascends [] rising = refl
rising_ascends (t ∷ ts) rising =
    and_from _ _ (all_pass (λ u. is_lt (text_cmp t u)) ts
    (λ u member. ap is_lt (rising.0 u member))) (rising_ascends ts rising.1)

-- a set ascends
pub set_ascends : (ts : List Text) → is_ascending (set_of ts) ≡ true
set_ascends ts = rising_ascends (set_of ts) (set_rises ts)

-- paths in order ascend
pub in_order_ascends : (tree : Tree) (ps : List ℕ) → is_ascending (in_order_of_path tree ps) ≡ true
in_order_ascends tree ps = set_ascends (map (path_at tree) ps)

-- ---- the number of packages

one_longer : (t : Text) (us : List Text) → length (with_member t us) ≤ suc (length us)
one_longer t [] = omega arith
one_longer t (u ∷ us) = by (text_cmp t u) (one_longer t us)
  where
    by : (o : Ordering) → length (with_member t us) ≤ suc (length us)
        → length (by_order o (t ∷ u ∷ us) (u ∷ us) (u ∷ with_member t us)) ≤ suc (length (u ∷ us))
    by Less rest = omega arith
    by Equal rest = omega arith
    by Greater rest = omega (arith, rest)

length-set_of : (ts : List Text) → length (set_of ts) ≤ length ts
length-set_of [] = omega arith
length-set_of (t ∷ ts) = omega (arith, one_longer t (set_of ts), length-set_of ts)

length-filter_map : {X Y : Type 0} (f : X → Option Y) (xs : List X)
    → length (filter_map f xs) ≤ length xs
length-filter_map f [] = omega arith
length-filter_map {X} {Y} f (x ∷ xs) = by (f x) (length-filter_map f xs)
  where
    by : (o : Option Y) → length (filter_map f xs) ≤ length xs
        → length (cons_option o (filter_map f xs)) ≤ length (x ∷ xs)
    by None rest = omega (arith, rest)
    by (Some y) rest = omega (arith, rest)

-- a unit has no more packages than the tree
few_made : (tree : Tree) (ps : List ℕ) → length (units.in_order_of_path tree ps) ≤ length ps
few_made tree ps =
    omega (
      arith,
      length-filter_map (position_of tree) (set_of (map (path_at tree) ps)),
      length-set_of (map (path_at tree) ps),
      length-map ps (path_at tree),
    )

-- ---- the packages of a unit

module _ (d : Division) (u : ℕ) (is : IsDivision d) (lt : u < length d.units) where
  abbrev packages : List ℕ
  packages = (unit_at d u).packages

  -- their paths ascend
  pub paths_ascend : is_ascending (map (path_at d.tree) packages) ≡ true
  paths_ascend =
      ap is_ascending (unit_good d u is lt).named.in_order ∙ in_order_ascends d.tree packages

  -- they are in one group
  pub grouped : (p q : ℕ) → Contains packages p → Contains packages q
      → without_subpackage (path_at d.tree q) ≡ without_subpackage (path_at d.tree p)
  grouped p q has_p has_q =
      let named = (unit_good d u is lt).named in
      elim (cases_eq p q) [
        | inl same ↦ ap (λ k. without_subpackage (path_at d.tree k)) (sym same)
        | inr other ↦ sym (named.alike q p has_q has_p (λ e. other (sym e)))
            ∙ named.alike p q has_p has_q other
      ]

  -- there are no more than in the tree
  pub few_packages : length packages ≤ length d.tree
  few_packages =
      let first = slice_index_or packages 0 0 in
      let of = (one_unit_has d u first is lt
      (Contains-get_or packages 0 0 (unit_some d u is lt))).1 in
      omega (
        arith,
        ap length (ap (λ v. v.packages) of.is),
        few_made d.tree (made_with d.tree of.ignored first),
        made_few d.tree of.ignored first,
      )
    where
      made_few : (tree : Tree) (ignored : ℕ → Bool) (p : ℕ)
          → length (made_with tree ignored p) ≤ length tree
      made_few tree ignored p =
          omega (
            arith,
            length-filter (λ q. bytes_eq (group_at tree q) (group_at tree p) && not (ignored q))
                (positions tree),
            count_by-le-length (λ q. bytes_eq (group_at tree q) (group_at tree p) && not (ignored q))
                (positions tree),
            length-range_with_len 0 (length tree),
          )
