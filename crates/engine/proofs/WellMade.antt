-- The properties of each unit, and which package has which unit.
use Rattle.std.proofs.Common.{◌≡◌, ◌≢◌, ◌<◌, ◌↔◌, ◌⊎◌, ◌&&◌, not, inl, inr, ℕ, Bool, false, List, [], ◌∷◌, Option, None, Some, length, map, get_or, filter, position, ⊎_elim, refl, sym, ap, subst, ◌∙◌, arith}
use Rattle.std.specs.Prelude.{Any, Contains, option_and_then}
use Rattle.std.specs.List.{range_with_len}
use Rattle.std.specs.Str.{bytes_eq}
use Rattle.std.specs.Cmp.Lexicographic.{nat_list_cmp_total}
use Rattle.std.proofs.lemmas.Bool.{and_from, and_parts, false≢true, not-true}
use Rattle.std.proofs.lemmas.List.Elements.{All-from_get_or, All-get_or}
use Rattle.std.proofs.lemmas.List.Kept.{AllPairs-from_increasing, IsStrictlyIncreasing-filter}
use Rattle.std.proofs.lemmas.List.Quantifiers.{position-Some}
use Rattle.std.proofs.lemmas.Slice.Eq.{bytes_eq-Decides}
use Rattle.faults.specs.Answers.{option_or}
use Rattle.faults.specs.Bytes.{Text}
use Rattle.faults.specs.Pieces.{set_of, text_cmp}
use Rattle.faults.proofs.Ascending.{same_ascending, same_members}
use Rattle.faults.proofs.Members.{contains_first, member_cases, no_members}
use Rattle.faults.proofs.Sets.{from_set, into_set, set_rises}
use Rattle.listing.specs.Tree.{ArePositions, AreSingle, IsTree, Tree, build_at, group_at, no_package, path_at, position_of, run_at}
use Rattle.listing.proofs.Without.{without-is_path}
use Rattle.listing.specs.PkgPath.{IsPath, without_subpackage}
use Rattle.engine.proofs.Division.{group_place, leasts, made_alike, made_contains, made_listed, number_here, number_some, same_unit, unit_number, units_are}
use Rattle.engine.proofs.InOrder.{from_order, into_order, order_alone, order_paths, two_members}
use Rattle.engine.proofs.Lists.{and_true, any_of, any_some, below_in, contains_in, filter_same, in_at, in_below, in_contains, in_kept, map_same, not_true, range_increasing}
use Rattle.engine.proofs.Names.{tells, unit_tells}
use Rattle.engine.proofs.OneMore.{first_within, with_parts}
use Rattle.engine.proofs.OneUnit.{build_within}
use Rattle.engine.proofs.Places.{has_position}
use Rattle.engine.specs.Division.{Division, IsDivision, no_unit, number_found, number_named, number_of, unit_at}
use Rattle.engine.specs.Ignored.{IsIgnored}
use Rattle.engine.specs.UnitLaws.{IsWellMade, unit_alone}
use Rattle.engine.specs.Units.{IsUnitOf, Unit, in_order_of_path, is_in, is_needed, made_with, name_of, positions, unit_from, unit_with, units_with}
use Rattle.engine.specs.inside.Gathering.{is_first, is_with}
use Rattle.engine.specs.inside.UnitKeeping.{AreAlike, needed_by}

pub ignored_spreads : (tree : Tree) (p d : ℕ) → p < length tree → Contains (build_at tree p) d ⊎ Contains (run_at tree p) d → IsIgnored tree d → IsIgnored tree p
ignored_spreads tree p d listed needs ignored = λ S holds.
    elim needs [
      | inl build ↦ holds.build p d listed build (ignored S holds)
      | inr run ↦ holds.run p d listed run (ignored S holds)
    ]

-- ---- which package has which unit

pub unit_unless : (d : Division) (p : ℕ) → IsDivision d → p < length d.tree
    → (¬ IsIgnored d.tree p) ↔ ((k : ℕ) × (number_of d p ≡ Some k) × IsUnitOf d.tree p (unit_at d k))
unit_unless d p is lt = (
  λ not_ignored.
      let S = is.units.ignored in
      let free : S p ≡ false = not_true (S p) (λ e. not_ignored ((is.units.are_ignored p).0 e)) in
      let n = number_some d.tree S is.tree p lt free in (
        n.0,
        ap (position (λ (u : Unit). is_in u.packages p)) is.units.are ∙ n.2,
        record {
          ignored = S;
          are_ignored = is.units.are_ignored;
          listed = lt;
          not_ignored = free;
          is = ap (λ us. get_or us n.0 no_unit) is.units.are ∙ n.3;
        },
      ),
  λ (k, e, u) ignored. false≢true (sym u.not_ignored ∙ (u.are_ignored p).1 ignored),
)

pub one_unit_has : (d : Division) (k p : ℕ) → IsDivision d → k < length d.units → Contains (unit_at d k).packages p
    → (number_of d p ≡ Some k) × IsUnitOf d.tree p (unit_at d k)
one_unit_has d k p is lt member =
    let S = is.units.ignored in
    let within : k < length (units_with d.tree S) = omega (arith, lt, ap length is.units.are) in
    let here = number_here d.tree S is.tree k p within (subst (λ us. Contains (get_or us k no_unit).packages p) is.units.are member) in (
      ap (position (λ (u : Unit). is_in u.packages p)) is.units.are ∙ here.3,
      record {
        ignored = S;
        are_ignored = is.units.are_ignored;
        listed = here.0;
        not_ignored = here.1;
        is = ap (λ us. get_or us k no_unit) is.units.are ∙ (unit_number d.tree S k within).1 ∙ same_unit d.tree S (get_or (leasts d.tree S) k 0) p here.2;
      },
    )

-- a unit whose name is a package's path is the package's unit
named_path : (d : Division) (j k p : ℕ) → IsDivision d → k < length d.units → Contains (unit_at d k).packages p → number_named d (path_at d.tree p) ≡ Some j → j ≡ k
named_path d j k p is lt member found =
    let S = is.units.ignored in
    let tree = d.tree in
    let at = position-Some (λ (u : Unit). bytes_eq u.name (path_at tree p)) d.units j no_unit found in
    let size = ap length is.units.are in
    let ltj : j < length (units_with tree S) = omega (arith, at.0, size) in
    let ltk : k < length (units_with tree S) = omega (arith, lt, size) in
    let here = number_here tree S is.tree k p ltk (subst (λ us. Contains (get_or us k no_unit).packages p) is.units.are member) in
    let unit = unit_number tree S j ltj in
    let least = first_within tree S (length tree) j 0 unit.0 in
    let free = not-true (S (get_or (leasts tree S) j 0)) (and_parts (not (S (get_or (leasts tree S) j 0))) _ least.1).0 in
    let name : (unit_with tree S (get_or (leasts tree S) j 0)).name ≡ path_at tree p =
    sym (ap (λ (u : Unit). u.name) (ap (λ us. get_or us j no_unit) is.units.are ∙ unit.1)) ∙ (bytes_eq-Decides _ (path_at tree p)).0 at.1 in
    let group : group_at tree (get_or (leasts tree S) j 0) ≡ group_at tree p =
    sym (unit_tells tree is.tree S (get_or (leasts tree S) j 0) least.0 free) ∙ ap (tells tree is.tree).group_of name ∙ (tells tree is.tree).path p here.0 in
    some_same (sym (group_place tree S p j unit.0 group) ∙ group_place tree S p k (unit_number tree S k ltk).0 here.2)
  where
    some_same : {i l : ℕ} → Some i ≡ Some l → i ≡ l
    some_same e = cc

pub path_is_found : (d : Division) (k p : ℕ) → IsDivision d → k < length d.units → Contains (unit_at d k).packages p → number_found d (path_at d.tree p) ≡ Some k
path_is_found d k p is lt member = by (number_named d (path_at d.tree p)) refl
  where
    by : (o : Option ℕ) → number_named d (path_at d.tree p) ≡ o → option_or o (option_and_then (number_of d) (position_of d.tree (path_at d.tree p))) ≡ Some k
    by None e =
        let one = one_unit_has d k p is lt member in
        ap (option_and_then (number_of d)) (has_position d.tree (path_at d.tree p) p is.tree one.1.listed refl) ∙ one.0
    by (Some j) e = ap (λ i. Some i) (named_path d j k p is lt member e)

-- ---- the properties of each unit

set_once : (ts : List Text) → set_of ts ≡ set_of (set_of ts)
set_once ts =
    same_members text_cmp nat_list_cmp_total (set_of ts) (set_of (set_of ts)) (set_rises ts) (set_rises (set_of ts))
    (λ t member. into_set (set_of ts) t member) (λ t member. from_set (set_of ts) t member)

module _ (tree : Tree) (is : IsTree tree) where
  path_good : (p : ℕ) → p < length tree → IsPath (path_at tree p)
  path_good p lt = All-get_or (λ x. IsPath x.path) tree p no_package lt is.paths

  group_good : (p : ℕ) → p < length tree → IsPath (group_at tree p)
  group_good p lt = ⊎_elim
      (λ grouped. subst IsPath (sym (All-get_or (λ x. x.group ≡ without_subpackage x.path) tree p no_package lt grouped)) (without-is_path (path_at tree p) (path_good p lt)))
      (λ single. subst IsPath (sym (All-get_or (λ x. x.group ≡ x.path) tree p no_package lt single)) (path_good p lt))
      is.groups

  name_good : (ps : List ℕ) → AreAlike tree ps → IsPath (name_of tree ps)
  name_good [] alike = absurd (let some = alike.some in omega arith)
  name_good (p ∷ []) alike = path_good p (alike.listed p (contains_first p []))
  name_good (p ∷ q ∷ ps) alike = group_good p (alike.listed p (contains_first p (q ∷ ps)))

  -- if two packages are in one group, the group is their path without subpackage
  group_shared : (p q : ℕ) → p < length tree → q < length tree → p ≢ q → group_at tree p ≡ group_at tree q → group_at tree p ≡ without_subpackage (path_at tree p)
  group_shared p q ltp ltq apart same = ⊎_elim
      (λ grouped. All-get_or (λ x. x.group ≡ without_subpackage x.path) tree p no_package ltp grouped)
      (λ single.
      let at : (r : ℕ) → r < length tree → group_at tree r ≡ path_at tree r = λ r lt. All-get_or (λ x. x.group ≡ x.path) tree r no_package lt single in
      absurd (apart (is.once p q ltp ltq (sym (at p ltp) ∙ same ∙ at q ltq))))
      is.groups

  module _ (ps : List ℕ) (alike : AreAlike tree ps) where
    back : (p : ℕ) → Contains (in_order_of_path tree ps) p → Contains ps p
    back p member = from_order tree is ps p alike.listed member

    there : (p : ℕ) → Contains ps p → Contains (in_order_of_path tree ps) p
    there p member = into_order tree is ps p (alike.listed p member) member

    name_shared : (p q : ℕ) → Contains ps p → Contains ps q → p ≢ q → name_of tree ps ≡ without_subpackage (path_at tree p)
    name_shared p q mp mq apart =
        let two = two_members ps p q apart mp mq in
        let first : Contains ps two.0 = subst (λ xs. Contains xs two.0) (sym two.3) (contains_first two.0 (two.1 ∷ two.2)) in
        ap (name_of tree) two.3 ∙ alike.alike two.0 p first mp ∙ group_shared p q (alike.listed p mp) (alike.listed q mq) apart (alike.alike p q mp mq)

  name_alone : (ps : List ℕ) → AreAlike tree ps → (p : ℕ) → in_order_of_path tree ps ≡ p ∷ [] → name_of tree ps ≡ path_at tree p
  name_alone [] alike p e = absurd (let some = alike.some in omega arith)
  name_alone (a ∷ []) alike p e =
      let here : Contains (p ∷ []) a = subst (λ xs. Contains xs a) e (there (a ∷ []) alike a (contains_first a [])) in
      ap (path_at tree) (sym (only p a here))
    where
      only : (p a : ℕ) → Contains (p ∷ []) a → p ≡ a
      only p a member = elim (member_cases p a [] member) [ inl same ↦ same | inr later ↦ absurd (no_members a later) ]
  name_alone (a ∷ b ∷ ps) alike p e =
      let all : List ℕ = a ∷ b ∷ ps in
      let one : (c : ℕ) → Contains all c → p ≡ c = λ c member.
      elim (member_cases p c [] (subst (λ xs. Contains xs c) e (there all alike c member))) [ inl same ↦ same | inr later ↦ absurd (no_members c later) ] in
      let up = AllPairs-from_increasing all alike.rising 0 1 0 (omega arith) (omega arith) in
      let first = one a (0, omega arith, refl) in
      let second = one b (1, omega arith, refl) in
      absurd (omega (arith, up, first, second))

  -- what a build needs
  abbrev pub Needed : Unit → ℕ → Type 0
  Needed u q = Any (λ p. Contains (build_at tree p) q) u.packages × ((length u.packages ≡ 1) ⊎ ¬ Contains u.packages q)

  needed_alone : (a q : ℕ) → a < length tree → Contains (build_at tree a) q ↔ Needed (unit_from tree (a ∷ [])) q
  needed_alone a q lt =
      let one = order_alone tree is a lt in (
        λ member. (
          subst (Any (λ p. Contains (build_at tree p) q)) (sym one) (0, a, omega arith, refl, member),
          inl (ap length one),
        ),
        λ (some, _).
            let any : Any (λ p. Contains (build_at tree p) q) (a ∷ []) = subst (Any (λ p. Contains (build_at tree p) q)) one some in
            of_one any,
      )
    where
      of_one : Any (λ p. Contains (build_at tree p) q) (a ∷ []) → Contains (build_at tree a) q
      of_one (k, x, within, here, member) =
          elim (member_cases a x [] (k, within, here)) [ inl same ↦ subst (λ p. Contains (build_at tree p) q) (sym same) member | inr later ↦ absurd (no_members x later) ]

  needed_several : (ps : List ℕ) → AreAlike tree ps → length ps ≢ 1 → (q : ℕ)
      → Contains (needed_by tree ps) q ↔ (Any (λ p. Contains (build_at tree p) q) (in_order_of_path tree ps) × ((length (in_order_of_path tree ps) ≡ 1) ⊎ ¬ Contains (in_order_of_path tree ps) q))
  needed_several ps alike more q = (
    λ member.
        let parts = and_parts _ _ (sym (in_kept (λ d. is_needed tree ps d && not (is_in ps d)) (positions tree) q) ∙ contains_in (needed_by tree ps) q member) in
        let test = and_parts (is_needed tree ps q) (not (is_in ps q)) parts.1 in
        let some = any_some (λ p. is_in (build_at tree p) q) ps test.0 in
        let m = there ps alike some.0 (in_contains ps some.0 some.1) in (
          (m.0, some.0, m.1, m.2, in_contains (build_at tree some.0) q some.2),
          inr (λ own. false≢true (sym (not-true _ test.1) ∙ contains_in ps q (back ps alike q own))),
        ),
    λ ((k, x, within, here, member), apart).
        let mine = back ps alike x (k, within, here) in
        let lt = build_within tree x q is (alike.listed x mine) member in
        let needs = any_of (λ p. is_in (build_at tree p) q) ps x (contains_in ps x mine) (contains_in (build_at tree x) q member) in
        let other : is_in ps q ≡ false = not_true (is_in ps q) (λ e. elim apart [
          | inl one ↦ not_one ps alike more one
          | inr not_own ↦ not_own (there ps alike q (in_contains ps q e))
        ]) in
        in_contains (needed_by tree ps) q
        (in_kept (λ d. is_needed tree ps d && not (is_in ps d)) (positions tree) q ∙ and_from _ _ (below_in (length tree) q lt) (and_from _ _ needs (ap not other))),
  )
    where
      not_one : (ps : List ℕ) → AreAlike tree ps → length ps ≢ 1 → length (in_order_of_path tree ps) ≡ 1 → ⊥
      not_one [] alike more one = let some = alike.some in omega arith
      not_one (a ∷ []) alike more one = more refl
      not_one (a ∷ b ∷ rest) alike more one =
          let all : List ℕ = a ∷ b ∷ rest in
          let up = AllPairs-from_increasing all alike.rising 0 1 0 (omega arith) (omega arith) in
          let two = two_members (in_order_of_path tree all) a b (λ e. omega (arith, up, e)) (there all alike a (0, omega arith, refl)) (there all alike b (1, omega arith, refl)) in
          let long = ap length two.3 in
          omega (arith, long, one)

  needed_unit : (ps : List ℕ) → AreAlike tree ps → (q : ℕ) → Contains (unit_from tree ps).build q ↔ Needed (unit_from tree ps) q
  needed_unit [] alike q = absurd (let some = alike.some in omega arith)
  needed_unit (a ∷ []) alike q = needed_alone a q (alike.listed a (contains_first a []))
  needed_unit (a ∷ b ∷ ps) alike q = needed_several (a ∷ b ∷ ps) alike (λ e. omega (arith, e)) q

  build_positions : (ps : List ℕ) → AreAlike tree ps → ArePositions tree (unit_from tree ps).build
  build_positions [] alike = absurd (let some = alike.some in omega arith)
  build_positions (a ∷ []) alike = All-get_or (λ x. ArePositions tree x.build) tree a no_package (alike.listed a (contains_first a [])) is.build
  build_positions (a ∷ b ∷ ps) alike =
      let all : List ℕ = a ∷ b ∷ ps in
      let test : ℕ → Bool = λ d. is_needed tree all d && not (is_in all d) in
      record {
        within = All-from_get_or (λ p. p < length tree) (needed_by tree all) 0 (λ i lt.
            in_below (length tree) _ (and_parts _ _ (sym (in_kept test (positions tree) (get_or (needed_by tree all) i 0)) ∙ in_at (needed_by tree all) i 0 lt)).0);
        rising = IsStrictlyIncreasing-filter test (positions tree) (range_increasing (length tree));
      }

pub well_made : (tree : Tree) (p : ℕ) (u : Unit) → IsTree tree → IsUnitOf tree p u → IsWellMade tree u
well_made tree p u is unit = subst (IsWellMade tree) (sym unit.is) (
    let S = unit.ignored in
    let ps = made_with tree S p in
    let alike = made_alike tree S p unit.listed unit.not_ignored in
    let mine = made_contains tree S p p unit.listed unit.not_ignored refl in
    record {
      named = record {
        name = name_good tree is ps alike;
        some = (p, there tree is ps alike p mine);
        in_order = order_paths tree is ps alike.listed ∙ set_once (map (path_at tree) ps) ∙ ap set_of (sym (order_paths tree is ps alike.listed));
        alike = λ a b ma mb apart. name_shared tree is ps alike a b (back tree is ps alike a ma) (back tree is ps alike b mb) apart;
        alone = λ a e. name_alone tree is ps alike a e;
      };
      needed = needed_unit tree is ps alike;
      needs = build_positions tree is ps alike;
      none_ignored = λ q member ignored.
          let some = ((needed_unit tree is ps alike q).0 member).0 in
          spread_back q ignored some;
    })
  where
    spread_back : (q : ℕ) → IsIgnored tree q → Any (λ a. Contains (build_at tree a) q) (in_order_of_path tree (made_with tree unit.ignored p)) → ⊥
    spread_back q ignored (k, a, within, here, needs) =
        let S = unit.ignored in
        let alike = made_alike tree S p unit.listed unit.not_ignored in
        let parts = made_listed tree S p a (back tree is (made_with tree S p) alike a (k, within, here)) in
        false≢true (sym parts.1 ∙ (unit.are_ignored a).1 (ignored_spreads tree a q parts.0 (inl needs) ignored))

-- ---- groups of one

pub singles_alone : (tree : Tree) (ignored : ℕ → Bool) → IsTree tree → AreSingle tree
    → units_with tree ignored ≡ map (unit_alone tree) (filter (λ p. not (ignored p)) (positions tree))
singles_alone tree ignored is single =
    units_are tree ignored
    ∙ ap (map (unit_with tree ignored)) (filter_same (is_first tree ignored) (λ p. not (ignored p)) (positions tree) (λ p member. first_alone p (in_below (length tree) p member)))
    ∙ map_same (unit_with tree ignored) (unit_alone tree) (filter (λ p. not (ignored p)) (positions tree)) (λ p member.
    let parts = and_parts _ _ (sym (in_kept (λ q. not (ignored q)) (positions tree) p) ∙ member) in
    unit_is p (in_below (length tree) p parts.0) (not-true (ignored p) parts.1))
  where
    path_of_group : (p : ℕ) → p < length tree → group_at tree p ≡ path_at tree p
    path_of_group p lt = All-get_or (λ x. x.group ≡ x.path) tree p no_package lt single

    one_group : (p q : ℕ) → p < length tree → q < length tree → group_at tree p ≡ group_at tree q → p ≡ q
    one_group p q ltp ltq same = is.once p q ltp ltq (sym (path_of_group p ltp) ∙ same ∙ path_of_group q ltq)

    first_alone : (p : ℕ) → p < length tree → is_first tree ignored p ≡ not (ignored p)
    first_alone p lt =
        ap (λ b. not (ignored p) && not b) (not_true _ (λ any.
        let some = any_some (is_with tree ignored p) (range_with_len 0 p) any in
        let below = in_below p some.0 some.1 in
        let same = one_group some.0 p (omega (arith, below, lt)) lt (with_parts tree ignored p some.0 some.2).1 in
        omega (arith, below, same)))
        ∙ and_true (not (ignored p))

    made_is : (p : ℕ) → p < length tree → ignored p ≡ false → made_with tree ignored p ≡ p ∷ []
    made_is p lt free =
        same_ascending (made_with tree ignored p) (p ∷ []) (made_alike tree ignored p lt free).rising (λ k l. absurd (omega arith))
        (λ q. (
          λ member.
              let parts = made_listed tree ignored p q member in
              (0, omega arith, one_group p q lt parts.0 (sym parts.2)),
          λ member. elim (member_cases p q [] member) [
            | inl same ↦ subst (Contains (made_with tree ignored p)) same (made_contains tree ignored p p lt free refl)
            | inr later ↦ absurd (no_members q later)
          ],
        ))

    unit_is : (p : ℕ) → p < length tree → ignored p ≡ false → unit_with tree ignored p ≡ unit_alone tree p
    unit_is p lt free =
        let order = order_alone tree is p lt in
        ap (unit_from tree) (made_is p lt free) ∙ (λ i. record { name = path_at tree p; packages = order i; build = build_at tree p })
