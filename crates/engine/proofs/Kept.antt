-- The stored units are the units of the tree.
use Rattle.std.proofs.Common.{◌≡◌, ◌≢◌, ◌<◌, ◌≤◌, not, inl, inr, ℕ, zero, suc, Bool, true, false, List, [], ◌∷◌, Option, None, Some, length, map, filter, get_or, position, is_some, refl, sym, ap, subst, ◌∙◌, arith}
use Rattle.std.specs.Prelude.{◌↔◌, All, Contains, Vec, option_and_then}
use Rattle.std.specs.List.{IsDistinct, range_with_len}
use Rattle.std.specs.Str.{bytes_eq}
use Rattle.std.proofs.lemmas.Bool.{and_parts, cases_lt, false≢true, not-true}
use Rattle.std.proofs.lemmas.List.{get_or-map, length-map}
use Rattle.std.proofs.lemmas.List.Elements.{Contains-get_or}
use Rattle.std.proofs.lemmas.List.FromFn.{get_or-map-range_with_len, length-map-range_with_len, length-range_with_len}
use Rattle.std.proofs.lemmas.List.Sums.{count_by-le-length, length-filter}
use Rattle.std.proofs.lemmas.List.Quantifiers.{position-Some}
use Rattle.std.proofs.lemmas.Map.Made.{AllPairs-from_IsDistinct}
use Rattle.std.proofs.lemmas.Slice.Eq.{bytes_eq-Decides}
use Rattle.faults.specs.Answers.{option_or}
use Rattle.faults.specs.Bytes.{Text}
use Rattle.faults.proofs.Members.{member_cases, no_members}
use Rattle.listing.specs.Tree.{IsTree, Tree, build_at, group_at, path_at, position_of}
use Rattle.engine.proofs.Division.{groups, leasts, made_alike, made_contains, number_here, number_is, number_none, number_some, unit_number, units_are, units_count}
use Rattle.engine.proofs.InOrder.{into_order, order_alone}
use Rattle.engine.proofs.Lists.{not_true}
use Rattle.engine.proofs.Names.{name_is_found}
use Rattle.engine.proofs.OneMore.{first_within, groups_distinct}
use Rattle.engine.proofs.Places.{first_place, has_position}
use Rattle.engine.proofs.WellMade.{one_unit_has, well_made}
use Rattle.engine.specs.Division.{Division, IsDivision, no_unit, number_found, number_named, number_of, unit_at}
use Rattle.engine.specs.Ignored.{AreTheIgnored, IsIgnored}
use Rattle.engine.specs.UnitLaws.{IsWellMade}
use Rattle.engine.specs.Units.{Unit, in_order_of_path, is_in, is_least, name_of, positions, unit_from, unit_with, units_with}
use Rattle.engine.specs.inside.Gathering.{AreGathered, firsts, lists_of, made_below, place_of}
use Rattle.engine.specs.inside.UnitKeeping.{AreAlike, AreGroups, AreNumbers, build_kept, unit_made}
use Rattle.engine.specs.declared.making.Made.{Made}
use Rattle.graph.specs.Marks.{has_mark}
use Rattle.engine.specs.shared.Marks.{AreIgnored}
use Rattle.engine.specs.declared.gathering.Gathered.{Gathered}

-- marks of the ignored packages determine which packages are ignored
pub marks_tell : (tree : Tree) (marks : List Bool) → AreIgnored tree marks → AreTheIgnored tree (has_mark marks)
marks_tell tree marks are p = (are.ignored p, λ ignored. ignored (has_mark marks) are.spread)

-- the gathered lists are of packages in one group
pub gathered_alike : {Z : Type 0} (tree : Tree) (ignored : ℕ → Bool) (vs : List (Vec ℕ Z)) → lists_of vs ≡ map (made_below tree ignored (length tree)) (firsts tree ignored (length tree))
    → All (λ v. AreAlike tree v.items) vs
gathered_alike {Z} tree ignored vs e k d lt =
    let fs = firsts tree ignored (length tree) in
    let items : Vec ℕ Z → List ℕ = λ v. v.items in
    let size : length vs ≡ length fs = sym (length-map vs items) ∙ ap length e ∙ length-map fs (made_below tree ignored (length tree)) in
    let within : k < length fs = omega (arith, lt, size) in
    let here = first_within tree ignored (length tree) k 0 within in
    let free = not-true (ignored (get_or fs k 0)) (and_parts (not (ignored (get_or fs k 0))) _ here.1).0 in
    let list : items (get_or vs k d) ≡ made_below tree ignored (length tree) (get_or fs k 0) =
    sym (get_or-map items vs k d [] lt) ∙ ap (λ xs. get_or xs k []) e ∙ get_or-map (made_below tree ignored (length tree)) fs k 0 [] within in
    subst (AreAlike tree) (sym list) (made_alike tree ignored (get_or fs k 0) here.0 free)

-- the units of the gathered lists are those of the tree
same_units : (tree : Tree) (ignored : ℕ → Bool) (us : List Unit) (lists : List (List ℕ)) → us ≡ map (unit_from tree) lists
    → lists ≡ map (made_below tree ignored (length tree)) (firsts tree ignored (length tree)) → us ≡ units_with tree ignored
same_units tree ignored us lists e f = e ∙ ap (map (unit_from tree)) f ∙ map_map (firsts tree ignored (length tree)) ∙ sym (units_are tree ignored)
  where
    map_map : (fs : List ℕ) → map (unit_from tree) (map (made_below tree ignored (length tree)) fs) ≡ map (λ p. unit_from tree (made_below tree ignored (length tree) p)) fs
    map_map [] = refl
    map_map (f ∷ fs) = ap (λ us. unit_from tree (made_below tree ignored (length tree) f) ∷ us) (map_map fs)

pub numbers_are : (tree : Tree) (ignored : ℕ → Bool) (us : List Unit) (numbers : List (Option ℕ)) → IsTree tree → us ≡ units_with tree ignored
    → numbers ≡ map (place_of tree ignored (groups tree ignored)) (range_with_len 0 (length tree)) → AreNumbers (record { tree = tree; units = us }) numbers
numbers_are tree ignored us numbers is e f = (
  ap length f ∙ length-map-range_with_len (place_of tree ignored (groups tree ignored)) 0 (length tree),
  λ p lt.
      ap (λ ns. get_or ns p None) f
      ∙ get_or-map-range_with_len (place_of tree ignored (groups tree ignored)) 0 (length tree) p p None lt (omega arith)
      ∙ sym (number_is tree ignored is p lt)
      ∙ ap (position (λ (u : Unit). is_in u.packages p)) (sym e),
)

pub groups_are : (tree : Tree) (ignored : ℕ → Bool) (us : List Unit) (keys : List Text) → IsTree tree → us ≡ units_with tree ignored
    → keys ≡ groups tree ignored → AreGroups (record { tree = tree; units = us }) keys
groups_are tree ignored us keys is e f = record {
  each = ap length f ∙ sym (units_count tree ignored) ∙ ap length (sym e);
  once = subst (IsDistinct bytes_eq) (sym f) (groups_distinct tree ignored (length tree));
  group = λ k p lt member.
      let within : k < length (units_with tree ignored) = omega (arith, lt, ap length e) in
      let here = number_here tree ignored is k p within (subst (λ vs. Contains (get_or vs k no_unit).packages p) e member) in
      let at = unit_number tree ignored k within in
      sym here.2 ∙ sym (get_or-map (group_at tree) (leasts tree ignored) k 0 [] at.0) ∙ ap (λ ts. get_or ts k []) (sym f);
}

-- ---- how a unit is found

-- the name of a unit with several packages is its group
name_of_several : (d : Division) (keys : List Text) (k : ℕ) → IsDivision d → AreGroups d keys → k < length d.units → 1 < length (unit_at d k).packages
    → (unit_at d k).name ≡ get_or keys k []
name_of_several d keys k is are lt more =
    let S = is.units.ignored in
    let within : k < length (units_with d.tree S) = omega (arith, lt, ap length is.units.are) in
    let unit = unit_number d.tree S k within in
    let f = get_or (leasts d.tree S) k 0 in
    let first = first_within d.tree S (length d.tree) k 0 unit.0 in
    let free = not-true (S f) (and_parts (not (S f)) _ first.1).0 in
    let alike = made_alike d.tree S f first.0 free in
    let is_unit : unit_at d k ≡ unit_from d.tree (made_below d.tree S (length d.tree) f) = ap (λ us. get_or us k no_unit) is.units.are ∙ unit.1 in
    let long : length (in_order_of_path d.tree (made_below d.tree S (length d.tree) f)) ≢ 1 = λ e. let same = ap (λ (u : Unit). length u.packages) is_unit in omega (arith, more, e, same) in
    let mine : Contains (made_below d.tree S (length d.tree) f) f = made_contains d.tree S f f first.0 free refl in
    let member : Contains (unit_at d k).packages f = subst (λ (u : Unit). Contains u.packages f) (sym is_unit) (into_order d.tree is.tree (made_below d.tree S (length d.tree) f) f first.0 mine) in
    ap (λ (u : Unit). u.name) is_unit ∙ several_name d.tree is.tree (made_below d.tree S (length d.tree) f) f alike long mine ∙ are.group k f lt member
  where
    several_name : (tree : Tree) → IsTree tree → (ps : List ℕ) (f : ℕ) → AreAlike tree ps → length (in_order_of_path tree ps) ≢ 1 → Contains ps f → name_of tree ps ≡ group_at tree f
    several_name tree is [] f alike long mine = absurd (let some = alike.some in omega arith)
    several_name tree is (p ∷ []) f alike long mine = absurd (long (ap length (order_alone tree is p (alike.listed p (0, omega arith, refl)))))
    several_name tree is (p ∷ q ∷ ps) f alike long mine = alike.alike p f (0, omega arith, refl) mine

-- a list of at most one element that has a member is that member
only : (xs : List ℕ) (f : ℕ) → length xs ≤ 1 → Contains xs f → xs ≡ f ∷ []
only [] f le member = absurd (no_members f member)
only (x ∷ []) f le member = elim (member_cases x f [] member) [ inl same ↦ ap (λ y. y ∷ []) same | inr later ↦ absurd (no_members f later) ]
only (x ∷ y ∷ xs) f le member = absurd (omega arith)

-- a unit that is found by its name, but not by its group, has one package, whose path is the name
alone_found : (d : Division) (keys : List Text) (j : ℕ) (path : Text) → IsDivision d → AreGroups d keys → number_named d path ≡ Some j
    → ((k : ℕ) → position (bytes_eq path) keys ≡ Some k → length (unit_at d k).packages ≤ 1) → option_and_then (number_of d) (position_of d.tree path) ≡ Some j
alone_found d keys j path is are found few =
    let at = position-Some (λ (u : Unit). bytes_eq u.name path) d.units j no_unit found in
    let name : (unit_at d j).name ≡ path = (bytes_eq-Decides (unit_at d j).name path).0 at.1 in
    elim (cases_lt 1 (length (unit_at d j).packages)) [
      | inl more ↦
          let key : path ≡ get_or keys j [] = sym name ∙ name_of_several d keys j is are at.0 more in
          let within : j < length keys = omega (arith, at.0, are.each) in
          let place : position (bytes_eq path) keys ≡ Some j =
          first_place (bytes_eq path) keys j [] within
          (λ i before. not_true _ (λ e. AllPairs-from_IsDistinct bytes_eq-Decides keys are.once i j [] before within (sym ((bytes_eq-Decides path (get_or keys i [])).0 e) ∙ key)))
          ((bytes_eq-Decides path (get_or keys j [])).1 key) in
          absurd (let less = few j place in omega (arith, more, less))
      | inr less ↦ one_alone d j path is at.0 name less
    ]
  where
    one_alone : (d : Division) (j : ℕ) (path : Text) → IsDivision d → j < length d.units → (unit_at d j).name ≡ path → length (unit_at d j).packages ≤ 1
        → option_and_then (number_of d) (position_of d.tree path) ≡ Some j
    one_alone d j path is lt name less =
        let S = is.units.ignored in
        let within : j < length (units_with d.tree S) = omega (arith, lt, ap length is.units.are) in
        let unit = unit_number d.tree S j within in
        let f = get_or (leasts d.tree S) j 0 in
        let first = first_within d.tree S (length d.tree) j 0 unit.0 in
        let free = not-true (S f) (and_parts (not (S f)) _ first.1).0 in
        let mine = made_contains d.tree S f f first.0 free refl in
        let member : Contains (unit_at d j).packages f =
        subst (λ (u : Unit). Contains u.packages f) (sym (ap (λ us. get_or us j no_unit) is.units.are ∙ unit.1)) (into_order d.tree is.tree (made_below d.tree S (length d.tree) f) f first.0 mine) in
        let one = one_unit_has d j f is lt member in
        let good = well_made d.tree f (unit_at d j) is.tree one.1 in
        let path_is : path_at d.tree f ≡ path = sym (good.named.alone f (only (unit_at d j).packages f less member)) ∙ name in
        ap (option_and_then (number_of d)) (has_position d.tree path f is.tree first.0 path_is) ∙ one.0

-- a unit with several packages is found by its group, which is its name
pub several_found : (d : Division) (keys : List Text) (k : ℕ) (path : Text) → IsDivision d → AreGroups d keys → position (bytes_eq path) keys ≡ Some k
    → 1 < length (unit_at d k).packages → number_found d path ≡ Some k
several_found d keys k path is are found more =
    let at = position-Some (bytes_eq path) keys k [] found in
    let lt : k < length d.units = omega (arith, at.0, are.each) in
    let key : path ≡ get_or keys k [] = (bytes_eq-Decides path (get_or keys k [])).0 at.1 in
    let name : (unit_at d k).name ≡ path = name_of_several d keys k is are lt more ∙ sym key in
    ap (λ o. option_or o (option_and_then (number_of d) (position_of d.tree path))) (ap (number_named d) (sym name) ∙ name_is_found d k is lt)

-- other paths are paths of packages
pub path_found : (d : Division) (keys : List Text) (path : Text) → IsDivision d → AreGroups d keys
    → ((k : ℕ) → position (bytes_eq path) keys ≡ Some k → length (unit_at d k).packages ≤ 1) → number_found d path ≡ option_and_then (number_of d) (position_of d.tree path)
path_found d keys path is are few = by (number_named d path) refl
  where
    by : (o : Option ℕ) → number_named d path ≡ o → option_or o (option_and_then (number_of d) (position_of d.tree path)) ≡ option_and_then (number_of d) (position_of d.tree path)
    by None e = refl
    by (Some j) e = sym (alone_found d keys j path is are e few)

-- there are no more units than packages
pub few_units : (d : Division) → IsDivision d → length d.units ≤ length d.tree
few_units d is =
    let S = is.units.ignored in
    let unit = unit_with d.tree S in
    let least = is_least d.tree S in
    omega (arith, ap length is.units.are, length-map (filter least (positions d.tree)) unit, length-filter least (positions d.tree), count_by-le-length least (positions d.tree), length-range_with_len 0 (length d.tree))

pub unit_listed : (d : Division) (k p : ℕ) → IsDivision d → k < length d.units → Contains (unit_at d k).packages p → p < length d.tree
unit_listed d k p is lt member = (one_unit_has d k p is lt member).1.listed

-- each unit is well made
pub unit_good : (d : Division) (k : ℕ) → IsDivision d → k < length d.units → IsWellMade d.tree (unit_at d k)
unit_good d k is lt =
    let S = is.units.ignored in
    let within : k < length (units_with d.tree S) = omega (arith, lt, ap length is.units.are) in
    let unit = unit_number d.tree S k within in
    let f = get_or (leasts d.tree S) k 0 in
    let first = first_within d.tree S (length d.tree) k 0 unit.0 in
    let free = not-true (S f) (and_parts (not (S f)) _ first.1).0 in
    well_made d.tree f (unit_at d k) is.tree (record {
      ignored = S;
      are_ignored = is.units.are_ignored;
      listed = first.0;
      not_ignored = free;
      is = ap (λ us. get_or us k no_unit) is.units.are ∙ unit.1;
    })

-- a package has no number if and only if it is ignored
pub ignored_number : (d : Division) (p : ℕ) → IsDivision d → p < length d.tree → (is_some (number_of d p) ≡ false) ↔ IsIgnored d.tree p
ignored_number d p is lt =
    let S = is.units.ignored in
    let same = ap (position (λ (u : Unit). is_in u.packages p)) is.units.are in (
      λ none. by (S p) refl none,
      λ ignored. ap is_some (same ∙ number_none d.tree S is.tree p lt ((is.units.are_ignored p).1 ignored)),
    )
  where
    by : (b : Bool) → is.units.ignored p ≡ b → is_some (number_of d p) ≡ false → IsIgnored d.tree p
    by true e none = (is.units.are_ignored p).0 e
    by false e none =
        let some = number_some d.tree is.units.ignored is.tree p lt e in
        absurd (false≢true (sym none ∙ ap is_some (ap (position (λ (u : Unit). is_in u.packages p)) is.units.are ∙ some.2)))

-- what was gathered and made satisfies the invariant
pub kept_whole : (tree : Tree) (marks : List Bool) (g : Gathered) (ms : List Made) → IsTree tree → AreIgnored tree marks → AreGathered tree (has_mark marks) (length tree) g
    → map (unit_made tree) ms ≡ map (unit_from tree) (lists_of g.packages.items)
    → IsDivision (record { tree = tree; units = map (unit_made tree) ms })
    × AreNumbers (record { tree = tree; units = map (unit_made tree) ms }) g.numbers.items
    × AreGroups (record { tree = tree; units = map (unit_made tree) ms }) g.groups.keys
kept_whole tree marks g ms is ignored are made =
    let same = same_units tree (has_mark marks) (map (unit_made tree) ms) (lists_of g.packages.items) made are.packages in (
      record {
        tree = is;
        units = record { ignored = has_mark marks; are_ignored = marks_tell tree marks ignored; are = same };
      },
      numbers_are tree (has_mark marks) (map (unit_made tree) ms) g.numbers.items is same are.numbers,
      groups_are tree (has_mark marks) (map (unit_made tree) ms) g.groups.keys is same are.groups,
    )

-- ---- the unit at a number

-- the unit there is the stored one
pub kept_at : (tree : Tree) (ms : List Made) (k : ℕ) (m : Made) → k < length ms → m ≡ get_or ms k m
    → get_or (map (unit_made tree) ms) k no_unit ≡ unit_made tree m
kept_at tree ms k m lt here = get_or-map (unit_made tree) ms k m no_unit lt ∙ ap (unit_made tree) (sym here)

pub unit_some : (d : Division) (k : ℕ) → IsDivision d → k < length d.units → 0 < length (unit_at d k).packages
unit_some d k is lt = let some = (unit_good d k is lt).named.some in omega (arith, some.1.1)

pub all_listed : (d : Division) (k : ℕ) → IsDivision d → k < length d.units → All (λ p. p < length d.tree) (unit_at d k).packages
all_listed d k is lt i e within = unit_listed d k (get_or (unit_at d k).packages i e) is lt (Contains-get_or (unit_at d k).packages i e within)

-- the name of a unit with one package
pub name_alone_at : (d : Division) (k : ℕ) → IsDivision d → k < length d.units → length (unit_at d k).packages ≡ 1 → path_at d.tree (get_or (unit_at d k).packages 0 0) ≡ (unit_at d k).name
name_alone_at d k is lt one =
    let first = Contains-get_or (unit_at d k).packages 0 0 (omega (arith, one)) in
    sym ((unit_good d k is lt).named.alone (get_or (unit_at d k).packages 0 0) (only (unit_at d k).packages _ (omega (arith, one)) first))

-- the name of a unit with several packages
pub name_group_at : (d : Division) (keys : List Text) (k : ℕ) → IsDivision d → AreGroups d keys → k < length d.units → length (unit_at d k).packages ≢ 1
    → group_at d.tree (get_or (unit_at d k).packages 0 0) ≡ (unit_at d k).name
name_group_at d keys k is are lt more =
    let some = unit_some d k is lt in
    are.group k (get_or (unit_at d k).packages 0 0) lt (Contains-get_or (unit_at d k).packages 0 0 some)
    ∙ sym (name_of_several d keys k is are lt (omega arith))

pub build_several : (tree : Tree) (ps build : List ℕ) → length ps ≢ 1 → build_kept tree ps build ≡ build
build_several tree [] build more = refl
build_several tree (p ∷ []) build more = absurd (more refl)
build_several tree (p ∷ q ∷ ps) build more = refl

pub build_one : (tree : Tree) (ps build : List ℕ) → length ps ≡ 1 → build_kept tree ps build ≡ build_at tree (get_or ps 0 0)
build_one tree [] build one = absurd (omega arith)
build_one tree (p ∷ []) build one = refl
build_one tree (p ∷ q ∷ ps) build one = absurd (omega arith)

-- there is an element at each index in range
pub stands_at : {X : Type 0} (xs : List X) (k : ℕ) → k < length xs → (x : X) × (x ≡ get_or xs k x)
stands_at [] k lt = absurd (omega arith)
stands_at (x ∷ xs) zero lt = (x, refl)
stands_at (x ∷ xs) (suc k) lt = stands_at xs k (omega arith)
