-- One unit, made of the packages that were gathered for it.
use Rattle.std.proofs.Common.{◌≡◌, ◌≢◌, ◌<◌, ◌≤◌, ◌+◌, ◌++◌, ◌&&◌, ◌||◌, ◌==◌, not, inl, inr, ℕ, Bool, true, false, List, [], ◌∷◌, length, map, get_or, nat_eq, filter, take, refl, sym, ap, subst, ◌∙◌, arith, cond, is_err, Result, Ok, Err, MatchResult}
use Rattle.std.specs.Prelude.{Contains, Vec}
use Rattle.std.specs.List.{dedup}
use Rattle.std.specs.List.Sorted.{IsBinarySearchResult, IsPermutation, IsSorted, IsStrictlyIncreasing}
use Rattle.std.specs.Ordering.{nat_cmp}
use Rattle.std.proofs.lemmas.Bool.{and_from, and_parts, cases_eq, cases_lt}
use Rattle.std.proofs.lemmas.List.{append-nil, append_assoc, get_or_default, map-append, take_more}
use Rattle.std.proofs.lemmas.List.Elements.{All-contains, All-get_or, filter_more}
use Rattle.std.proofs.lemmas.List.Kept.{AllPairs-from_increasing, Contains-dedup_nat, Contains-from_dedup, IsStrictlyIncreasing-filter}
use Rattle.std.proofs.lemmas.List.Sorted.{Contains-permutation, IsPermutation-sym, searched}
use Rattle.std.proofs.lemmas.Map.Keys.{IsStrictlyIncreasing-dedup}
use Rattle.faults.proofs.Ascending.{same_ascending}
use Rattle.listing.specs.Tree.{ArePositions, IsTree, Tree, build_at, group_at, no_package, path_at}
use Rattle.engine.proofs.InOrder.{from_order, into_order, order_alone, two_members}
use Rattle.engine.proofs.Lists.{any_some, below_in, contains_in, in_contains, in_kept, not_true, range_increasing}
use Rattle.engine.specs.Units.{Unit, in_order_of_path, is_in, is_needed, name_of, positions, unit_from}
use Rattle.engine.specs.inside.Gathering.{lists_of}
use Rattle.engine.specs.inside.UnitKeeping.{AreAlike, build_kept, needed_by, needs_in_turn, unit_made}
use Rattle.engine.specs.declared.making.Made.{Made}

-- ---- what a tree guarantees

pub build_within : (tree : Tree) (p q : ℕ) → IsTree tree → p < length tree → Contains (build_at tree p) q → q < length tree
build_within tree p q is lt member =
    All-contains (λ r. r < length tree) (build_at tree p) q (All-get_or (λ x. ArePositions tree x.build) tree p no_package lt is.build).within member

-- ---- the dependencies

or_and : (a b c : Bool) → ((a && c) || (b && c)) ≡ ((a || b) && c)
or_and true true true = refl
or_and true true false = refl
or_and true false true = refl
or_and true false false = refl
or_and false b c = refl

in_append : (xs ys : List ℕ) (q : ℕ) → is_in (xs ++ ys) q ≡ (is_in xs q || is_in ys q)
in_append [] ys q = refl
in_append (x ∷ xs) ys q = ap (λ b. (x == q) || b) (in_append xs ys q) ∙ assoc (x == q) (is_in xs q) (is_in ys q)
  where
    assoc : (a b c : Bool) → (a || (b || c)) ≡ ((a || b) || c)
    assoc true b c = refl
    assoc false b c = refl

in_turn : (tree : Tree) (own ps : List ℕ) (d : ℕ) → is_in (needs_in_turn tree own ps) d ≡ (is_needed tree ps d && not (is_in own d))
in_turn tree own [] d = refl
in_turn tree own (p ∷ ps) d =
    in_append (filter (λ q. not (is_in own q)) (build_at tree p)) (needs_in_turn tree own ps) d
    ∙ (λ i. in_kept (λ q. not (is_in own q)) (build_at tree p) d i || in_turn tree own ps d i)
    ∙ or_and (is_in (build_at tree p) d) (is_needed tree ps d) (not (is_in own d))

-- the build dependencies of these packages one after another, sorted and without duplicates
pub needed_is : (tree : Tree) (ps found sorted : List ℕ) → IsTree tree → ((p : ℕ) → Contains ps p → p < length tree) → found ≡ needs_in_turn tree ps ps
    → IsPermutation found sorted → IsSorted nat_cmp sorted → dedup nat_eq sorted ≡ needed_by tree ps
needed_is tree ps found sorted is listed e moved up =
    same_ascending (dedup nat_eq sorted) (needed_by tree ps) (IsStrictlyIncreasing-dedup sorted up)
    (IsStrictlyIncreasing-filter (λ d. is_needed tree ps d && not (is_in ps d)) (positions tree) (range_increasing (length tree)))
    (λ d. (
      λ member.
          let there = contains_in found d (Contains-permutation sorted found d (IsPermutation-sym found sorted moved) (Contains-from_dedup nat_eq sorted d member)) in
          let test = sym (ap (λ xs. is_in xs d) e ∙ in_turn tree ps ps d) ∙ there in
          let needs = any_some (λ p. is_in (build_at tree p) d) ps (and_parts (is_needed tree ps d) _ test).0 in
          let lt = build_within tree needs.0 d is (listed needs.0 (in_contains ps needs.0 needs.1)) (in_contains (build_at tree needs.0) d needs.2) in
          in_contains (needed_by tree ps) d
          (in_kept (λ q. is_needed tree ps q && not (is_in ps q)) (positions tree) d ∙ and_from _ _ (below_in (length tree) d lt) test),
      λ member.
          let parts = and_parts _ _ (sym (in_kept (λ q. is_needed tree ps q && not (is_in ps q)) (positions tree) d) ∙ contains_in (needed_by tree ps) d member) in
          let there = in_contains found d (ap (λ xs. is_in xs d) e ∙ in_turn tree ps ps d ∙ parts.1) in
          Contains-dedup_nat sorted d (Contains-permutation found sorted d moved there),
    ))

-- one more package
turn_push : (tree : Tree) (own ps : List ℕ) (p : ℕ) → needs_in_turn tree own (ps ++ p ∷ []) ≡ needs_in_turn tree own ps ++ filter (λ d. not (is_in own d)) (build_at tree p)
turn_push tree own [] p = append-nil (filter (λ d. not (is_in own d)) (build_at tree p))
turn_push tree own (q ∷ ps) p =
    ap (λ xs. filter (λ d. not (is_in own d)) (build_at tree q) ++ xs) (turn_push tree own ps p)
    ∙ sym (append_assoc (filter (λ d. not (is_in own d)) (build_at tree q)) (needs_in_turn tree own ps) (filter (λ d. not (is_in own d)) (build_at tree p)))

pub turn_more : (tree : Tree) (own ps : List ℕ) (k p : ℕ) (before after : List ℕ) → k < length ps → p ≡ get_or ps k p → before ≡ needs_in_turn tree own (take k ps)
    → after ≡ before ++ filter (λ d. not (is_in own d)) (build_at tree p) → after ≡ needs_in_turn tree own (take (k + 1) ps)
turn_more tree own ps k p before after lt here was is =
    is ∙ ap (λ xs. xs ++ filter (λ d. not (is_in own d)) (build_at tree p)) was
    ∙ sym (turn_push tree own (take k ps) p)
    ∙ ap (λ q. needs_in_turn tree own (take k ps ++ q ∷ [])) here
    ∙ ap (needs_in_turn tree own) (sym (take_more ps k p lt))

-- ---- the search among own packages

rises_weakly : (xs : List ℕ) → IsStrictlyIncreasing xs → (i j : ℕ) → i ≤ j → j < length xs → get_or xs i 0 ≤ get_or xs j 0
rises_weakly xs up i j le within =
    elim (cases_eq i j) [
      | inl e ↦ let same = ap (λ k. get_or xs k 0) e in omega (arith, same)
      | inr other ↦ let lt = AllPairs-from_increasing xs up i j 0 (omega arith) within in omega (arith, lt)
    ]

pub found_own : (xs : List ℕ) (x : ℕ) (r : Result ℕ ℕ) → IsStrictlyIncreasing xs → IsBinarySearchResult (λ y. nat_cmp y x) xs r → is_err r ≡ not (is_in xs x)
found_own xs x r up found = by r (searched xs x r found (rises_weakly xs up))
  where
    by : (r : Result ℕ ℕ) → MatchResult r (λ i. (i < length xs) × (get_or xs i 0 ≡ x)) (λ i. (i ≤ length xs) × ((k : ℕ) → k < i → get_or xs k 0 < x) × ((k : ℕ) → i ≤ k → k < length xs → x < get_or xs k 0))
        → is_err r ≡ not (is_in xs x)
    by (Ok i) h = ap not (sym (contains_in xs x (i, h.0, get_or_default xs i x 0 h.0 ∙ h.1)))
    by (Err i) h = ap not (sym (not_true (is_in xs x) (λ e.
        let member = in_contains xs x e in
        let here : get_or xs member.0 0 ≡ x = get_or_default xs member.0 0 x member.1 ∙ member.2 in
        elim (cases_lt member.0 i) [
          | inl lt ↦ let less = h.1 member.0 lt in omega (arith, here, less)
          | inr ge ↦ let more = h.2 member.0 ge member.1 in omega (arith, here, more)
        ])))

-- ---- a unit as stored

abbrev pub kept : Tree → List ℕ → List ℕ → Unit
kept tree packages build = record { name = name_of tree packages; packages = packages; build = build_kept tree packages build }

-- for a single package
pub alone_kept : (tree : Tree) (ps build : List ℕ) → IsTree tree → AreAlike tree ps → length ps ≡ 1 → kept tree ps build ≡ unit_from tree ps
alone_kept tree [] build is alike one = absurd (omega arith)
alone_kept tree (p ∷ []) build is alike one =
    let order = sym (order_alone tree is p (alike.listed p (0, omega arith, refl))) in
    λ i. record { name = path_at tree p; packages = order i; build = build_at tree p }
alone_kept tree (p ∷ q ∷ ps) build is alike one = absurd (omega arith)

-- for several packages
pub several_kept : (tree : Tree) (ps : List ℕ) → IsTree tree → AreAlike tree ps → length ps ≢ 1 → kept tree (in_order_of_path tree ps) (needed_by tree ps) ≡ unit_from tree ps
several_kept tree [] is alike more = absurd (let some = alike.some in omega arith)
several_kept tree (p ∷ []) is alike more = absurd (more refl)
several_kept tree (p ∷ q ∷ ps) is alike more =
    let all : List ℕ = p ∷ q ∷ ps in
    let mp : Contains all p = (0, omega arith, refl) in
    let mq : Contains all q = (1, omega arith, refl) in
    let up = AllPairs-from_increasing all alike.rising 0 1 0 (omega arith) (omega arith) in
    let two = two_members (in_order_of_path tree all) p q (λ e. omega (arith, up, e)) (into_order tree is all p (alike.listed p mp) mp) (into_order tree is all q (alike.listed q mq) mq) in
    let first : Contains all two.0 = from_order tree is all two.0 alike.listed (subst (λ xs. Contains xs two.0) (sym two.3) (0, omega arith, refl)) in
    let name : name_of tree (in_order_of_path tree all) ≡ group_at tree p = ap (name_of tree) two.3 ∙ alike.alike two.0 p first mp in
    let build : build_kept tree (in_order_of_path tree all) (needed_by tree all) ≡ needed_by tree all = ap (λ xs. build_kept tree xs (needed_by tree all)) two.3 in
    λ i. record { name = name i; packages = in_order_of_path tree all; build = build i }

-- ---- appending dependencies outside the unit

pub add_other : (own ps first before after : List ℕ) (k : ℕ) → k < length ps → before ≡ first ++ filter (λ d. not (is_in own d)) (take k ps)
    → not (is_in own (get_or ps k 0)) ≡ true → after ≡ before ++ get_or ps k 0 ∷ [] → after ≡ first ++ filter (λ d. not (is_in own d)) (take (k + 1) ps)
add_other own ps first before after k lt was other is =
    let test : ℕ → Bool = λ d. not (is_in own d) in
    is ∙ ap (λ xs. xs ++ get_or ps k 0 ∷ []) was ∙ append_assoc first (filter test (take k ps)) (get_or ps k 0 ∷ [])
    ∙ ap (λ b. first ++ (filter test (take k ps) ++ cond b (get_or ps k 0 ∷ []) [])) (sym other)
    ∙ ap (λ xs. first ++ xs) (sym (filter_more test ps k 0 lt))

pub skip_own : (own ps first before after : List ℕ) (k : ℕ) → k < length ps → before ≡ first ++ filter (λ d. not (is_in own d)) (take k ps)
    → not (is_in own (get_or ps k 0)) ≡ false → after ≡ before → after ≡ first ++ filter (λ d. not (is_in own d)) (take (k + 1) ps)
skip_own own ps first before after k lt was mine is =
    let test : ℕ → Bool = λ d. not (is_in own d) in
    is ∙ was ∙ ap (λ xs. first ++ xs) (sym (append-nil (filter test (take k ps))))
    ∙ ap (λ b. first ++ (filter test (take k ps) ++ cond b (get_or ps k 0 ∷ []) [])) (sym mine)
    ∙ ap (λ xs. first ++ xs) (sym (filter_more test ps k 0 lt))

-- ---- one more unit

pub unit_more : {Z : Type 0} (tree : Tree) (ms after : List Made) (vs : List (Vec ℕ Z)) (v : Vec ℕ Z) (m : Made)
    → unit_made tree m ≡ unit_from tree v.items → map (unit_made tree) ms ≡ map (unit_from tree) (lists_of vs) → after ≡ ms ++ m ∷ []
    → map (unit_made tree) after ≡ map (unit_from tree) (lists_of (vs ++ v ∷ []))
unit_more {Z} tree ms after vs v m one was is =
    let items : Vec ℕ Z → List ℕ = λ w. w.items in
    ap (map (unit_made tree)) is ∙ map-append (unit_made tree) ms (m ∷ []) ∙ (λ i. was i ++ one i ∷ [])
    ∙ sym (map-append (unit_from tree) (lists_of vs) (items v ∷ []))
    ∙ ap (map (unit_from tree)) (sym (map-append items vs (v ∷ [])))
