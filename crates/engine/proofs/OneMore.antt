-- The packages of a tree are gathered, one at a time.
use Rattle.std.proofs.Common.{◌≡◌, ◌≢◌, ◌&&◌, ◌||◌, ◌≤◌, ◌<◌, ◌+◌, ◌++◌, not, ℕ, zero, suc, Bool, true, false, List, [], ◌∷◌, Option, None, Some, inl, inr, refl, sym, subst, ap, ◌∙◌, arith, cond, get_or, length, map, position, set, Vec}
use Rattle.std.proofs.lemmas.Bool.{and_from, and_parts, cases_order, cond_both, false≢true, not-true, or_parts}
use Rattle.std.proofs.lemmas.List.{append-nil, get_or-map, length-map, map-append}
use Rattle.std.proofs.lemmas.List.Kept.{AllPairs-filter}
use Rattle.std.proofs.lemmas.List.FromFn.{length-range_with_len}
use Rattle.std.proofs.lemmas.List.Sums.{count_by-le-length, length-filter}
use Rattle.std.proofs.lemmas.Map.Made.{IsDistinct-from_AllPairs}
use Rattle.std.proofs.lemmas.Slice.Eq.{bytes_eq-Decides}
use Rattle.std.specs.List.{AllByRecursion, AllPairs, IsDistinct, list_any, position_or_len, range_with_len}
use Rattle.std.specs.Str.{bytes_eq}
use Rattle.indexmap.specs.IndexSet.{insert_key}
use Rattle.std.proofs.lemmas.Map.Keys.{IsDistinct-head, IsDistinct-tail}
use Rattle.faults.specs.Bytes.{Text}
use Rattle.listing.specs.Tree.{Tree, group_at}
use Rattle.engine.proofs.Lists.{and_false, any-map, any_of, any_some, below_in, filter_next, first_place-push, found_place, in_at, in_below, in_kept, map_same, none_kept, place_there, position-push, range_next, range_rising, same_answers}
use Rattle.engine.specs.Units.{is_in}
use Rattle.engine.specs.inside.Gathering.{AreGathered, Takes, firsts, groups_below, is_first, is_with, lists_of, made_below, place_of, put_at}
use Rattle.engine.specs.declared.gathering.Gathered.{Gathered}

same_bytes : (s t : Text) → bytes_eq s t ≡ true → s ≡ t
same_bytes s t e = (bytes_eq-Decides s t).0 e

equal_bytes : (s t : Text) → s ≡ t → bytes_eq s t ≡ true
equal_bytes s t e = (bytes_eq-Decides s t).1 e

module _ (tree : Tree) (ignored : ℕ → Bool) where
  -- ---- the first of each group

  free_of : (p : ℕ) → is_first tree ignored p ≡ true → ignored p ≡ false
  free_of p first = not-true (ignored p) (and_parts (not (ignored p)) _ first).0

  pub with_from : (p q : ℕ) → ignored q ≡ false → group_at tree q ≡ group_at tree p → is_with tree ignored p q ≡ true
  with_from p q free same = and_from _ _ (equal_bytes _ _ same) (ap not free)

  pub with_parts : (p q : ℕ) → is_with tree ignored p q ≡ true → (ignored q ≡ false) × (group_at tree q ≡ group_at tree p)
  with_parts p q e =
      let parts = and_parts (bytes_eq (group_at tree q) (group_at tree p)) (not (ignored q)) e in
      (not-true (ignored q) parts.1, same_bytes (group_at tree q) (group_at tree p) parts.0)

  -- the first of its group, for a package that is not ignored
  abbrev pub FirstUpTo : ℕ → Type 0
  FirstUpTo q = (f : ℕ) × (f ≤ q) × (is_first tree ignored f ≡ true) × (group_at tree f ≡ group_at tree q)

  -- each package that is not ignored has a first one of its group
  covered_below : (n q : ℕ) → q < n → ignored q ≡ false → FirstUpTo q
  covered_below zero q lt free = absurd (omega arith)
  covered_below (suc n) q lt free = by (list_any (is_with tree ignored q) (range_with_len 0 q)) refl (λ r below. covered_below n r below)
    where
      by : (b : Bool) → list_any (is_with tree ignored q) (range_with_len 0 q) ≡ b → ((r : ℕ) → r < n → ignored r ≡ false → FirstUpTo r) → FirstUpTo q
      by true e earlier =
          let some = any_some (is_with tree ignored q) (range_with_len 0 q) e in
          let below = in_below q some.0 some.1 in
          let parts = with_parts q some.0 some.2 in
          let rest = earlier some.0 (omega (arith, lt, below)) parts.0 in
          (rest.0, omega (arith, rest.1, below), rest.2, rest.3 ∙ parts.1)
      by false e earlier = (q, omega arith, and_from _ _ (ap not free) (ap not e), refl)

  pub covered : (q : ℕ) → ignored q ≡ false → FirstUpTo q
  covered q free = covered_below (q + 1) q (omega arith) free

  not_before : (f g : ℕ) → f < g → ignored f ≡ false → is_first tree ignored g ≡ true → group_at tree f ≡ group_at tree g → ⊥
  not_before f g lt free first same =
      let some = any_of (is_with tree ignored g) (range_with_len 0 g) f (below_in g f lt) (with_from g f free same) in
      false≢true (sym (not-true _ (and_parts (not (ignored g)) _ first).1) ∙ some)

  -- a group has one first package
  pub one_first : (f g : ℕ) → is_first tree ignored f ≡ true → is_first tree ignored g ≡ true → group_at tree f ≡ group_at tree g → f ≡ g
  one_first f g ff fg same =
      elim (cases_order f g) [
        | inl e ↦ e
        | inr other ↦ elim other [
          | inl lt ↦ absurd (not_before f g lt (free_of f ff) fg same)
          | inr gt ↦ absurd (not_before g f gt (free_of g fg) ff (sym same))
        ]
      ]

  pub first_within : (n k d : ℕ) → k < length (firsts tree ignored n) → (get_or (firsts tree ignored n) k d < n) × (is_first tree ignored (get_or (firsts tree ignored n) k d) ≡ true)
  first_within n k d lt =
      let f = get_or (firsts tree ignored n) k d in
      let here : is_in (firsts tree ignored n) f ≡ true = in_at (firsts tree ignored n) k d lt in
      let parts = and_parts _ _ (sym (in_kept (is_first tree ignored) (range_with_len 0 n) f) ∙ here) in
      (in_below n f parts.0, parts.1)

  -- the groups of two different first packages differ
  groups_differ : (n : ℕ) → AllPairs ◌≢◌ (groups_below tree ignored n)
  groups_differ n i j d lt within same =
      let fs = firsts tree ignored n in
      let size = length-map fs (group_at tree) in
      let last : j < length fs = omega (arith, within, size) in
      let before : i < length fs = omega (arith, lt, last) in
      let groups : group_at tree (get_or fs i 0) ≡ group_at tree (get_or fs j 0) = sym (get_or-map (group_at tree) fs i 0 d before) ∙ same ∙ get_or-map (group_at tree) fs j 0 d last in
      let one = one_first (get_or fs i 0) (get_or fs j 0) (first_within n i 0 before).1 (first_within n j 0 last).1 groups in
      let up = AllPairs-filter (λ x y. x < y) (is_first tree ignored) (range_with_len 0 n) (range_rising n) i j 0 lt last in
      omega (arith, one, up)

  pub groups_distinct : (n : ℕ) → IsDistinct bytes_eq (groups_below tree ignored n)
  groups_distinct n = IsDistinct-from_AllPairs bytes_eq-Decides (groups_below tree ignored n) (groups_differ n)

  -- a package's group is there if an earlier package is made with it
  any_group : (n p : ℕ) → list_any (bytes_eq (group_at tree p)) (groups_below tree ignored n) ≡ list_any (is_with tree ignored p) (range_with_len 0 n)
  any_group n p = any-map (bytes_eq (group_at tree p)) (group_at tree) (firsts tree ignored n) ∙ same_answers _ _
      (λ e.
      let some = any_some (λ q. bytes_eq (group_at tree p) (group_at tree q)) (firsts tree ignored n) e in
      let parts = and_parts _ _ (sym (in_kept (is_first tree ignored) (range_with_len 0 n) some.0) ∙ some.1) in
      any_of (is_with tree ignored p) (range_with_len 0 n) some.0 parts.0 (with_from p some.0 (free_of some.0 parts.1) (sym (same_bytes _ _ some.2))))
      (λ e.
      let some = any_some (is_with tree ignored p) (range_with_len 0 n) e in
      let parts = with_parts p some.0 some.2 in
      let first = covered some.0 parts.0 in
      let below = in_below n some.0 some.1 in
      any_of (λ q. bytes_eq (group_at tree p) (group_at tree q)) (firsts tree ignored n) first.0
      (in_kept (is_first tree ignored) (range_with_len 0 n) first.0 ∙ and_from _ _ (below_in n first.0 (omega (arith, first.1, below))) first.2)
      (equal_bytes _ _ (sym (first.3 ∙ parts.1))))

  -- ---- one more package

  -- nothing changes if it is ignored
  first_ignored : (n : ℕ) → ignored n ≡ true → firsts tree ignored (n + 1) ≡ firsts tree ignored n
  first_ignored n e =
      let fails : is_first tree ignored n ≡ false = ap (λ b. not b && not (list_any (is_with tree ignored n) (range_with_len 0 n))) e in
      filter_next (is_first tree ignored) n ∙ ap (λ b. firsts tree ignored n ++ cond b (n ∷ []) []) fails ∙ append-nil (firsts tree ignored n)

  made_ignored : (n p : ℕ) → ignored n ≡ true → made_below tree ignored (n + 1) p ≡ made_below tree ignored n p
  made_ignored n p e =
      let fails : is_with tree ignored p n ≡ false = ap (λ b. bytes_eq (group_at tree n) (group_at tree p) && not b) e ∙ and_false _ in
      filter_next (is_with tree ignored p) n ∙ ap (λ b. made_below tree ignored n p ++ cond b (n ∷ []) []) fails ∙ append-nil (made_below tree ignored n p)

  -- its group is new, or is there already
  groups_next : (n : ℕ) → ignored n ≡ false → groups_below tree ignored (n + 1) ≡ insert_key bytes_eq (groups_below tree ignored n) (group_at tree n)
  groups_next n free =
      let same = any_group n n in
      ap (map (group_at tree)) (filter_next (is_first tree ignored) n)
      ∙ map-append (group_at tree) (firsts tree ignored n) _
      ∙ ap (λ b. groups_below tree ignored n ++ map (group_at tree) (cond (not b && not (list_any (is_with tree ignored n) (range_with_len 0 n))) (n ∷ []) [])) free
      ∙ ap (λ b. groups_below tree ignored n ++ map (group_at tree) (cond (not b) (n ∷ []) [])) (sym same)
      ∙ by (list_any (bytes_eq (group_at tree n)) (groups_below tree ignored n))
    where
      by : (b : Bool) → (groups_below tree ignored n ++ map (group_at tree) (cond (not b) (n ∷ []) [])) ≡ cond b (groups_below tree ignored n) (groups_below tree ignored n ++ group_at tree n ∷ [])
      by true = append-nil (groups_below tree ignored n)
      by false = refl

  -- earlier packages keep their indexes
  places_next : (n : ℕ) (p : ℕ) → p < n → place_of tree ignored (groups_below tree ignored n) p ≡ place_of tree ignored (groups_below tree ignored (n + 1)) p
  places_next n p lt = by (ignored n) (ignored p) refl refl
    where
      by : (b c : Bool) → ignored n ≡ b → ignored p ≡ c
          → cond c None (position (bytes_eq (group_at tree p)) (groups_below tree ignored n)) ≡ cond c None (position (bytes_eq (group_at tree p)) (groups_below tree ignored (n + 1)))
      by b true e e' = refl
      by true false e e' = ap (λ fs. position (bytes_eq (group_at tree p)) (map (group_at tree) fs)) (sym (first_ignored n e))
      by false false e e' =
          let first = covered p e' in
          let there : list_any (bytes_eq (group_at tree p)) (groups_below tree ignored n) ≡ true =
          any_group n p ∙ any_of (is_with tree ignored p) (range_with_len 0 n) p (below_in n p lt) (with_from p p e' refl) in
          let found = place_there (bytes_eq (group_at tree p)) (groups_below tree ignored n) there in
          found.1
          ∙ sym (ap (position (bytes_eq (group_at tree p))) (groups_next n e)
          ∙ cond_both (list_any (bytes_eq (group_at tree n)) (groups_below tree ignored n)) (groups_below tree ignored n) (groups_below tree ignored n ++ group_at tree n ∷ [])
          (λ ts. position (bytes_eq (group_at tree p)) ts ≡ Some found.0) (λ t. found.1)
          (λ f. position-push (bytes_eq (group_at tree p)) found.0 (groups_below tree ignored n) (group_at tree n) found.1))

  pub places_more : (n : ℕ) (o : Option ℕ) → o ≡ place_of tree ignored (groups_below tree ignored (n + 1)) n
      → map (place_of tree ignored (groups_below tree ignored n)) (range_with_len 0 n) ++ o ∷ []
      ≡ map (place_of tree ignored (groups_below tree ignored (n + 1))) (range_with_len 0 (n + 1))
  places_more n o e =
      let was = map_same (place_of tree ignored (groups_below tree ignored n)) (place_of tree ignored (groups_below tree ignored (n + 1))) (range_with_len 0 n)
      (λ p here. places_next n p (in_below n p here)) in
      let joined : map (place_of tree ignored (groups_below tree ignored n)) (range_with_len 0 n) ++ o ∷ []
      ≡ map (place_of tree ignored (groups_below tree ignored (n + 1))) (range_with_len 0 n) ++ place_of tree ignored (groups_below tree ignored (n + 1)) n ∷ [] =
      λ i. was i ++ e i ∷ [] in
      joined
      ∙ sym (map-append (place_of tree ignored (groups_below tree ignored (n + 1))) (range_with_len 0 n) (n ∷ []))
      ∙ ap (map (place_of tree ignored (groups_below tree ignored (n + 1)))) (sym (range_next n))

  -- ---- the packages of each unit

  -- the package at n is in the group of the one at f
  abbrev is_of : ℕ → ℕ → Bool
  is_of n f = bytes_eq (group_at tree n) (group_at tree f)

  made_here : (n f : ℕ) → ignored n ≡ false → is_of n f ≡ true → made_below tree ignored (n + 1) f ≡ made_below tree ignored n f ++ n ∷ []
  made_here n f free e =
      filter_next (is_with tree ignored f) n
      ∙ ap (λ b. made_below tree ignored n f ++ cond b (n ∷ []) []) (with_from f n free (same_bytes _ _ e))

  made_elsewhere : (n f : ℕ) → is_of n f ≡ false → made_below tree ignored (n + 1) f ≡ made_below tree ignored n f
  made_elsewhere n f e =
      filter_next (is_with tree ignored f) n
      ∙ ap (λ b. made_below tree ignored n f ++ cond (b && not (ignored n)) (n ∷ []) []) e
      ∙ append-nil (made_below tree ignored n f)

  all_elsewhere : (n : ℕ) (fs : List ℕ) → AllByRecursion (λ t. bytes_eq (group_at tree n) t ≡ false) (map (group_at tree) fs)
      → map (made_below tree ignored n) fs ≡ map (made_below tree ignored (n + 1)) fs
  all_elsewhere n [] h = refl
  all_elsewhere n (f ∷ fs) h =
      let head = sym (made_elsewhere n f h.0) in
      let tail = all_elsewhere n fs h.1 in
      λ i. head i ∷ tail i

  -- one index further
  behind : (n f : ℕ) (fs : List ℕ)
      → put_at (made_below tree ignored n f ∷ map (made_below tree ignored n) fs) (1 + position_or_len (bytes_eq (group_at tree n)) (map (group_at tree) fs)) n
      ≡ made_below tree ignored n f ∷ put_at (map (made_below tree ignored n) fs) (position_or_len (bytes_eq (group_at tree n)) (map (group_at tree) fs)) n
  behind n f fs =
      let k = position_or_len (bytes_eq (group_at tree n)) (map (group_at tree) fs) in
      let next : 1 + k ≡ suc k = omega arith in
      ap (λ m. put_at (made_below tree ignored n f ∷ map (made_below tree ignored n) fs) m n) next

  -- it is added to the unit of its group, if that is there
  put_known : (n : ℕ) (fs : List ℕ) → ignored n ≡ false → IsDistinct bytes_eq (map (group_at tree) fs) → list_any (bytes_eq (group_at tree n)) (map (group_at tree) fs) ≡ true
      → put_at (map (made_below tree ignored n) fs) (position_or_len (bytes_eq (group_at tree n)) (map (group_at tree) fs)) n ≡ map (made_below tree ignored (n + 1)) fs
  put_known n [] free once e = absurd (false≢true e)
  put_known n (f ∷ fs) free once e =
      by (is_of n f) refl e (put_known n fs free (IsDistinct-tail bytes_eq (group_at tree f) (map (group_at tree) fs) once))
    where
      by : (b : Bool) → is_of n f ≡ b → (b || list_any (bytes_eq (group_at tree n)) (map (group_at tree) fs)) ≡ true
          → (list_any (bytes_eq (group_at tree n)) (map (group_at tree) fs) ≡ true
          → put_at (map (made_below tree ignored n) fs) (position_or_len (bytes_eq (group_at tree n)) (map (group_at tree) fs)) n ≡ map (made_below tree ignored (n + 1)) fs)
          → put_at (made_below tree ignored n f ∷ map (made_below tree ignored n) fs) (cond (not b) (1 + position_or_len (bytes_eq (group_at tree n)) (map (group_at tree) fs)) 0) n
          ≡ made_below tree ignored (n + 1) f ∷ map (made_below tree ignored (n + 1)) fs
      by true here e rest =
          let apart = IsDistinct-head bytes_eq (group_at tree f) (map (group_at tree) fs) once in
          let head = sym (made_here n f free here) in
          let tail = all_elsewhere n fs (subst (λ t. AllByRecursion (λ u. bytes_eq t u ≡ false) (map (group_at tree) fs)) (sym (same_bytes _ _ here)) apart) in
          λ i. head i ∷ tail i
      by false here e rest =
          let head = sym (made_elsewhere n f here) in
          let tail = rest e in
          behind n f fs ∙ (λ i. head i ∷ tail i)

  put_new : (n : ℕ) (fs : List ℕ) → list_any (bytes_eq (group_at tree n)) (map (group_at tree) fs) ≡ false
      → put_at (map (made_below tree ignored n) fs) (position_or_len (bytes_eq (group_at tree n)) (map (group_at tree) fs)) n
      ≡ map (made_below tree ignored (n + 1)) fs ++ (n ∷ []) ∷ []
  put_new n [] e = refl
  put_new n (f ∷ fs) e =
      let parts = or_parts (is_of n f) _ e in
      let head = sym (made_elsewhere n f parts.0) in
      let tail = put_new n fs parts.1 in
      ap (λ b. put_at (made_below tree ignored n f ∷ map (made_below tree ignored n) fs) (cond (not b) (1 + position_or_len (bytes_eq (group_at tree n)) (map (group_at tree) fs)) 0) n) parts.0
      ∙ behind n f fs ∙ (λ i. head i ∷ tail i)

  -- it is the first of its unit
  made_first : (n : ℕ) → ignored n ≡ false → list_any (is_with tree ignored n) (range_with_len 0 n) ≡ false → made_below tree ignored (n + 1) n ≡ n ∷ []
  made_first n free e = made_here n n free (equal_bytes (group_at tree n) (group_at tree n) refl) ∙ ap (λ xs. xs ++ n ∷ []) (none_kept (is_with tree ignored n) (range_with_len 0 n) e)

  packages_next : (n : ℕ) → ignored n ≡ false
      → put_at (map (made_below tree ignored n) (firsts tree ignored n)) (position_or_len (bytes_eq (group_at tree n)) (groups_below tree ignored n)) n
      ≡ map (made_below tree ignored (n + 1)) (firsts tree ignored (n + 1))
  packages_next n free = by (list_any (is_with tree ignored n) (range_with_len 0 n)) refl
    where
      by : (b : Bool) → list_any (is_with tree ignored n) (range_with_len 0 n) ≡ b
          → put_at (map (made_below tree ignored n) (firsts tree ignored n)) (position_or_len (bytes_eq (group_at tree n)) (groups_below tree ignored n)) n
          ≡ map (made_below tree ignored (n + 1)) (firsts tree ignored (n + 1))
      by true e =
          let fails : is_first tree ignored n ≡ false = ap (λ b. not (ignored n) && not b) e ∙ and_false _ in
          let same : firsts tree ignored (n + 1) ≡ firsts tree ignored n =
          filter_next (is_first tree ignored) n ∙ ap (λ b. firsts tree ignored n ++ cond b (n ∷ []) []) fails ∙ append-nil (firsts tree ignored n) in
          put_known n (firsts tree ignored n) free (groups_distinct n) (any_group n n ∙ e) ∙ ap (map (made_below tree ignored (n + 1))) (sym same)
      by false e =
          let first : is_first tree ignored n ≡ true = and_from _ _ (ap not free) (ap not e) in
          let more : firsts tree ignored (n + 1) ≡ firsts tree ignored n ++ n ∷ [] =
          filter_next (is_first tree ignored) n ∙ ap (λ b. firsts tree ignored n ++ cond b (n ∷ []) []) first in
          put_new n (firsts tree ignored n) (any_group n n ∙ e)
          ∙ ap (λ ps. map (made_below tree ignored (n + 1)) (firsts tree ignored n) ++ ps ∷ []) (sym (made_first n free e))
          ∙ sym (map-append (made_below tree ignored (n + 1)) (firsts tree ignored n) (n ∷ []))
          ∙ ap (map (made_below tree ignored (n + 1))) (sym more)

-- ---- the gathered state

pub gathered_none : (tree : Tree) (ignored : ℕ → Bool) (g : Gathered) → g.groups.keys ≡ [] → g.packages.items ≡ [] → g.numbers.items ≡ [] → AreGathered tree ignored 0 g
gathered_none tree ignored g e f h = record { groups = e; packages = ap lists_of f; numbers = h }

-- an ignored package
pub gathered_ignored : (tree : Tree) (ignored : ℕ → Bool) (n : ℕ) (g h : Gathered) → AreGathered tree ignored n g → ignored n ≡ true → h.groups.keys ≡ g.groups.keys
    → h.packages.items ≡ g.packages.items → h.numbers.items ≡ g.numbers.items ++ None ∷ [] → AreGathered tree ignored (n + 1) h
gathered_ignored tree ignored n g h are e groups packages numbers =
    let same = first_ignored tree ignored n e in
    record {
      groups = groups ∙ are.groups ∙ ap (map (group_at tree)) (sym same);
      packages =
          ap lists_of packages ∙ are.packages
          ∙ map_same (made_below tree ignored n) (made_below tree ignored (n + 1)) (firsts tree ignored n) (λ p _. sym (made_ignored tree ignored n p e))
          ∙ ap (map (made_below tree ignored (n + 1))) (sym same);
      numbers =
          numbers ∙ ap (λ xs. xs ++ None ∷ []) are.numbers
          ∙ places_more tree ignored n None (ap (λ b. cond b None (position (bytes_eq (group_at tree n)) (groups_below tree ignored (n + 1)))) (sym e));
    }

-- a package that is not ignored
pub gathered_more : (tree : Tree) (ignored : ℕ → Bool) (n : ℕ) (g h : Gathered) → AreGathered tree ignored n g → ignored n ≡ false → Takes (group_at tree n) n g h
    → AreGathered tree ignored (n + 1) h
gathered_more tree ignored n g h are free takes =
    let groups : h.groups.keys ≡ groups_below tree ignored (n + 1) =
    takes.groups ∙ ap (λ ts. insert_key bytes_eq ts (group_at tree n)) are.groups ∙ sym (groups_next tree ignored n free) in
    let place : position_or_len (bytes_eq (group_at tree n)) (groups_below tree ignored n) ≡ takes.number =
    sym (cond_both (list_any (bytes_eq (group_at tree n)) (groups_below tree ignored n)) (groups_below tree ignored n) (groups_below tree ignored n ++ group_at tree n ∷ [])
    (λ ts. position_or_len (bytes_eq (group_at tree n)) ts ≡ position_or_len (bytes_eq (group_at tree n)) (groups_below tree ignored n)) (λ t. refl)
    (λ f. first_place-push (bytes_eq (group_at tree n)) (groups_below tree ignored n) (group_at tree n) (equal_bytes (group_at tree n) (group_at tree n) refl)))
    ∙ ap (position_or_len (bytes_eq (group_at tree n))) (sym (groups_next tree ignored n free) ∙ sym groups)
    ∙ found_place (bytes_eq (group_at tree n)) h.groups.keys takes.number takes.found in
    record {
      groups = groups;
      packages =
          takes.packages
          ∙ (λ i. put_at (are.packages i) (sym place i) n)
          ∙ packages_next tree ignored n free;
      numbers =
          takes.numbers ∙ ap (λ xs. xs ++ Some takes.number ∷ []) are.numbers
          ∙ places_more tree ignored n (Some takes.number)
          (sym (ap (λ b. cond b None (position (bytes_eq (group_at tree n)) (groups_below tree ignored (n + 1)))) free
          ∙ ap (position (bytes_eq (group_at tree n))) (sym groups) ∙ takes.found));
    }

-- ---- a list of lists

put_last : (xs : List (List ℕ)) (p : ℕ) → put_at xs (length xs) p ≡ xs ++ (p ∷ []) ∷ []
put_last [] p = refl
put_last (x ∷ xs) p = ap (λ ys. x ∷ ys) (put_last xs p)

pub put_behind : {Z : Type 0} (vs : List (Vec ℕ Z)) (v : Vec ℕ Z) (k p : ℕ) → k ≡ length vs → v.items ≡ p ∷ [] → lists_of (vs ++ v ∷ []) ≡ put_at (lists_of vs) k p
put_behind {Z} vs v k p e is =
    let items : Vec ℕ Z → List ℕ = λ w. w.items in
    map-append items vs (v ∷ []) ∙ ap (λ xs. lists_of vs ++ xs ∷ []) is ∙ sym (put_last (lists_of vs) p)
    ∙ ap (λ n. put_at (lists_of vs) n p) (length-map vs items ∙ sym e)

pub put_inside : {Z : Type 0} (vs : List (Vec ℕ Z)) (v w : Vec ℕ Z) (k p : ℕ) → k < length vs → v ≡ get_or vs k v → w.items ≡ v.items ++ p ∷ []
    → lists_of (set vs k w) ≡ put_at (lists_of vs) k p
put_inside [] v w k p lt here is = absurd (omega arith)
put_inside {Z} (x ∷ vs) v w zero p lt here is =
    let items : Vec ℕ Z → List ℕ = λ u. u.items in
    ap (λ xs. xs ∷ lists_of vs) (is ∙ ap (λ u. items u ++ p ∷ []) here)
put_inside (x ∷ vs) v w (suc k) p lt here is = ap (λ xs. x.items ∷ xs) (put_inside vs v w k p (omega arith) here is)

-- there are no more groups than packages
pub few_groups : (tree : Tree) (ignored : ℕ → Bool) (n : ℕ) (g : Gathered) → AreGathered tree ignored n g → length g.groups.keys ≤ n
few_groups tree ignored n g are =
    let fs = firsts tree ignored n in
    omega (arith, ap length are.groups, length-map fs (group_at tree), length-filter (is_first tree ignored) (range_with_len 0 n), count_by-le-length (is_first tree ignored) (range_with_len 0 n), length-range_with_len 0 n)
