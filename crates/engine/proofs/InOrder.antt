-- The packages of a unit in order of path.
use Rattle.std.proofs.Common.{◌≡◌, ◌≢◌, ◌<◌, ◌+◌, inl, inr, ℕ, Bool, false, List, [], ◌∷◌, length, map, get_or, Option, None, Some, refl, sym, ap, subst, ◌∙◌, arith}
use Rattle.std.specs.Prelude.{◌++◌, AllPairs, Contains, filter_map, option_to_list, take}
use Rattle.std.proofs.lemmas.List.Elements.{filter_map-append}
use Rattle.std.specs.List.{cons_option}
use Rattle.std.specs.List.Sorted.{IsPermutation, IsSorted, IsSortedBy, IsStrictlyIncreasing}
use Rattle.std.specs.Ordering.{is_lt, ordering_reverse}
use Rattle.std.specs.declared.cmp.Ordering.{Ordering}
use Rattle.std.specs.declared.cmp.Ordering.TheVariants.{Less, Equal, Greater}
use Rattle.std.specs.Str.{bytes_eq}
use Rattle.std.specs.Cmp.Lexicographic.{nat_list_cmp_total, nat_list_eq_equiv}
use Rattle.std.proofs.lemmas.Bool.{true≢false}
use Rattle.std.proofs.lemmas.List.{get_or-map, get_or_default, length-map, map-append, take_more}
use Rattle.std.proofs.lemmas.List.Kept.{AllPairs-from_increasing}
use Rattle.std.proofs.lemmas.List.Sorted.{Contains-permutation, IsPermutation-map, IsPermutation-sym, ranks_by, sorted_far}
use Rattle.std.proofs.lemmas.Map.Keys.{IsDistinct-IsPermutation}
use Rattle.std.proofs.lemmas.Map.Made.{AllPairs-from_IsDistinct, IsDistinct-from_AllPairs}
use Rattle.std.proofs.lemmas.Slice.Eq.{bytes_eq-Decides}
use Rattle.faults.specs.Bytes.{Text}
use Rattle.faults.specs.Pieces.{set_of, text_cmp}
use Rattle.faults.proofs.Ascending.{rising_from_pairs, same_members}
use Rattle.faults.proofs.Members.{contains_first, contains_image, contains_later, has_preimage, member_cases, no_members}
use Rattle.faults.proofs.Sets.{from_set, into_set, same_texts, set_rises}
use Rattle.listing.specs.Tree.{IsTree, Tree, path_at, position_of}
use Rattle.engine.proofs.Places.{has_position, listed_at}
use Rattle.engine.specs.Units.{in_order_of_path}

-- ---- the results of f for a list's items

from_given : (f : Text → Option ℕ) (ts : List Text) (q : ℕ) → Contains (filter_map f ts) q → (t : Text) × Contains ts t × (f t ≡ Some q)
from_given f [] q member = absurd (no_members q member)
from_given f (t ∷ ts) q member = by (f t) refl member (from_given f ts q)
  where
    by : (o : Option ℕ) → f t ≡ o → Contains (cons_option o (filter_map f ts)) q → (Contains (filter_map f ts) q → (u : Text) × Contains ts u × (f u ≡ Some q))
        → (u : Text) × Contains (t ∷ ts) u × (f u ≡ Some q)
    by None e member rest = let r = rest member in (r.0, contains_later t r.0 ts r.1, r.2)
    by (Some p) e member rest =
        elim (member_cases p q (filter_map f ts) member) [
          | inl same ↦ (t, contains_first t ts, e ∙ ap (λ n. Some n) same)
          | inr later ↦ let r = rest later in (r.0, contains_later t r.0 ts r.1, r.2)
        ]

into_given : (f : Text → Option ℕ) (ts : List Text) (t : Text) (q : ℕ) → Contains ts t → f t ≡ Some q → Contains (filter_map f ts) q
into_given f [] t q member e = absurd (no_members t member)
into_given f (u ∷ ts) t q member e =
    elim (member_cases u t ts member) [
      | inl same ↦ subst (λ o. Contains (cons_option o (filter_map f ts)) q) (sym (ap f same ∙ e)) (contains_first q (filter_map f ts))
      | inr later ↦ by (f u) (into_given f ts t q later e)
    ]
  where
    by : (o : Option ℕ) → Contains (filter_map f ts) q → Contains (cons_option o (filter_map f ts)) q
    by None member = member
    by (Some p) member = contains_later p q (filter_map f ts) member

-- ---- members in order

module _ (tree : Tree) (is : IsTree tree) where
  pub from_order : (ps : List ℕ) (q : ℕ) → ((p : ℕ) → Contains ps p → p < length tree) → Contains (in_order_of_path tree ps) q → Contains ps q
  from_order ps q listed member =
      let given = from_given (position_of tree) (set_of (map (path_at tree) ps)) q member in
      let from = has_preimage (path_at tree) ps given.0 (from_set (map (path_at tree) ps) given.0 given.1) in
      let there = listed_at tree given.0 q given.2 in
      subst (Contains ps) (is.once from.0 q (listed from.0 from.1) there.0 (from.2 ∙ sym there.1)) from.1

  pub into_order : (ps : List ℕ) (q : ℕ) → q < length tree → Contains ps q → Contains (in_order_of_path tree ps) q
  into_order ps q lt member =
      into_given (position_of tree) (set_of (map (path_at tree) ps)) (path_at tree q) q
      (into_set (map (path_at tree) ps) (path_at tree q) (contains_image (path_at tree) ps q member)) (has_position tree (path_at tree q) q is lt refl)

  -- one position in order of path
  pub order_alone : (p : ℕ) → p < length tree → in_order_of_path tree (p ∷ []) ≡ p ∷ []
  order_alone p lt = ap (λ o. cons_option o []) (has_position tree (path_at tree p) p is lt refl)

  -- texts that are paths of packages are the paths of their positions
  paths_back : (ts : List Text) → ((t : Text) → Contains ts t → (p : ℕ) × (p < length tree) × (path_at tree p ≡ t)) → map (path_at tree) (filter_map (position_of tree) ts) ≡ ts
  paths_back [] h = refl
  paths_back (t ∷ ts) h =
      let here = h t (contains_first t ts) in
      let tail = paths_back ts (λ u member. h u (contains_later t u ts member)) in
      ap (λ o. map (path_at tree) (cons_option o (filter_map (position_of tree) ts))) (has_position tree t here.0 is here.1 here.2)
      ∙ (λ i. here.2 i ∷ tail i)

  -- in order of path, the paths are the set of paths
  pub order_paths : (ps : List ℕ) → ((p : ℕ) → Contains ps p → p < length tree) → map (path_at tree) (in_order_of_path tree ps) ≡ set_of (map (path_at tree) ps)
  order_paths ps listed = paths_back (set_of (map (path_at tree) ps)) (λ t member.
      let from = has_preimage (path_at tree) ps t (from_set (map (path_at tree) ps) t member) in
      (from.0, listed from.0 from.1, from.2))

  -- different positions have different paths
  pub paths_differ : (ps : List ℕ) → ((p : ℕ) → Contains ps p → p < length tree) → IsStrictlyIncreasing ps → AllPairs ◌≢◌ (map (path_at tree) ps)
  paths_differ ps listed rising i j d lt within same =
      let size = length-map ps (path_at tree) in
      let last : j < length ps = omega (arith, within, size) in
      let before : i < length ps = omega (arith, lt, last) in
      let paths : path_at tree (get_or ps i 0) ≡ path_at tree (get_or ps j 0) = sym (get_or-map (path_at tree) ps i 0 d before) ∙ same ∙ get_or-map (path_at tree) ps j 0 d last in
      let one = is.once (get_or ps i 0) (get_or ps j 0) (listed _ (at_place ps i before)) (listed _ (at_place ps j last)) paths in
      let up = AllPairs-from_increasing ps rising i j 0 lt last in
      omega (arith, one, up)
    where
      at_place : (xs : List ℕ) (k : ℕ) → k < length xs → Contains xs (get_or xs k 0)
      at_place xs k l = (k, l, get_or_default xs k (get_or xs k 0) 0 l)

-- a list with two different members has at least two elements
pub two_members : (xs : List ℕ) (p q : ℕ) → p ≢ q → Contains xs p → Contains xs q → (a b : ℕ) × (rest : List ℕ) × (xs ≡ a ∷ b ∷ rest)
two_members [] p q apart mp mq = absurd (no_members p mp)
two_members (a ∷ []) p q apart mp mq =
    absurd (elim (member_cases a p [] mp) [
      | inl e ↦ elim (member_cases a q [] mq) [ inl f ↦ apart (sym e ∙ f) | inr m ↦ no_members q m ]
      | inr m ↦ no_members p m
    ])
two_members (a ∷ b ∷ rest) p q apart mp mq = (a, b, rest, refl)

-- ---- sorting

sorted_map : {X Y : Type 0} (f : X → Y) (lt : Y → Y → Bool) (xs : List X) → IsSortedBy (λ x y. lt (f x) (f y)) xs → IsSortedBy lt (map f xs)
sorted_map f lt [] up k e le within = absurd (omega arith)
sorted_map f lt (x ∷ xs) up k e le within =
    let size = length-map (x ∷ xs) f in
    let here = get_or-map f (x ∷ xs) k x e (omega (arith, within, size)) in
    let next = get_or-map f (x ∷ xs) (k + 1) x e (omega (arith, within, size)) in
    (λ i. lt (next i) (here i)) ∙ up k x le (omega (arith, within, size))

less_by : (o : Ordering) → is_lt o ≡ false → (o ≡ Equal → ⊥) → ordering_reverse o ≡ Less
less_by Less e other = absurd (true≢false e)
less_by Equal e other = absurd (other refl)
less_by Greater e other = refl

-- sorted texts that are distinct ascend
sorted_pairs : (us : List Text) → IsSorted text_cmp us → AllPairs ◌≢◌ us → AllPairs (λ x y. text_cmp x y ≡ Less) us
sorted_pairs us up differ i j d lt within =
    let far = sorted_far (λ x y. is_lt (text_cmp x y)) (ranks_by nat_list_cmp_total (λ x. x)) us up i j d (omega (arith, lt)) within in
    nat_list_cmp_total.antisymm (get_or us i d) (get_or us j d)
    ∙ less_by (text_cmp (get_or us j d) (get_or us i d)) far (λ same. differ i j d lt within (sym (same_texts (get_or us j d) (get_or us i d) same)))

-- a sorted permutation of distinct texts is their set
pub sorted_set : (ts us : List Text) → AllPairs ◌≢◌ ts → IsPermutation ts us → IsSorted text_cmp us → us ≡ set_of ts
sorted_set ts us differ moved up =
    let moved_differ = AllPairs-from_IsDistinct bytes_eq-Decides us (IsDistinct-IsPermutation bytes_eq nat_list_eq_equiv.symm ts us moved (IsDistinct-from_AllPairs bytes_eq-Decides ts differ)) in
    same_members text_cmp nat_list_cmp_total us (set_of ts) (rising_from_pairs text_cmp us (sorted_pairs us up moved_differ)) (set_rises ts)
    (λ t member. into_set ts t (Contains-permutation us ts t (IsPermutation-sym ts us moved) member))
    (λ t member. Contains-permutation ts us t moved (from_set ts t member))

-- items sorted by a key
pub sorted_as_set : {X : Type 0} (f : X → Text) (xs ys : List X) (ts : List Text) → map f xs ≡ ts → AllPairs ◌≢◌ ts → IsPermutation xs ys
    → IsSortedBy (λ x y. is_lt (text_cmp (f x) (f y))) ys → map f ys ≡ set_of ts
sorted_as_set f xs ys ts e differ moved up =
    sorted_set ts (map f ys) differ (subst (λ us. IsPermutation us (map f ys)) e (IsPermutation-map f xs ys moved)) (sorted_map f (λ x y. is_lt (text_cmp x y)) ys up)

-- ---- the result of f for one more item

given_one : (o : Option ℕ) → cons_option o [] ≡ option_to_list o
given_one None = refl
given_one (Some q) = refl

pub given_ref : {X : Type 0} (now : X → Text) (f : Text → Option ℕ) (xs : List X) (k : ℕ) (x : X) (o : Option ℕ) (before after : List ℕ) → k < length xs → x ≡ get_or xs k x → f (now x) ≡ o
    → before ≡ filter_map f (map now (take k xs)) → after ≡ before ++ option_to_list o → after ≡ filter_map f (map now (take (k + 1) xs))
given_ref now f xs k x o before after lt here e was is =
    is ∙ ap (λ ys. ys ++ option_to_list o) was
    ∙ ap (λ ys. filter_map f (map now (take k xs)) ++ ys) (sym (ap (λ y. cons_option y []) (ap (λ y. f (now y)) (sym here) ∙ e) ∙ given_one o))
    ∙ sym (filter_map-append f (map now (take k xs)) (now (get_or xs k x) ∷ []))
    ∙ ap (filter_map f) (sym (map-append now (take k xs) (get_or xs k x ∷ [])))
    ∙ ap (λ ys. filter_map f (map now ys)) (sym (take_more xs k x lt))
