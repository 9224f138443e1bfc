-- Sets of texts: their elements, that they ascend, and that sorting makes them.
use Rattle.std.proofs.Common.{◌≡◌, ◌⊎◌, ◌∙◌, ◌+◌, ◌<◌, inl, inr, Bool, true, false, cond, List, [], ◌∷◌, length, map, refl, sym, ap, subst, arith}
use Rattle.std.specs.Prelude.{Contains}
use Rattle.std.specs.Cmp.Lexicographic.{bytes_decides, nat_list_cmp_total, nat_list_eq_equiv, texts_ties}
use Rattle.std.specs.List.{dedup, dedup_from}
use Rattle.std.specs.List.Retain.{DiffersFromLast, IsFiltered}
use Rattle.std.specs.List.Sorted.{IsPermutation, IsSorted, IsSortedByKey, IsStrictlySortedBy}
use Rattle.std.specs.Ordering.{is_eq, ordering_reverse}
use Rattle.std.specs.declared.cmp.Ordering.{Ordering}
use Rattle.std.specs.declared.cmp.Ordering.TheVariants.{Less, Equal, Greater}
use Rattle.std.specs.Str.{bytes_eq}
use Rattle.std.proofs.lemmas.List.{get_or-map, length-map}
use Rattle.std.proofs.lemmas.List.Elements.{All-contains, All-from_recursion}
use Rattle.std.proofs.lemmas.List.Filters.{dedup_is}
use Rattle.std.proofs.lemmas.List.Kept.{Contains-dedup, Contains-from_dedup, IsStrictlySortedBy-dedup}
use Rattle.std.proofs.lemmas.List.Sorted.{Contains-permutation, IsPermutation-map, IsPermutation-sym}
use Rattle.faults.specs.Bytes.{Text}
use Rattle.faults.specs.Pieces.{by_order, set_of, text_cmp, with_member}
use Rattle.faults.proofs.Ascending.{Rising, same_members}
use Rattle.faults.proofs.Members.{contains_first, contains_later, member_cases, no_members}

-- ---- elements

-- texts that compare as equal are equal
pub same_texts : (t u : Text) → text_cmp t u ≡ Equal → t ≡ u
same_texts t u same = (bytes_decides t u).0 (texts_ties t u ∙ ap is_eq same)

abbrev InSetWith : Text → List Text → Text → Type 0
InSetWith t us x = (t ≡ x) ⊎ Contains us x

member_with : (t x : Text) (us : List Text) → Contains (with_member t us) x → InSetWith t us x
member_with t x [] member = member_cases t x [] member
member_with t x (u ∷ us) member = by (text_cmp t u) member (member_with t x us)
  where
    by : (o : Ordering) → Contains (by_order o (t ∷ u ∷ us) (u ∷ us) (u ∷ with_member t us)) x → (Contains (with_member t us) x → InSetWith t us x)
        → InSetWith t (u ∷ us) x
    by Less member rest = member_cases t x (u ∷ us) member
    by Equal member rest = inr member
    by Greater member rest =
        elim (member_cases u x (with_member t us) member) [
          | inl e ↦ inr (subst (Contains (u ∷ us)) e (contains_first u us))
          | inr later ↦ elim (rest later) [ inl e ↦ inl e | inr old ↦ inr (contains_later u x us old) ]
        ]

new_member : (t : Text) (us : List Text) → Contains (with_member t us) t
new_member t [] = contains_first t []
new_member t (u ∷ us) = by (text_cmp t u) refl (new_member t us)
  where
    by : (o : Ordering) → text_cmp t u ≡ o → Contains (with_member t us) t → Contains (by_order o (t ∷ u ∷ us) (u ∷ us) (u ∷ with_member t us)) t
    by Less e rest = contains_first t (u ∷ us)
    by Equal e rest = subst (Contains (u ∷ us)) (sym (same_texts t u e)) (contains_first u us)
    by Greater e rest = contains_later u t (with_member t us) rest

old_member : (t x : Text) (us : List Text) → Contains us x → Contains (with_member t us) x
old_member t x [] member = contains_later t x [] member
old_member t x (u ∷ us) member = by (text_cmp t u) (old_member t x us)
  where
    by : (o : Ordering) → (Contains us x → Contains (with_member t us) x) → Contains (by_order o (t ∷ u ∷ us) (u ∷ us) (u ∷ with_member t us)) x
    by Less rest = contains_later t x (u ∷ us) member
    by Equal rest = member
    by Greater rest =
        elim (member_cases u x us member) [
          | inl e ↦ subst (Contains (u ∷ with_member t us)) e (contains_first u (with_member t us))
          | inr later ↦ contains_later u x (with_member t us) (rest later)
        ]

-- an element of a list's set is one of the list
pub from_set : (ts : List Text) (x : Text) → Contains (set_of ts) x → Contains ts x
from_set [] x member = member
from_set (t ∷ ts) x member =
    elim (member_with t x (set_of ts) member) [
      | inl e ↦ subst (Contains (t ∷ ts)) e (contains_first t ts)
      | inr old ↦ contains_later t x ts (from_set ts x old)
    ]

-- and conversely
pub into_set : (ts : List Text) (x : Text) → Contains ts x → Contains (set_of ts) x
into_set [] x member = member
into_set (t ∷ ts) x member =
    elim (member_cases t x ts member) [
      | inl e ↦ subst (Contains (set_of (t ∷ ts))) e (new_member t (set_of ts))
      | inr later ↦ old_member t x (set_of ts) (into_set ts x later)
    ]

-- ---- order

pub flipped : (t u : Text) → text_cmp t u ≡ Greater → text_cmp u t ≡ Less
flipped t u greater = nat_list_cmp_total.antisymm u t ∙ ap ordering_reverse greater

rising_with : (t : Text) (us : List Text) → Rising text_cmp us → Rising text_cmp (with_member t us)
rising_with t [] rising = (λ u member. absurd (no_members u member), tt)
rising_with t (u ∷ us) rising = by (text_cmp t u) refl (rising_with t us rising.1)
  where
    by : (o : Ordering) → text_cmp t u ≡ o → Rising text_cmp (with_member t us) → Rising text_cmp (by_order o (t ∷ u ∷ us) (u ∷ us) (u ∷ with_member t us))
    by Less e rest = (
      λ x member.
          elim (member_cases u x us member) [
            | inl same ↦ subst (λ w. text_cmp t w ≡ Less) same e
            | inr later ↦ nat_list_cmp_total.trans t u x e (rising.0 x later)
          ],
      rising,
    )
    by Equal e rest = rising
    by Greater e rest = (
      λ x member.
          elim (member_with t x us member) [
            | inl same ↦ subst (λ w. text_cmp u w ≡ Less) same (flipped t u e)
            | inr old ↦ rising.0 x old
          ],
      rest,
    )

-- a set ascends
pub set_rises : (ts : List Text) → Rising text_cmp (set_of ts)
set_rises [] = tt
set_rises (t ∷ ts) = rising_with t (set_of ts) (set_rises ts)

-- ---- sets by sorting

-- sorted texts without repetition ascend
rises : (us : List Text) → IsStrictlySortedBy text_cmp us → Rising text_cmp us
unfolding IsStrictlySortedBy
rises [] sorted = tt
rises (u ∷ us) sorted =
    let below = All-from_recursion (λ w. text_cmp u w ≡ Less) us sorted.0 in
    (λ t member. All-contains (λ w. text_cmp u w ≡ Less) us t below member, rises us sorted.1)

-- ascending texts with the elements of a list are its set
same_set : (ts us : List Text) → Rising text_cmp us → ((x : Text) → Contains us x → Contains ts x)
    → ((x : Text) → Contains ts x → Contains us x) → us ≡ set_of ts
same_set ts us rising there back =
    same_members text_cmp nat_list_cmp_total us (set_of ts) rising (set_rises ts)
    (λ x member. into_set ts x (there x member)) (λ x member. back x (from_set ts x member))

-- ascending texts are a set
pub set_stays : (ts : List Text) → Rising text_cmp ts → set_of ts ≡ ts
set_stays ts rising = sym (same_set ts ts rising (λ x member. member) (λ x member. member))

-- a list that is sorted, and from which repetitions are then removed, is its set
sorted_set : (ts us : List Text) → IsPermutation ts us → IsSorted text_cmp us
    → dedup bytes_eq us ≡ set_of ts
sorted_set ts us moved sorted =
    let moved_back = IsPermutation-sym ts us moved in
    let strictly = IsStrictlySortedBy-dedup nat_list_cmp_total texts_ties us sorted in
    same_set ts (dedup bytes_eq us) (rises (dedup bytes_eq us) strictly)
    (λ x member. Contains-permutation us ts x moved_back (Contains-from_dedup bytes_eq us x member))
    (λ x member.
    let there = Contains-permutation ts us x moved member in
    Contains-dedup nat_list_eq_equiv (λ t u. (bytes_decides t u).0) us x there)

module _ {X : Type 0} (f : X → Text) where
  -- their texts are equal
  abbrev same_text : X → X → Bool
  same_text x y = bytes_eq (f x) (f y)

  dedup_from-map : (x : X) (xs : List X)
      → map f (dedup_from same_text x xs) ≡ dedup_from bytes_eq (f x) (map f xs)
  dedup_from-map x [] = refl
  dedup_from-map x (y ∷ ys) = by (same_text y x) (dedup_from-map x ys) (dedup_from-map y ys)
    where
      by : (same : Bool)
          → map f (dedup_from same_text x ys) ≡ dedup_from bytes_eq (f x) (map f ys)
          → map f (dedup_from same_text y ys) ≡ dedup_from bytes_eq (f y) (map f ys)
          → map f (cond same (dedup_from same_text x ys) (x ∷ dedup_from same_text y ys))
          ≡ cond same (dedup_from bytes_eq (f x) (map f ys))
          (f x ∷ dedup_from bytes_eq (f y) (map f ys))
      by true without with = without
      by false without with = ap (λ rest. f x ∷ rest) with

  dedup-map : (xs : List X) → map f (dedup same_text xs) ≡ dedup bytes_eq (map f xs)
  dedup-map [] = refl
  dedup-map (x ∷ xs) = dedup_from-map x xs

  sorted_map : (xs : List X) → IsSortedByKey f text_cmp xs → IsSorted text_cmp (map f xs)
  sorted_map xs sorted k d low high =
      let next : k + 1 < length xs = omega (arith, length-map xs f, high) in
      let x = first_of xs (omega arith) in
      rw (get_or-map f xs (k + 1) x d next, get_or-map f xs k x d (omega arith))
      (sorted k x low next)
    where
      first_of : (ys : List X) → 0 < length ys → X
      first_of [] some = absurd (omega arith)
      first_of (y ∷ ys) some = y

  -- elements that are sorted by their texts, and from which those with a repeated text are then
  -- removed, have the set of the texts
  pub set_by_sorting : (xs ys zs : List X) → IsPermutation xs ys → IsSortedByKey f text_cmp ys
      → IsFiltered (DiffersFromLast same_text) [] ys zs → map f zs ≡ set_of (map f xs)
  set_by_sorting xs ys zs moved sorted kept =
      ap (map f) (dedup_is same_text ys zs kept) ∙ dedup-map ys
      ∙ sorted_set (map f xs) (map f ys) (IsPermutation-map f xs ys moved) (sorted_map ys sorted)
