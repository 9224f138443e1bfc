-- The three kinds of parts, and what a list of parts has of each kind.
use Rattle.std.proofs.Common.{◌≡◌, ℕ, ◌+◌, ◌≤◌, Bool, true, false, ◌||◌, cond, List, [], ◌∷◌, refl, ap, ◌∙◌, arith, Some, None, option_to_list, true≢false, codes, eqb, length, ◌<◌}
use Rattle.std.proofs.lemmas.Bool.{and_from, and_left, and_parts, lt-ltb, not-true, or_left, or_parts, or_right}
use Rattle.std.proofs.lemmas.List.Sums.{sum_by-cons}
use Rattle.std.specs.List.{count_by, filter, find, list_all, list_any, sum_by}
use Rattle.faults.specs.Bytes.{Text, begins_with, is_empty}
use Rattle.pkgpath.specs.Kind.{IsOfKind}
use Rattle.pkgpath.specs.PkgPath.{is_flavor, is_path_byte, is_subpackage}
use Rattle.pkgpath.specs.declared.parts.Kind.TheVariants.{Subpackage, Flavor}

-- ---- a part has at most one kind

pub flavor-is_empty : (p : Text) → is_flavor p ≡ true → is_empty p ≡ false
flavor-is_empty [] flavor = cc
flavor-is_empty (b ∷ bs) flavor = refl

pub flavor-is_subpackage : (p : Text) → is_flavor p ≡ true → is_subpackage p ≡ false
flavor-is_subpackage [] flavor = refl
flavor-is_subpackage (b ∷ bs) flavor = and_left _ _ (not-true _ flavor)

pub subpackage-is_empty : (p : Text) → is_subpackage p ≡ true → is_empty p ≡ false
subpackage-is_empty [] sub = cc
subpackage-is_empty (b ∷ bs) sub = refl

pub subpackage-is_flavor : (p : Text) → is_subpackage p ≡ true → is_flavor p ≡ false
subpackage-is_flavor p sub = by (is_flavor p) refl
  where
    by : (t : Bool) → is_flavor p ≡ t → is_flavor p ≡ false
    by true flavor = let none = flavor-is_subpackage p flavor in cc
    by false other = other

-- ---- all pass one test, and those that pass it fail the other

module _ {X : Type 0} (p q : X → Bool) (apart : (x : X) → p x ≡ true → q x ≡ false) where
  pub list_any-apart : (xs : List X) → list_all p xs ≡ true → list_any q xs ≡ false
  list_any-apart [] all = refl
  list_any-apart (x ∷ xs) all =
      let parts = and_parts (p x) (list_all p xs) all in
      rw (apart x parts.0) (list_any-apart xs parts.1)

module _ {X : Type 0} (p : X → Bool) where
  pub count_by-none : (xs : List X) → list_any p xs ≡ false → count_by p xs ≡ 0
  count_by-none [] none = refl
  count_by-none (x ∷ xs) none =
      let parts = or_parts (p x) (list_any p xs) none in
      sum_by-cons (λ y. cond (p y) 1 0) x xs ∙ rw parts.0 (omega (arith, count_by-none xs parts.1))

  pub filter-none : (xs : List X) → list_any p xs ≡ false → filter p xs ≡ []
  filter-none [] none = refl
  filter-none (x ∷ xs) none =
      let parts = or_parts (p x) (list_any p xs) none in
      rw parts.0 (filter-none xs parts.1)

  pub find-none : (xs : List X) → list_any p xs ≡ false → find p xs ≡ None
  find-none [] none = refl
  find-none (x ∷ xs) none =
      let parts = or_parts (p x) (list_any p xs) none in
      rw parts.0 (find-none xs parts.1)

  pub filter-all : (xs : List X) → list_all p xs ≡ true → filter p xs ≡ xs
  filter-all [] all = refl
  filter-all (x ∷ xs) all =
      let parts = and_parts (p x) (list_all p xs) all in
      rw parts.0 (ap (λ ys. x ∷ ys) (filter-all xs parts.1))

  -- elements that pass the filter pass the test
  pub list_all-filter : (xs : List X) → list_all p (filter p xs) ≡ true
  list_all-filter [] = refl
  list_all-filter (x ∷ xs) = by (p x) refl (list_all-filter xs)
    where
      by : (t : Bool) → p x ≡ t → list_all p (filter p xs) ≡ true → list_all p (cond t (x ∷ filter p xs) (filter p xs)) ≡ true
      by true passes rest = and_from _ _ passes rest
      by false fails rest = rest

  pub list_all-find : (xs : List X) → list_all p (option_to_list (find p xs)) ≡ true
  list_all-find [] = refl
  list_all-find (x ∷ xs) = by (p x) refl (list_all-find xs)
    where
      by : (t : Bool) → p x ≡ t → list_all p (option_to_list (find p xs)) ≡ true → list_all p (option_to_list (cond t (Some x) (find p xs))) ≡ true
      by true passes rest = and_from _ _ passes refl
      by false fails rest = rest

  -- the sum over a filtered list is not greater, and that of the first element found is not greater
  -- than it
  pub sum_by-find : (f : X → ℕ) (xs : List X) → sum_by f (option_to_list (find p xs)) ≤ sum_by f (filter p xs)
  sum_by-find f [] = omega arith
  sum_by-find f (x ∷ xs) = by (p x) (sum_by-find f xs)
    where
      by : (t : Bool) → sum_by f (option_to_list (find p xs)) ≤ sum_by f (filter p xs) → sum_by f (option_to_list (cond t (Some x) (find p xs))) ≤ sum_by f (cond t (x ∷ filter p xs) (filter p xs))
      by true rest = omega (arith, sum_by-cons f x [], sum_by-cons f x (filter p xs))
      by false rest = rest

-- what all pass is passed by those that another filter keeps, and by the first one found
module _ {X : Type 0} (p q : X → Bool) where
  pub list_all-kept : (xs : List X) → list_all p xs ≡ true → list_all p (filter q xs) ≡ true
  list_all-kept [] all = refl
  list_all-kept (x ∷ xs) all =
      let parts = and_parts (p x) (list_all p xs) all in
      by (q x) parts.0 (list_all-kept xs parts.1)
    where
      by : (t : Bool) → p x ≡ true → list_all p (filter q xs) ≡ true → list_all p (cond t (x ∷ filter q xs) (filter q xs)) ≡ true
      by true first rest = and_from _ _ first rest
      by false first rest = rest

  pub list_all-found : (xs : List X) → list_all p xs ≡ true → list_all p (option_to_list (find q xs)) ≡ true
  list_all-found [] all = refl
  list_all-found (x ∷ xs) all =
      let parts = and_parts (p x) (list_all p xs) all in
      by (q x) parts.0 (list_all-found xs parts.1)
    where
      by : (t : Bool) → p x ≡ true → list_all p (option_to_list (find q xs)) ≡ true → list_all p (option_to_list (cond t (Some x) (find q xs))) ≡ true
      by true first rest = and_from _ _ first refl
      by false first rest = rest

-- ---- the sums of the kinds of a list together are not greater than that of the list

at_most_one : (n : ℕ) (e f s : Bool) → (f ≡ true → e ≡ false) → (f ≡ true → s ≡ false) → (s ≡ true → e ≡ false) → cond e n 0 + cond f n 0 + cond s n 0 ≤ n
at_most_one n true true s fe fs se = absurd (true≢false (fe refl))
at_most_one n true false true fe fs se = absurd (true≢false (se refl))
at_most_one n true false false fe fs se = omega arith
at_most_one n false true true fe fs se = absurd (true≢false (fs refl))
at_most_one n false true false fe fs se = omega arith
at_most_one n false false true fe fs se = omega arith
at_most_one n false false false fe fs se = omega arith

sum_by-filter_cons : {X : Type 0} (p : X → Bool) (f : X → ℕ) (x : X) (xs : List X) → sum_by f (filter p (x ∷ xs)) ≡ cond (p x) (f x) 0 + sum_by f (filter p xs)
sum_by-filter_cons p f x xs = by (p x)
  where
    by : (t : Bool) → sum_by f (cond t (x ∷ filter p xs) (filter p xs)) ≡ cond t (f x) 0 + sum_by f (filter p xs)
    by true = sum_by-cons f x (filter p xs)
    by false = omega arith

pub sum_by-kinds : (f : Text → ℕ) (xs : List Text) → sum_by f (filter is_empty xs) + sum_by f (filter is_flavor xs) + sum_by f (filter is_subpackage xs) ≤ sum_by f xs
sum_by-kinds f [] = omega arith
sum_by-kinds f (x ∷ xs) =
    let here = at_most_one (f x) (is_empty x) (is_flavor x) (is_subpackage x) (flavor-is_empty x) (flavor-is_subpackage x) (subpackage-is_empty x) in
    omega (arith, here, sum_by-kinds f xs, sum_by-cons f x xs, sum_by-filter_cons is_empty f x xs, sum_by-filter_cons is_flavor f x xs, sum_by-filter_cons is_subpackage f x xs)

-- ---- how the kind of a part is determined

is_empty-length : (p : Text) → eqb (length p) 0 ≡ false → is_empty p ≡ false
is_empty-length [] filled = cc
is_empty-length (b ∷ bs) filled = refl

pub IsOfKind-flavor : (p : Text) → list_all is_path_byte p ≡ true → eqb (length p) 0 ≡ false → begins_with (codes "-") p ≡ false → IsOfKind Flavor p
IsOfKind-flavor p good filled plain = (rw (good, is_empty-length p filled, plain), is_empty-length p filled, and_left _ _ plain, rw (is_empty-length p filled, plain))

pub IsOfKind-subpackage : (p : Text) → list_all is_path_byte p ≡ true → begins_with (codes "-") p ≡ true → 1 < length p → IsOfKind Subpackage p
IsOfKind-subpackage p good dash long =
    let sub : is_subpackage p ≡ true = and_from _ _ dash (lt-ltb 1 (length p) long) in
    (and_from _ _ good (or_left (is_empty p || is_subpackage p) (is_flavor p) (or_right (is_empty p) (is_subpackage p) sub)), subpackage-is_empty p sub, sub, subpackage-is_flavor p sub)
