-- Indexes of paths in a tree.
use Rattle.std.proofs.Common.{◌≡◌, ◌<◌, ℕ, Bool, true, false, cond, nat_lt, List, length, position, get_or, Option, None, Some, refl, sym, ap, subst, ◌∙◌, arith}
use Rattle.std.specs.Prelude.{All}
use Rattle.std.specs.List.{position_or_len}
use Rattle.std.specs.Str.{bytes_eq}
use Rattle.std.specs.Cmp.Lexicographic.{nat_list_eq_equiv, same_text}
use Rattle.std.proofs.lemmas.Bool.{lt-ltb, ltb-false, ltb-true, true≢false}
use Rattle.std.proofs.lemmas.List.Quantifiers.{position-Some}
use Rattle.std.proofs.lemmas.List.Sums.{fails_before_first, position_or_len_is}
use Rattle.faults.specs.Bytes.{Text}
use Rattle.listing.specs.Tree.{IsTree, Package, Tree, no_package, path_at, position_of}

-- ---- the first index at which a test passes

past_by : (b : Bool) (n : ℕ) → cond b (Some n) None ≡ None → b ≡ false
past_by true n e = cc
past_by false n e = refl

within_by : (b : Bool) (n i : ℕ) → cond b (Some n) None ≡ Some i → (b ≡ true) × (n ≡ i)
within_by true n i e = (refl, cc)
within_by false n i e = cc

-- the index is in range
pub within_place : {X : Type 0} (test : X → Bool) (xs : List X) (i : ℕ) → position test xs ≡ Some i → i < length xs
within_place test xs i e =
    let parts = within_by (nat_lt (position_or_len test xs) (length xs)) (position_or_len test xs) i e in
    omega (arith, ltb-true _ _ parts.0, parts.1)

-- if there is no such index, nothing passes
pub nowhere : {X : Type 0} (test : X → Bool) (xs : List X) → position test xs ≡ None → All (λ x. test x ≡ false) xs
nowhere test xs e k d l =
    let past = ltb-false _ _ (past_by (nat_lt (position_or_len test xs) (length xs)) (position_or_len test xs) e) in
    fails_before_first test xs k d (omega arith)

-- if something passes, there is such an index
pub somewhere : {X : Type 0} (test : X → Bool) (xs : List X) (k : ℕ) (d : X) → k < length xs → test (get_or xs k d) ≡ true
    → (i : ℕ) × (position test xs ≡ Some i)
somewhere test xs k d l e = by_place (position test xs) refl
  where
    by_place : (o : Option ℕ) → position test xs ≡ o → (i : ℕ) × (position test xs ≡ Some i)
    by_place None none = absurd (true≢false (sym e ∙ nowhere test xs none k d l))
    by_place (Some i) some = (i, some)

-- it is the index before which nothing passes
pub first_place : {X : Type 0} (test : X → Bool) (xs : List X) (i : ℕ) (d : X) → i < length xs → ((k : ℕ) → k < i → test (get_or xs k d) ≡ false)
    → test (get_or xs i d) ≡ true → position test xs ≡ Some i
first_place test xs i d l before here =
    let place = position_or_len_is test xs i d (omega arith) before (λ _. here) in
    let picked : position test xs ≡ cond (nat_lt i (length xs)) (Some i) None = λ j. cond (nat_lt (place j) (length xs)) (Some (place j)) None in
    picked ∙ ap (λ b. cond b (Some i) None) (lt-ltb i (length xs) l)

-- ---- texts

pub same_bytes : (s t : Text) → bytes_eq s t ≡ true → s ≡ t
same_bytes s t e = same_text s t (sym e)

pub equal_bytes : (s t : Text) → s ≡ t → bytes_eq s t ≡ true
equal_bytes s t e = subst (λ u. bytes_eq s u ≡ true) e (nat_list_eq_equiv.refl s)

-- ---- positions of paths

-- the package at the position of a path has that path
pub listed_at : (tree : Tree) (path : Text) (p : ℕ) → position_of tree path ≡ Some p → (p < length tree) × (path_at tree p ≡ path)
listed_at tree path p e =
    let here = position-Some (λ (x : Package). bytes_eq x.path path) tree p no_package e in
    (here.0, same_bytes (path_at tree p) path here.1)

-- each listed path has its position
pub has_position : (tree : Tree) (path : Text) (p : ℕ) → IsTree tree → p < length tree → path_at tree p ≡ path → position_of tree path ≡ Some p
has_position tree path p is_tree l e =
    let found = somewhere (λ (x : Package). bytes_eq x.path path) tree p no_package l (equal_bytes (path_at tree p) path e) in
    let there = listed_at tree path found.0 found.1 in
    found.1 ∙ ap (λ i. Some i) (is_tree.once found.0 p there.0 l (there.1 ∙ sym e))
