-- The intermediate state while the packages of a tree are gathered, position by position.
use Rattle.std.specs.Prelude.{◌≡◌, ℕ, Bool, ◌&&◌, ◌++◌, not, zero, suc, List, [], ◌∷◌, Option, None, Some, Vec, if◌then◌else◌, filter, map, position}
use Rattle.std.specs.List.{list_any, range_with_len}
use Rattle.std.specs.Str.{bytes_eq}
use Rattle.indexmap.specs.IndexSet.{insert_key}
use Rattle.faults.specs.Bytes.{Text}
use Rattle.listing.specs.Tree.{Tree, group_at}
use Rattle.engine.specs.declared.gathering.Gathered.{Gathered}

-- the lists of vectors
abbrev pub lists_of : {Z : Type 0} → List (Vec ℕ Z) → List (List ℕ)
lists_of = map (λ v. v.items)

-- the lists, with p appended to the k-th; if there are no more than k lists, p is a new last one
abbrev pub put_at : List (List ℕ) → ℕ → ℕ → List (List ℕ)
put_at [] k p = (p ∷ []) ∷ []
put_at (ps ∷ rest) zero p = (ps ++ p ∷ []) ∷ rest
put_at (ps ∷ rest) (suc k) p = ps ∷ put_at rest k p

-- Whether the package at q is in the group of the one at p, and not ignored.
abbrev pub is_with : Tree → (ℕ → Bool) → ℕ → ℕ → Bool
is_with tree ignored p q = bytes_eq (group_at tree q) (group_at tree p) && not (ignored q)

-- Whether the package at p is not ignored, and the first of its unit.
abbrev pub is_first : Tree → (ℕ → Bool) → ℕ → Bool
is_first tree ignored p =
    not (ignored p) && not (list_any (is_with tree ignored p) (range_with_len 0 p))

-- those of the first n packages that are the first of their units
abbrev pub firsts : Tree → (ℕ → Bool) → ℕ → List ℕ
firsts tree ignored n = filter (is_first tree ignored) (range_with_len 0 n)

-- those of the first n packages that are made with the one at p
abbrev pub made_below : Tree → (ℕ → Bool) → ℕ → ℕ → List ℕ
made_below tree ignored n p = filter (is_with tree ignored p) (range_with_len 0 n)

-- the groups of the units of the first n packages
abbrev pub groups_below : Tree → (ℕ → Bool) → ℕ → List Text
groups_below tree ignored n = map (group_at tree) (firsts tree ignored n)

-- the index of the package's group among these; None if the package is ignored
abbrev pub place_of : Tree → (ℕ → Bool) → List Text → ℕ → Option ℕ
place_of tree ignored groups p =
    if ignored p then None else position (bytes_eq (group_at tree p)) groups

-- The gathered state after the first n packages.
pub record AreGathered (tree : Tree) (ignored : ℕ → Bool) (n : ℕ) (g : Gathered) : Type 0 where
  pub groups : g.groups.keys ≡ groups_below tree ignored n
  pub packages : lists_of g.packages.items ≡ map (made_below tree ignored n) (firsts tree ignored n)
  pub numbers : g.numbers.items
      ≡ map (place_of tree ignored (groups_below tree ignored n)) (range_with_len 0 n)

-- One more package, of this group, is gathered.
pub record Takes (group : Text) (p : ℕ) (old new : Gathered) : Type 0 where
  pub number : ℕ
  pub found : position (bytes_eq group) new.groups.keys ≡ Some number
  pub groups : new.groups.keys ≡ insert_key bytes_eq old.groups.keys group
  pub packages : lists_of new.packages.items ≡ put_at (lists_of old.packages.items) number p
  pub numbers : new.numbers.items ≡ old.numbers.items ++ Some number ∷ []
