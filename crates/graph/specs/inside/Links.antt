-- Names by position, as linked lists: each link leads to the one before it at the same position.
-- Links are counted from 1, and 0 ends a list.
use Rattle.std.specs.Prelude.{◌<◌, ◌≤◌, ℕ, zero, suc, List, [], ◌∷◌, All, cond, length, map, nat_eq, slice_index_or}
use Rattle.graph.specs.declared.naming.Link.{Link}

-- the link with number k + 1
abbrev pub link_behind : List Link → ℕ → Link
link_behind links k = slice_index_or links k (record { who = 0; earlier = 0 })

-- the names in the links from h backwards, latest first, as far as they are among the first n links
abbrev pub linked_below : List Link → ℕ → ℕ → List ℕ
linked_below links zero h = []
linked_below links (suc n) h =
    cond (nat_eq h (suc n))
    ((link_behind links n).who ∷ linked_below links n (link_behind links n).earlier)
    (linked_below links n h)

-- the names in the links from h backwards, latest first
abbrev pub linked_list : List Link → ℕ → List ℕ
linked_list links h = linked_below links h h

-- the list of each of the latest links
abbrev pub linked_lists : List Link → List ℕ → List (List ℕ)
linked_lists links latest = map (linked_list links) latest

-- Each link leads to an earlier one, or ends its list.
abbrev pub IsLinked : List Link → Type 0
IsLinked links = (k : ℕ) → k < length links → (link_behind links k).earlier ≤ k

-- Each link leads to an earlier one, and each of the latest links exists, unless it is 0.
pub record AreLinked (links : List Link) (latest : List ℕ) : Type 0 where
  pub linked : IsLinked links
  pub latest_there : All (λ h. h ≤ length links) latest
