-- Lists of positions, one for each position.
use Rattle.std.specs.Prelude.{◌≡◌, ◌<◌, ◌≤◌, ℕ, Bool, cond, List, [], count_by, length, nat_eq, slice_index_or}

-- one if the test passes, otherwise zero
abbrev pub one_if : Bool → ℕ
one_if b = cond b 1 0

-- how many times the list contains the position
abbrev pub times : ℕ → List ℕ → ℕ
times p ps = count_by (λ q. nat_eq q p) ps

-- the list at a position
abbrev pub list_at : List (List ℕ) → ℕ → List ℕ
list_at lists p = slice_index_or lists p []

-- These n lists are the reverse of the lists of the positions below m: x is in list d as many times
-- as d is in the list of x.
pub record AreReversed (n m : ℕ) (next : ℕ → List ℕ) (lists : List (List ℕ)) : Type 0 where
  pub each : length lists ≡ n
  pub named : (d x : ℕ) → d < n → x < m → times x (list_at lists d) ≡ times d (next x)
  pub no_more : (d x : ℕ) → m ≤ x → times x (list_at lists d) ≡ 0
