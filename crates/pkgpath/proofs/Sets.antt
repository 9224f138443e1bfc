-- What sets of texts share with the lists that they are made of.
use Rattle.std.proofs.Common.{◌≡◌, ℕ, ◌+◌, ◌≤◌, Bool, true, List, [], ◌∷◌, refl, arith}
use Rattle.std.proofs.lemmas.Bool.{and_from, and_parts}
use Rattle.std.proofs.lemmas.List.Sums.{sum_by-cons}
use Rattle.std.specs.List.{list_all, sum_by}
use Rattle.std.specs.declared.cmp.Ordering.{Ordering}
use Rattle.std.specs.declared.cmp.Ordering.TheVariants.{Less, Equal, Greater}
use Rattle.faults.specs.Bytes.{Text}
use Rattle.faults.specs.Pieces.{by_order, set_of, text_cmp, with_member}

list_all-with_member : (p : Text → Bool) (t : Text) (us : List Text) → p t ≡ true → list_all p us ≡ true → list_all p (with_member t us) ≡ true
list_all-with_member p t [] one all = and_from _ _ one refl
list_all-with_member p t (u ∷ us) one all =
    let parts = and_parts (p u) (list_all p us) all in
    by (text_cmp t u) parts.0 (list_all-with_member p t us one parts.1)
  where
    by : (o : Ordering) → p u ≡ true → list_all p (with_member t us) ≡ true → list_all p (by_order o (t ∷ u ∷ us) (u ∷ us) (u ∷ with_member t us)) ≡ true
    by Less first rest = and_from _ _ one all
    by Equal first rest = all
    by Greater first rest = and_from _ _ first rest

-- a test that holds for a list holds for its set
pub list_all-set_of : (p : Text → Bool) (ts : List Text) → list_all p ts ≡ true → list_all p (set_of ts) ≡ true
list_all-set_of p [] all = refl
list_all-set_of p (t ∷ ts) all =
    let parts = and_parts (p t) (list_all p ts) all in
    list_all-with_member p t (set_of ts) parts.0 (list_all-set_of p ts parts.1)

sum_by-with_member : (f : Text → ℕ) (t : Text) (us : List Text) → sum_by f (with_member t us) ≤ f t + sum_by f us
sum_by-with_member f t [] = omega (arith, sum_by-cons f t [])
sum_by-with_member f t (u ∷ us) = by (text_cmp t u) (sum_by-with_member f t us)
  where
    by : (o : Ordering) → sum_by f (with_member t us) ≤ f t + sum_by f us → sum_by f (by_order o (t ∷ u ∷ us) (u ∷ us) (u ∷ with_member t us)) ≤ f t + sum_by f (u ∷ us)
    by Less rest = omega (arith, sum_by-cons f t (u ∷ us))
    by Equal rest = omega arith
    by Greater rest = omega (arith, sum_by-cons f u us, sum_by-cons f u (with_member t us))

-- the sum over a set is not greater than that over the list
pub sum_by-set_of : (f : Text → ℕ) (ts : List Text) → sum_by f (set_of ts) ≤ sum_by f ts
sum_by-set_of f [] = omega arith
sum_by-set_of f (t ∷ ts) = omega (arith, sum_by-with_member f t (set_of ts), sum_by-set_of f ts, sum_by-cons f t ts)
