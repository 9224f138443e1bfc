-- Lists, one item after the other.
use Rattle.std.proofs.Common.{◌≡◌, ℕ, suc, ◌+◌, ◌<◌, List, ◌∷◌, length, get_or, drop, sym, ap, add-one, drop-cons}

-- the rest of a list from an item on
pub drop_one : {X : Type 0} (xs : List X) (i : ℕ) (x : X) → i < length xs → x ≡ get_or xs i x → drop i xs ≡ x ∷ drop (i + 1) xs
drop_one xs i x lt here = rw (add-one, drop-cons xs i x) (ap (λ y. y ∷ drop (suc i) xs) (sym here))
