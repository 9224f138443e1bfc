-- An element that is taken out, and another one put in its place.
use Rattle.std.proofs.Common.{◌≡◌, ◌<◌, ℕ, zero, suc, List, [], ◌∷◌, Some, length, slice_get, slice_index_or, slice_set, refl, sym, ap, ◌∙◌, arith}
use Rattle.std.proofs.lemmas.Option.{slice_get-get_or}
use Rattle.std.specs.List.{insert, remove}
use Rattle.one_list.proofs.nodes.EqualParts.{some_same}

pub put_back : {X : Type 0} (xs : List X) (i : ℕ) (x : X) → i < length xs
    → insert (remove xs i) i x ≡ slice_set xs i x
put_back [] i x lt = absurd (omega (arith, lt))
put_back (y ∷ ys) zero x lt = refl
put_back (y ∷ ys) (suc i) x lt = ap (λ l. y ∷ l) (put_back ys i x (omega (arith, lt)))

-- what an index reads is the element there
pub stands_at : {X : Type 0} (xs : List X) (i : ℕ) (x : X) → x ≡ slice_index_or xs i x
    → i < length xs → slice_get xs i ≡ Some x
stands_at xs i x e lt = slice_get-get_or xs i x lt ∙ ap Some (sym e)

pub one_there : {X : Type 0} (xs : List X) (i : ℕ) (x y : X) → slice_get xs i ≡ Some x
    → slice_get xs i ≡ Some y → x ≡ y
one_there xs i x y e f = some_same x y (sym e ∙ f)
