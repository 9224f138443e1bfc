-- The texts of the items so far, one after the other.
use Rattle.std.proofs.Common.{◌≡◌, ◌+◌, ◌<◌, ◌∙◌, ◌++◌, ℕ, List, [], ◌∷◌, length, get_or, take, ap, sym, flat_map}
use Rattle.std.proofs.lemmas.List.{flat_map_more, take_more}
use Rattle.faults.specs.Bytes.{Text}

-- the text of one more item
pub flat_next : {X : Type 0} (f : X → Text) (old mid new : Text) (xs : List X) (i : ℕ) (x : X) → i < length xs → x ≡ get_or xs i x
    → mid ≡ old ++ flat_map f (take i xs) → new ≡ mid ++ f x → new ≡ old ++ flat_map f (take (i + 1) xs)
flat_next f old mid new xs i x lt e before line =
    line ∙ ap (λ (t : Text). t ++ f x) before ∙ flat_map_more f old (take i xs) x
    ∙ ap (λ ys. old ++ flat_map f ys) (sym (take_more xs i x lt ∙ ap (λ y. take i xs ++ y ∷ []) (sym e)))
