-- Results for the first items of a list, extended by one item.
use Rattle.std.proofs.Common.{◌≡◌, ◌<◌, ◌+◌, ◌++◌, ◌∷◌, ◌∙◌, ℕ, List, [], ap, length, map, take}
use Rattle.std.proofs.Common.{slice_index_or}
use Rattle.std.proofs.lemmas.List.{map-append, take_more}

pub map_more : {X Y : Type 0} (f : X → Y) (xs : List X) (k : ℕ) (d : X) → k < length xs
    → map f (take (k + 1) xs) ≡ map f (take k xs) ++ f (slice_index_or xs k d) ∷ []
map_more f xs k d lt =
    ap (map f) (take_more xs k d lt) ∙ map-append f (take k xs) (slice_index_or xs k d ∷ [])
