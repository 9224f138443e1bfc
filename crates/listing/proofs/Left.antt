-- What remains of a list after its first items were taken.
use Rattle.std.proofs.Common.{◌≡◌, ◌<◌, ◌≤◌, ◌+◌, ℕ, List, [], ◌∷◌, length, drop, get_or, ap, sym, ◌∙◌, arith}
use Rattle.std.proofs.lemmas.List.{drop_more, length-drop}

-- the first remaining item is the k-th, and the others remain after it
pub next_left : {X : Type 0} (xs : List X) (k : ℕ) (x : X) (others : List X) → drop k xs ≡ x ∷ others
    → (k < length xs) × (x ≡ get_or xs k x) × (drop (k + 1) xs ≡ others)
next_left xs k x others left =
    let within : k < length xs = omega (arith, ap length left, length-drop k xs) in
    let split : get_or xs k x ∷ drop (k + 1) xs ≡ x ∷ others = sym (drop_more xs k x within) ∙ left in
    (within, cc, cc)

-- if nothing remains, all items were taken
pub none_left : {X : Type 0} (xs : List X) (k : ℕ) → drop k xs ≡ [] → length xs ≤ k
none_left xs k left = omega (arith, ap length left, length-drop k xs)
