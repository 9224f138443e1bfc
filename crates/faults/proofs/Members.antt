-- Elements of lists.
use Rattle.std.proofs.Common.{◌≡◌, ◌<◌, ◌⊎◌, inl, inr, ℕ, suc, zero, List, [], ◌∷◌, length, map, get_or, refl, sym, ap, ◌∙◌, arith}
use Rattle.std.specs.Prelude.{Contains}
use Rattle.std.proofs.lemmas.List.{get_or-map, get_or_default, length-map}

pub contains_first : {X : Type 0} (x : X) (xs : List X) → Contains (x ∷ xs) x
contains_first x xs = (0, omega arith, refl)

pub contains_later : {X : Type 0} (x y : X) (xs : List X) → Contains xs y → Contains (x ∷ xs) y
contains_later x y xs (k, within, here) = (suc k, omega arith, here)

pub member_cases : {X : Type 0} (x y : X) (xs : List X) → Contains (x ∷ xs) y → (x ≡ y) ⊎ Contains xs y
member_cases x y xs (zero, within, here) = inl here
member_cases x y xs (suc k, within, here) = inr (k, omega arith, here)

pub no_members : {X : Type 0} (y : X) → ¬ Contains [] y
no_members y (k, within, here) = omega arith

pub contains_image : {X : Type 0} (f : ℕ → X) (xs : List ℕ) (x : ℕ) → Contains xs x → Contains (map f xs) (f x)
contains_image f xs x (k, within, here) = (k, omega (arith, length-map xs f), get_or-map f xs k x (f x) within ∙ ap f here)

pub has_preimage : {X : Type 0} (f : ℕ → X) (xs : List ℕ) (y : X) → Contains (map f xs) y → (x : ℕ) × Contains xs x × (f x ≡ y)
has_preimage f xs y (k, within, here) =
    let l : k < length xs = omega (arith, length-map xs f) in
    (get_or xs k 0, (k, l, get_or_default xs k (get_or xs k 0) 0 l), sym (get_or-map f xs k 0 y l) ∙ here)
