-- What holds of each element of a list holds of its image, one more element at a time.
use Rattle.std.proofs.Common.{◌≡◌, ◌<◌, ◌+◌, ◌++◌, ℕ, List, [], ◌∷◌, get_or, length, map, take, sym, ap, subst, ◌∙◌, arith}
use Rattle.std.proofs.lemmas.List.{get_or-map, length-map, map-append, take_more}
use Rattle.std.proofs.lemmas.List.Elements.{All-append, All-cons, All-nil}
use Rattle.std.specs.Prelude.{All}

module _ {X Y : Type 0} (f : X → Y) (P : Y → Type 0) (xs : List X) (i : ℕ) (x : X)
    (lt : i < length xs) (is : x ≡ get_or xs i x) where
  -- of the first elements and one more
  pub all_more : All P (map f (take i xs)) → P (f x) → All P (map f (take (i + 1) xs))
  all_more all here =
      subst (λ (l : List Y). All P l)
      (sym (ap (map f) (take_more xs i x lt ∙ ap (λ y. take i xs ++ y ∷ []) (sym is))
      ∙ map-append f (take i xs) (x ∷ [])))
      (All-append P (map f (take i xs)) (f x ∷ []) all (All-cons P (f x) [] here (All-nil P)))

  -- and of this element
  pub at_this : All P (map f xs) → P (f x)
  at_this all =
      subst P (get_or-map f xs i x (f x) lt ∙ ap f (sym is))
      (all i (f x) (omega (arith, lt, length-map xs f)))

-- the results for the elements themselves
module _ {X : Type 0} (P : X → Type 0) (xs : List X) (i : ℕ) (x : X) (lt : i < length xs)
    (is : x ≡ get_or xs i x) where
  pub one_more : All P (take i xs) → P x → All P (take (i + 1) xs)
  one_more all here =
      subst (λ (l : List X). All P l)
      (sym (take_more xs i x lt ∙ ap (λ y. take i xs ++ y ∷ []) (sym is)))
      (All-append P (take i xs) (x ∷ []) all (All-cons P x [] here (All-nil P)))
