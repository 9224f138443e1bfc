-- Signatures of held records, one after the other.
use Rattle.std.proofs.Common.{◌≡◌, ◌+◌, ◌<◌, ◌++◌, ℕ, List, [], ◌∷◌, length, map, take, Option}
use Rattle.std.proofs.Common.{None, Some, refl, sym, ap, ◌∙◌}
use Rattle.std.specs.Prelude.{filter_map, option_to_list}
use Rattle.std.specs.List.{cons_option, slice_index_or}
use Rattle.std.proofs.lemmas.List.{map-append, take_more}

-- the result for the last item is last
given_behind : {X Y : Type 0} (f : X → Option Y) (xs : List X) (x : X)
    → filter_map f (xs ++ x ∷ []) ≡ filter_map f xs ++ option_to_list (f x)
given_behind {X} {Y} f [] x = by (f x)
  where
    by : (o : Option Y) → cons_option o [] ≡ option_to_list o
    by None = refl
    by (Some y) = refl
given_behind {X} {Y} f (z ∷ zs) x = by (f z) (given_behind f zs x)
  where
    by : (o : Option Y) → filter_map f (zs ++ x ∷ []) ≡ filter_map f zs ++ option_to_list (f x)
        → cons_option o (filter_map f (zs ++ x ∷ []))
        ≡ cons_option o (filter_map f zs) ++ option_to_list (f x)
    by None rest = rest
    by (Some y) rest = ap (λ ys. y ∷ ys) rest

-- the results of f for one item more
pub made_more : {X Y : Type 0} (f : X → Y) (xs : List X) (k : ℕ) (x : X) (y : Y)
    (before after : List Y)
    → k < length xs → x ≡ slice_index_or xs k x → y ≡ f x
    → before ≡ map f (take k xs) → after ≡ before ++ y ∷ []
    → after ≡ map f (take (k + 1) xs)
made_more f xs k x y before after lt here made was is =
    is ∙ (ap (λ ys. ys ++ y ∷ []) was
    ∙ (ap (λ z. map f (take k xs) ++ z ∷ []) (made ∙ ap f here)
    ∙ (sym (map-append f (take k xs) (slice_index_or xs k x ∷ []))
    ∙ ap (map f) (sym (take_more xs k x lt)))))

-- the results of a partial f for one item more
pub given_more : {X T Y : Type 0} (now : X → T) (f : T → Option Y) (xs : List X) (k : ℕ) (x : X)
    (o : Option Y) (before after : List Y)
    → k < length xs → x ≡ slice_index_or xs k x → f (now x) ≡ o
    → before ≡ filter_map f (map now (take k xs)) → after ≡ before ++ option_to_list o
    → after ≡ filter_map f (map now (take (k + 1) xs))
given_more now f xs k x o before after lt here e was is =
    is ∙ (ap (λ ys. ys ++ option_to_list o) was
    ∙ (ap (λ y. filter_map f (map now (take k xs)) ++ option_to_list y) (sym e)
    ∙ (sym (given_behind f (map now (take k xs)) (now x))
    ∙ (ap (filter_map f) (sym (map-append now (take k xs) (x ∷ [])))
    ∙ (ap (λ y. filter_map f (map now (take k xs ++ y ∷ []))) here
    ∙ ap (λ ys. filter_map f (map now ys)) (sym (take_more xs k x lt)))))))
