-- The first fault found among a list's items.
use Rattle.std.proofs.Common.{◌≡◌, ◌<◌, ◌≤◌, ◌+◌, ◌++◌, ℕ, List, [], ◌∷◌, length, take, drop, get_or, Option, None, Some, refl, sym, ap, ◌∙◌}
use Rattle.std.proofs.lemmas.List.{take_more, take_all, take-append-drop, drop_more}
use Rattle.faults.specs.Answers.{first_given, option_or}

option_or_assoc : {X : Type 0} (a b c : Option X) → option_or a (option_or b c) ≡ option_or (option_or a b) c
option_or_assoc None b c = refl
option_or_assoc (Some x) b c = refl

pub first_given-append : {X F : Type 0} (f : X → Option F) (xs ys : List X) → first_given f (xs ++ ys) ≡ option_or (first_given f xs) (first_given f ys)
first_given-append f [] ys = refl
first_given-append f (x ∷ xs) ys = ap (option_or (f x)) (first_given-append f xs ys) ∙ option_or_assoc (f x) (first_given f xs) (first_given f ys)

pub or_none : {X : Type 0} (o : Option X) → option_or o None ≡ o
or_none None = refl
or_none (Some x) = refl

-- none so far, and none from the next item
pub none_given_more : {X F : Type 0} (f : X → Option F) (xs : List X) (k : ℕ) (d : X) → k < length xs → first_given f (take k xs) ≡ None
    → f (get_or xs k d) ≡ None → first_given f (take (k + 1) xs) ≡ None
none_given_more f xs k d within before here =
    ap (first_given f) (take_more xs k d within) ∙ first_given-append f (take k xs) (get_or xs k d ∷ [])
    ∙ ap (λ o. option_or o (option_or (f (get_or xs k d)) None)) before ∙ or_none (f (get_or xs k d)) ∙ here

-- none before, and one from the next item
pub given_at : {X F : Type 0} (f : X → Option F) (xs : List X) (k : ℕ) (d : X) (e : F) → k < length xs → first_given f (take k xs) ≡ None
    → f (get_or xs k d) ≡ Some e → first_given f xs ≡ Some e
given_at f xs k d e within before here =
    ap (first_given f) (sym (take-append-drop k xs) ∙ ap (λ r. take k xs ++ r) (drop_more xs k d within))
    ∙ first_given-append f (take k xs) (get_or xs k d ∷ drop (k + 1) xs)
    ∙ ap (λ o. option_or o (option_or (f (get_or xs k d)) (first_given f (drop (k + 1) xs)))) before
    ∙ ap (λ o. option_or o (first_given f (drop (k + 1) xs))) here

pub none_given_at_all : {X F : Type 0} (f : X → Option F) (xs : List X) (k : ℕ) → length xs ≤ k → first_given f (take k xs) ≡ None → first_given f xs ≡ None
none_given_at_all f xs k all before = ap (first_given f) (sym (take_all k xs all)) ∙ before
