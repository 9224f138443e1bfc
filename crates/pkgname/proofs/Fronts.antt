-- The front of a text, and what follows it.
use Rattle.std.proofs.Common.{◌≡◌, ℕ, Bool, true, List, [], ◌∷◌, length, take, refl, ◌∙◌, inl, inr}
use Rattle.std.proofs.lemmas.Bool.{cases_Bool}
use Rattle.std.specs.Cmp.Lexicographic.{nat_list_eq_equiv, pointwise}
use Rattle.std.specs.List.{list_all, take_while}
use Rattle.std.specs.Prelude.{nat_eq}
use Rattle.std.proofs.lemmas.List.Sums.{take_while-cons}

-- each byte of the longest front that passes a test passes it
pub list_all-take_while : (p : ℕ → Bool) (xs : List ℕ) → list_all p (take_while p xs) ≡ true
list_all-take_while p [] = refl
list_all-take_while p (x ∷ xs) = elim (cases_Bool (p x)) [
  | inl passes ↦ rw (take_while-cons p x xs, passes, passes) (list_all-take_while p xs)
  | inr fails ↦ rw (take_while-cons p x xs, fails) refl
]

-- a word that was stripped off was at the front
pub begins_from_stripped : (word text : List ℕ) (b : Bool) → pointwise nat_eq (take (length word) text) word ≡ b → pointwise nat_eq word (take (length word) text) ≡ b
begins_from_stripped word text b e = nat_list_eq_equiv.symm word (take (length word) text) ∙ e
