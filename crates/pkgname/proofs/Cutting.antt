-- The pieces of a text.
use Rattle.std.proofs.Common.{◌≡◌, ℕ, ◌+◌, ◌++◌, ◌<◌, ◌≤◌, Bool, true, false, List, [], ◌∷◌, length, take, drop, Some, None, refl, ap, ◌∙◌, arith, inl, inr}
use Rattle.std.proofs.Math.Seq.{drop-append-add, take-append_seam}
use Rattle.std.proofs.lemmas.Bool.{cases_Bool, cases_lt, le-ltb, lt-ltb}
use Rattle.std.proofs.lemmas.List.{drop-drop, length-append, length-drop}
use Rattle.std.proofs.lemmas.List.Splits.{slice_split-cons_no, slice_split-cons_yes}
use Rattle.std.specs.List.{list_all, list_any, onto_first, slice_split}
use Rattle.pkgname.specs.Inside.{behind_place}

-- a text has at least one piece
pub some_piece : (p : ℕ → Bool) (text : List ℕ) → (first : List ℕ) × (others : List (List ℕ)) × (slice_split p text ≡ first ∷ others)
some_piece p [] = ([], [], refl)
some_piece p (x ∷ xs) = elim (cases_Bool (p x)) [
  | inl passes ↦ ([], slice_split p xs, slice_split-cons_yes p x xs passes)
  | inr fails ↦ let more = some_piece p xs in (x ∷ more.0, more.1, slice_split-cons_no p x xs fails ∙ ap (onto_first x) more.2)
]

-- the first piece of a text whose first byte is not a separator begins with that byte
pub first_piece-cons : (p : ℕ → Bool) (x : ℕ) (text : List ℕ) → p x ≡ false → (first : List ℕ) × (others : List (List ℕ)) × (slice_split p (x ∷ text) ≡ (x ∷ first) ∷ others) × (slice_split p text ≡ first ∷ others)
first_piece-cons p x text fails = let more = some_piece p text in (more.0, more.1, slice_split-cons_no p x text fails ∙ ap (onto_first x) more.2, more.2)

-- the first piece has no separator
pub list_any-first_piece : (p : ℕ → Bool) (text piece : List ℕ) (others : List (List ℕ)) → slice_split p text ≡ piece ∷ others → list_any p piece ≡ false
list_any-first_piece p [] piece others e = let none : piece ≡ [] = cc in rw none refl
list_any-first_piece p (x ∷ text) piece others e = elim (cases_Bool (p x)) [
  | inl passes ↦
      let none : piece ≡ [] = let cut = slice_split-cons_yes p x text passes in cc in
      rw none refl
  | inr fails ↦
      let cut = first_piece-cons p x text fails in
      let is : piece ≡ x ∷ cut.0 = let at = cut.2 in cc in
      rw (is, fails) (list_any-first_piece p text cut.0 cut.1 cut.3)
]

-- a property of each byte of a text holds for those of its first piece
pub list_all-first_piece : (p q : ℕ → Bool) (text piece : List ℕ) (others : List (List ℕ)) → slice_split p text ≡ piece ∷ others → list_all q text ≡ true → list_all q piece ≡ true
list_all-first_piece p q [] piece others e h = let none : piece ≡ [] = cc in rw none refl
list_all-first_piece p q (x ∷ text) piece others e h = elim (cases_Bool (p x)) [
  | inl passes ↦
      let none : piece ≡ [] = let cut = slice_split-cons_yes p x text passes in cc in
      rw none refl
  | inr fails ↦
      let cut = first_piece-cons p x text fails in
      let is : piece ≡ x ∷ cut.0 = let at = cut.2 in cc in
      let first : q x ≡ true = grind arith in
      let others : list_all q text ≡ true = grind arith in
      rw (is, first) (list_all-first_piece p q text cut.0 cut.1 cut.3 others)
]

-- a text that was split after its front: the front, and the text after the byte that follows it
pub front_cut : (c : ℕ) (text front behind : List ℕ) → text ≡ front ++ c ∷ behind
    → (length front ≤ length text) × (take (length front) text ≡ front) × (behind_place text (length front) ≡ Some behind)
front_cut c text front behind e =
    let long : length text ≡ length front + length (c ∷ behind) = ap length e ∙ length-append front (c ∷ behind) in
    let taken : take (length front) text ≡ front = ap (take (length front)) e ∙ take-append_seam front (c ∷ behind) in
    let left : drop (length front + 1) text ≡ behind = ap (drop (length front + 1)) e ∙ drop-append-add front (c ∷ behind) 1 in
    (omega (arith, long), taken, rw (lt-ltb (length front) (length text) (omega (arith, long)), left) refl)

-- there is nothing after the end
pub behind_end : (text : List ℕ) → behind_place text (length text) ≡ None
behind_end text = rw (le-ltb (length text) (length text) (omega arith)) refl

-- the text after a place, counted from an earlier place
pub behind_place-drop : (text : List ℕ) (k n : ℕ) → k ≤ length text → behind_place (drop k text) n ≡ behind_place text (k + n)
behind_place-drop text k n within = elim (cases_lt (k + n) (length text)) [
  | inl low ↦
      let here : n < length (drop k text) = omega (arith, length-drop k text) in
      let place : k + (n + 1) ≡ k + n + 1 = omega arith in
      rw (lt-ltb n (length (drop k text)) here, lt-ltb (k + n) (length text) low) (ap Some (drop-drop (n + 1) k text ∙ ap (λ i. drop i text) place))
  | inr high ↦
      let here : length (drop k text) ≤ n = omega (arith, length-drop k text) in
      rw (le-ltb n (length (drop k text)) here, le-ltb (k + n) (length text) high) refl
]
