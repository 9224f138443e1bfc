-- The syntax of a dependency, by its fields.
use Rattle.std.proofs.Common.{◌≡◌, ◌≤◌, ◌+◌, ◌++◌, ◌==◌, ◌&&◌, ℕ, Bool, true, false, not, cond, nat_le, List, [], ◌∷◌, length, map, Ok, Option, None, Some, MatchOption, is_some, refl, sym, ap, ◌∙◌, arith}
use Rattle.std.specs.List.{count_by, slice_split, onto_first}
use Rattle.std.proofs.lemmas.Bool.Decides.{nat_tests}
use Rattle.std.proofs.lemmas.List.{map-append}
use Rattle.faults.specs.Bytes.{Text, colon, has_byte, is_empty, slash}
use Rattle.listing.specs.Dependencies.{are_shaped, fields_before_path, fields_of, is_shaped}
use Rattle.listing.specs.inside.Parts.{filled}
use Rattle.pkgspec.specs.Spec.{Alternative, spec_of}

-- four fields are too many
too_long : (b : Bool) (n before : ℕ) → 4 ≤ n → (b && nat_le before 1 && nat_le n (before + 2)) ≡ false
too_long false n before h = refl
too_long true n before h = grind (arith, nat_tests)

pub four_fields : (a b c d : Text) (more : List Text) → are_shaped (a ∷ b ∷ c ∷ d ∷ more) ≡ false
four_fields a b c d more =
    too_long (count_by (has_byte slash) (a ∷ b ∷ c ∷ d ∷ more) == 1) (length (a ∷ b ∷ c ∷ d ∷ more)) (fields_before_path (a ∷ b ∷ c ∷ d ∷ more)) (omega arith)

-- a text has at least one field
pub first_of_fields : (text : Text) → (first : Text) × (rest : List Text) × (fields_of text ≡ first ∷ rest)
first_of_fields [] = ([], [], refl)
first_of_fields (x ∷ xs) = by (x == colon) (slice_split (λ b. b == colon) xs)
  where
    by : (b : Bool) (pieces : List Text) → (first : Text) × (rest : List Text) × (cond b ([] ∷ pieces) (onto_first x pieces) ≡ first ∷ rest)
    by true pieces = ([], pieces, refl)
    by false [] = (x ∷ [], [], refl)
    by false (p ∷ ps) = (x ∷ p, ps, refl)

-- three fields and more after them are too many
pub more_than_three : (word rest : Text) (a b c : Text) → fields_of word ≡ a ∷ b ∷ c ∷ fields_of rest → are_shaped (fields_of word) ≡ false
more_than_three word rest a b c e =
    let r = first_of_fields rest in
    ap are_shaped (e ∙ ap (λ fs. a ∷ b ∷ c ∷ fs) r.2) ∙ four_fields a b c r.0 r.1

pub three_and_more : {B : Type 0} (front behind : B → Text) (word first second rest1 rest2 : Text) (o : Option B)
    → fields_of word ≡ first ∷ fields_of rest1 → fields_of rest1 ≡ second ∷ fields_of rest2
    → MatchOption o (fields_of rest2 ≡ rest2 ∷ []) (λ halves. fields_of rest2 ≡ front halves ∷ fields_of (behind halves)) → is_some o ≡ true
    → is_shaped word ≡ false
three_and_more front behind word first second rest1 rest2 None e1 e2 e3 there = cc
three_and_more front behind word first second rest1 rest2 (Some halves) e1 e2 e3 there =
    more_than_three word (behind halves) first second (front halves) (e1 ∙ ap (λ fs. first ∷ fs) e2 ∙ ap (λ fs. first ∷ second ∷ fs) e3)

-- ---- specs that were parsed

empty_by_length : (t : Text) → is_empty t ≡ (length t == 0)
empty_by_length [] = refl
empty_by_length (x ∷ xs) = let more : (length (x ∷ xs) == 0) ≡ false = grind (arith, nat_tests) in sym more

pub filled_by : (t : Text) (r b : Bool) → r ≡ (length t == 0) → r ≡ b → filled (t ∷ []) ≡ cond (not b) (t ∷ []) []
filled_by t r b is e = ap (λ c. cond (not c) (t ∷ []) []) (empty_by_length t ∙ sym is ∙ e)

pub none_said : (texts : List Text) (specs : List (List Alternative)) → texts ≡ [] → specs ≡ [] → map spec_of texts ≡ map Ok specs
none_said texts specs e is = ap (map spec_of) e ∙ ap (map Ok) (sym is)

pub one_said : (texts : List Text) (t : Text) (specs : List (List Alternative)) (spec : List Alternative) → texts ≡ t ∷ [] → spec_of t ≡ Ok spec → specs ≡ spec ∷ []
    → map spec_of texts ≡ map Ok specs
one_said texts t specs spec e read is = ap (map spec_of) e ∙ ap (λ r. r ∷ []) read ∙ ap (map Ok) (sym is)

pub both_said : (xs ys : List Text) (a b all : List (List Alternative)) → map spec_of xs ≡ map Ok a → map spec_of ys ≡ map Ok b → all ≡ a ++ b
    → map spec_of (xs ++ ys) ≡ map Ok all
both_said xs ys a b all front back is = map-append spec_of xs ys ∙ (λ i. front i ++ back i) ∙ sym (map-append Ok a b) ∙ ap (map Ok) (sym is)
