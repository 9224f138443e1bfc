-- The parts of a name, by the place of the dash before its version.
use Rattle.std.proofs.Common.{◌≡◌, ℕ, suc, ◌+◌, ◌<◌, ◌≤◌, ◌==◌, Bool, true, false, List, [], ◌∷◌, length, take, drop, drop-cons, Some, Ok, refl, sym, ap, ◌∙◌, arith, inl, inr, slice_index, get_or}
use Rattle.std.proofs.lemmas.Bool.{and_from, and_parts, cases_Bool, cases_lt, le-ltb}
use Rattle.std.proofs.lemmas.List.Folds.{list_all-append}
use Rattle.std.proofs.lemmas.Option.{slice_get-get_or, slice_get_past}
use Rattle.std.proofs.Math.ListN.{take-append-drop}
use Rattle.std.specs.Char.{is_ascii_digit}
use Rattle.std.specs.List.{find, list_all, list_any}
use Rattle.std.specs.Option.{option_map_or}
use Rattle.std.specs.Prelude.{slice_get}
use Rattle.faults.specs.Bytes.{Text, dash, is_empty}
use Rattle.faults.specs.Pieces.{pieces_at}
use Rattle.pkgname.proofs.Cutting.{first_piece-cons, list_all-first_piece, list_any-first_piece}
use Rattle.pkgname.specs.PkgName.{Parts, is_dash_before, is_name_byte, name_of, parts_of, version_dash}
use Rattle.pkgname.specs.Version.{IsVersion}

-- what is found passes the test
find_passes : (p : ℕ → Bool) (xs : List ℕ) (i : ℕ) → find p xs ≡ Some i → p i ≡ true
find_passes p [] i e = cc
find_passes p (x ∷ xs) i e = elim (cases_Bool (p x)) [
  | inl passes ↦ let is : x ≡ i = let found = rw passes at e in cc in rw (← is) passes
  | inr fails ↦ find_passes p xs i (rw fails at e)
]

-- there is a dash at the place found, followed by a byte that can begin a version
pub version_dash-Some : (begins : ℕ → Bool) (text : Text) (i : ℕ) → version_dash begins text ≡ Some i → is_dash_before begins text i ≡ true
version_dash-Some begins text i e = find_passes (is_dash_before begins text) _ i e

-- a byte that can begin a version follows the dash
pub begins_behind : (begins : ℕ → Bool) (text : Text) (i : ℕ) → is_dash_before begins text i ≡ true → (i + 1 < length text) × (begins (get_or text (i + 1) 0) ≡ true)
begins_behind begins text i h =
    let behind = (and_parts (slice_index text i == dash) (option_map_or begins (slice_get text (i + 1)) false) h).1 in
    elim (cases_lt (i + 1) (length text)) [
      | inl within ↦ (within, rw (slice_get-get_or text (i + 1) 0 within) at behind)
      | inr past ↦ cc (rw (slice_get_past text (i + 1) past) at behind)
    ]

-- a property of each byte holds for those after a place
list_all-drop : (q : ℕ → Bool) (n : ℕ) (text : Text) → list_all q text ≡ true → list_all q (drop n text) ≡ true
list_all-drop q n text h =
    let whole = sym (list_all-append q (take n text) (drop n text)) ∙ (ap (list_all q) (take-append-drop n text) ∙ h) in
    (and_parts (list_all q (take n text)) (list_all q (drop n text)) whole).1

-- the parts of a text, by that place
pub parts_from_pieces : (text : Text) (i : ℕ) (version : Text) (flavors : List Text) → version_dash is_ascii_digit text ≡ Some i → pieces_at dash (drop (i + 1) text) ≡ version ∷ flavors
    → parts_of text ≡ Some (record { stem = take i text; version = version; flavors = flavors })
parts_from_pieces text i version flavors found pieces = rw (found, pieces) refl

-- the piece after the dash is a version
pub version_behind : (text : Text) (i : ℕ) (version : Text) (flavors : List Text) → list_all is_name_byte text ≡ true → is_dash_before is_ascii_digit text i ≡ true → pieces_at dash (drop (i + 1) text) ≡ version ∷ flavors
    → IsVersion version
version_behind text i version flavors bytes at pieces =
    let behind = begins_behind is_ascii_digit text i at in
    let digit = get_or text (i + 1) 0 in
    let first = drop-cons text (i + 1) 0 behind.0 in
    let no_dash : (digit == dash) ≡ false = let is_digit = behind.1 in grind arith in
    let cut = first_piece-cons (λ b. b == dash) digit (drop (suc (i + 1)) text) no_dash in
    let is : version ≡ digit ∷ cut.0 = let other = cut.2 in let same = ap (pieces_at dash) first in cc in
    and_from _ _ (and_from _ _ (rw is behind.1) (list_all-first_piece (λ b. b == dash) is_name_byte (drop (i + 1) text) version flavors pieces (list_all-drop is_name_byte (i + 1) text bytes)))
    (rw (list_any-first_piece (λ b. b == dash) (drop (i + 1) text) version flavors pieces) refl)

-- a text with a version and without an empty flavor is a name
pub name_from_parts : (text : Text) (parts : Parts) → length text ≤ 255 → list_all is_name_byte text ≡ true → parts_of text ≡ Some parts → list_any is_empty parts.flavors ≡ false → name_of text ≡ Ok text
name_from_parts text parts short bytes split filled = rw (le-ltb 255 (length text) short, bytes, split, filled) refl
