-- Bytes that don't occur in a text.
use Rattle.std.proofs.Common.{◌≡◌, ℕ, zero, suc, ◌/◌, ◌%◌, Bool, true, false, not, ◌||◌, cond, eqb, List, [], ◌∷◌, ◌++◌, get_or, Option, Some, None, Ok, refl, sym, ap, ◌∙◌, inl, inr}
use Rattle.std.specs.List.{All, list_all, onto_first}
use Rattle.std.proofs.lemmas.Bool.{and_from, and_parts, cases_Bool, eqb-true, not-true, or_parts}
use Rattle.std.proofs.lemmas.List.Elements.{All-cons, All-nil}
use Rattle.std.proofs.lemmas.List.Folds.{list_any-append}
use Rattle.std.proofs.lemmas.List.Splits.{slice_split-cons_no, slice_split-cons_yes}
use Rattle.hex.specs.Hex.{encode_lower, encode_with, lower_digits}
use Rattle.faults.specs.Answers.{unless_fault}
use Rattle.faults.specs.Bytes.{Text, comma, has_byte, slash}
use Rattle.faults.specs.Pieces.{pieces_at}
use Rattle.claims.specs.PkgName.{IsName, fault_of as name_fault_of, has_empty_flavor, is_name_byte}
use Rattle.claims.specs.NameFault.TheVariants as name_faults
use Rattle.claims.specs.PkgPath.{IsPath, directory_of, fault_of as path_fault_of, is_component, is_part, is_path_byte, parts_of}
use Rattle.claims.proofs.FirstFault.{faultless}
use Rattle.claims.proofs.Pieces.{lacks, pieces-split}

-- ---- texts

pub lacks_all : (c : ℕ) (text : Text) → has_byte c text ≡ false → All (λ b. eqb b c ≡ false) text
lacks_all c [] none = All-nil (λ b. eqb b c ≡ false)
lacks_all c (b ∷ bs) none =
    let parts = or_parts (eqb b c) (has_byte c bs) none in
    All-cons (λ x. eqb x c ≡ false) b bs parts.0 (lacks_all c bs parts.1)

pub lacks-append : (c : ℕ) (xs ys : Text) → has_byte c xs ≡ false → has_byte c ys ≡ false → has_byte c (xs ++ ys) ≡ false
lacks-append c xs ys front behind = list_any-append (λ b. eqb b c) xs ys ∙ rw front behind

-- if all bytes of the text pass a test, and this byte doesn't
pub lacks_failing : (p : ℕ → Bool) (c : ℕ) (text : Text) → p c ≡ false → list_all p text ≡ true → has_byte c text ≡ false
lacks_failing p c [] fails all = refl
lacks_failing p c (b ∷ bs) fails all =
    let parts = and_parts (p b) (list_all p bs) all in
    elim (cases_Bool (eqb b c)) [
      | inl same ↦ let is : b ≡ c = eqb-true b c same in absurd (let both : true ≡ false = sym parts.0 ∙ ap p is ∙ fails in (cc))
      | inr other ↦ rw other (lacks_failing p c bs fails parts.1)
    ]

pub all_weaker : {X : Type 0} (p q : X → Bool) → ((x : X) → p x ≡ true → q x ≡ true) → (xs : List X) → list_all p xs ≡ true → list_all q xs ≡ true
all_weaker p q leads [] all = refl
all_weaker p q leads (x ∷ xs) all =
    let parts = and_parts (p x) (list_all p xs) all in
    and_from (q x) (list_all q xs) (leads x parts.0) (all_weaker p q leads xs parts.1)

onto_first_lacks : (c b : ℕ) (ps : List Text) → list_all (lacks c) (onto_first b ps) ≡ true → (eqb b c ≡ false) × (list_all (lacks c) ps ≡ true)
onto_first_lacks c b [] all =
    let parts = and_parts (lacks c (b ∷ [])) true all in
    ((or_parts (eqb b c) false (not-true (has_byte c (b ∷ [])) parts.0)).0, refl)
onto_first_lacks c b (p ∷ ps) all =
    let parts = and_parts (lacks c (b ∷ p)) (list_all (lacks c) ps) all in
    let here = or_parts (eqb b c) (has_byte c p) (not-true (has_byte c (b ∷ p)) parts.0) in
    (here.0, and_from (lacks c p) (list_all (lacks c) ps) (ap not here.1) parts.1)

-- if no piece has the byte, and it isn't the separator
pub lacks_in_pieces : (s c : ℕ) (text : Text) → eqb s c ≡ false → list_all (lacks c) (pieces_at s text) ≡ true → has_byte c text ≡ false
lacks_in_pieces s c [] other all = refl
lacks_in_pieces s c (b ∷ bs) other all =
    elim (cases_Bool (eqb b s)) [
      | inl same ↦
          let is : b ≡ s = eqb-true b s same in
          let here : eqb b c ≡ false = ap (λ (x : ℕ). eqb x c) is ∙ other in
          let behind : list_all (lacks c) (pieces_at s bs) ≡ true = ap (list_all (lacks c)) (sym (slice_split-cons_yes (λ x. eqb x s) b bs same)) ∙ all in
          rw here (lacks_in_pieces s c bs other behind)
      | inr apart ↦
          let parts = onto_first_lacks c b (pieces_at s bs) (ap (list_all (lacks c)) (sym (slice_split-cons_no (λ x. eqb x s) b bs apart)) ∙ all) in
          rw parts.0 (lacks_in_pieces s c bs other parts.1)
    ]

-- ---- paths and names

no_fault : {X F : Type 0} (fault : Option F) (x y : X) → unless_fault fault x ≡ Ok y → fault ≡ None
no_fault None x y e = refl
no_fault (Some f) x y e = absurd cc

part_lacks : (c : ℕ) → is_path_byte c ≡ false → (part : Text) → is_part part ≡ true → lacks c part ≡ true
part_lacks c fails part good = ap not (lacks_failing is_path_byte c part fails (and_parts (list_all is_path_byte part) _ good).0)

component_lacks : (c : ℕ) → is_path_byte c ≡ false → (component : Text) → is_component component ≡ true → lacks c component ≡ true
component_lacks c fails component good = ap not (lacks_failing is_path_byte c component fails (and_parts (list_all is_path_byte component) _ good).0)

pub path_lacks : (c : ℕ) (text : Text) → is_path_byte c ≡ false → eqb comma c ≡ false → eqb slash c ≡ false → IsPath text → has_byte c text ≡ false
path_lacks c text fails no_comma no_slash path =
    let good = faultless text (no_fault (path_fault_of text) _ text path) in
    let directory : has_byte c (directory_of text) ≡ false =
    lacks_in_pieces slash c (directory_of text) no_slash (all_weaker is_component (lacks c) (component_lacks c fails) (pieces_at slash (directory_of text)) good.directory) in
    let parts : list_all (lacks c) (parts_of text) ≡ true = all_weaker is_part (lacks c) (part_lacks c fails) (parts_of text) good.parts in
    let pieces : list_all (lacks c) (pieces_at comma text) ≡ true =
    ap (list_all (lacks c)) (pieces-split text) ∙ and_from (lacks c (directory_of text)) (list_all (lacks c) (parts_of text)) (ap not directory) parts in
    lacks_in_pieces comma c text no_comma pieces

name_bytes : (a b c : Bool) → cond a (Some name_faults.TooLong) (cond b (Some name_faults.BadByte) (cond c (Some name_faults.NoVersion) None)) ≡ None → b ≡ false
name_bytes true b c none = absurd cc
name_bytes false true c none = absurd cc
name_bytes false false c none = refl

pub name_lacks : (c : ℕ) (text : Text) → is_name_byte c ≡ false → IsName text → has_byte c text ≡ false
name_lacks c text fails name =
    let bytes = name_bytes _ (not (list_all is_name_byte text) || has_empty_flavor text) _ (no_fault (name_fault_of text) text text name) in
    let all = or_parts (not (list_all is_name_byte text)) (has_empty_flavor text) bytes in
    lacks_failing is_name_byte c text fails (not_false (list_all is_name_byte text) all.0)
  where
    not_false : (b : Bool) → not b ≡ false → b ≡ true
    not_false true e = refl
    not_false false e = absurd cc

-- ---- hexadecimal digits

digit_lacks : (c : ℕ) (digits : Text) → has_byte c digits ≡ false → eqb 0 c ≡ false → (k : ℕ) → eqb (get_or digits k 0) c ≡ false
digit_lacks c [] none other k = other
digit_lacks c (d ∷ ds) none other zero = (or_parts (eqb d c) (has_byte c ds) none).0
digit_lacks c (d ∷ ds) none other (suc k) = digit_lacks c ds (or_parts (eqb d c) (has_byte c ds) none).1 other k

pub hex_lacks : (c : ℕ) (bytes : List ℕ) → has_byte c lower_digits ≡ false → eqb 0 c ≡ false → has_byte c (encode_lower bytes) ≡ false
unfolding encode_with
hex_lacks c [] none other = refl
hex_lacks c (b ∷ bs) none other =
    rw (digit_lacks c lower_digits none other (b / 16), digit_lacks c lower_digits none other (b % 16)) (hex_lacks c bs none other)
