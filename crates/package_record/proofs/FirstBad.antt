-- The first name that isn't allowed in its place.
use Rattle.std.proofs.Common.{◌≡◌, ℕ, zero, suc, ◌+◌, ◌<◌, ◌≤◌, Bool, true, false, List, [], ◌∷◌, ◌++◌, length, get_or, take, map, Option, None, Some, refl, sym, ap, ◌∙◌, arith, inl, inr}
use Rattle.std.specs.List.{range_with_len}
use Rattle.std.proofs.lemmas.Bool.{cases_lt, lt-ltb}
use Rattle.std.proofs.lemmas.List.{take_more, length-map}
use Rattle.faults.specs.Answers.{first_given}
use Rattle.faults.specs.Bytes.{Text}
use Rattle.package_record.specs.Content.{AreFileNames, is_next_name, most_bytes, names_of}
use Rattle.package_record.specs.FileView.{file_view}
use Rattle.package_record.specs.Making.{names_fault, too_large}
use Rattle.package_record.specs.declared.file.File.{File}
use Rattle.package_record.specs.declared.RecordFault.TheVariants.{BadFileName, TooLarge}

-- there is no first value if f gives none for any number
given_none : {F : Type 0} (f : ℕ → Option F) (a n : ℕ) → ((k : ℕ) → k < a + n → f k ≡ None) → first_given f (range_with_len a n) ≡ None
given_none f a zero h = refl
given_none f a (suc n) h = rw (h a (omega arith)) (given_none f (a + 1) n (λ k lt. h k (omega arith)))

-- the first value that f gives
given_some : {F : Type 0} (f : ℕ → Option F) (x : F) (i a n : ℕ) → a ≤ i → i < a + n → ((k : ℕ) → k < i → f k ≡ None) → f i ≡ Some x → first_given f (range_with_len a n) ≡ Some x
given_some f x i a zero le lt h e = absurd (omega arith)
given_some f x i a (suc n) le lt h e =
    elim (cases_lt a i) [
      | inl below ↦ rw (h a below) (given_some f x i (a + 1) n (omega arith) (omega arith) h e)
      | inr above ↦ let same : a ≡ i = omega arith in let here : f a ≡ Some x = ap f same ∙ e in rw here refl
    ]

-- a file's name among the names
pub named : (files : List File) (i : ℕ) (x : File) → i < length files → x ≡ get_or files i x → get_or (names_of (map file_view files)) i [] ≡ x.name.items
named (f ∷ files) zero x lt e = ap (λ y. y.name.items) (sym e)
named (f ∷ files) (suc i) x lt e = named files i x (omega arith) e
named [] i x lt e = absurd (omega arith)

pub count_names : (files : List File) → length (names_of (map file_view files)) ≡ length files
count_names files = length-map (map file_view files) (λ f. f.name) ∙ length-map files file_view

-- all names are good
pub no_bad_name : (names : List Text) → AreFileNames names → names_fault names ≡ None
no_bad_name names good = given_none _ 0 (length names) (λ k lt. rw (good k (omega arith)) refl)

-- the first bad name
pub first_bad_name : (names : List Text) (i : ℕ) → i < length names → ((k : ℕ) → k < i → is_next_name (take k names) (get_or names k []) ≡ true)
    → is_next_name (take i names) (get_or names i []) ≡ false → names_fault names ≡ Some (BadFileName (i + 1))
first_bad_name names i lt good bad = given_some _ (BadFileName (i + 1)) i 0 (length names) (omega arith) (omega arith) (λ k below. rw (good k below) refl) (rw bad refl)

-- the result of testing the name of file i
pub said_of_name : (files : List File) (i : ℕ) (x : File) (seen : List Text) (name : Text) (said : Bool) → i < length files → x ≡ get_or files i x
    → seen ≡ take i (names_of (map file_view files)) → name ≡ x.name.items → said ≡ is_next_name seen name
    → is_next_name (take i (names_of (map file_view files))) (get_or (names_of (map file_view files)) i []) ≡ said
said_of_name files i x seen name said lt is e n s = rw (named files i x lt is, ← e, ← n) (sym s)

pub names_more : (files : List File) (i : ℕ) (x : File) (seen now : List Text) (name : Text) → i < length files → x ≡ get_or files i x
    → seen ≡ take i (names_of (map file_view files)) → name ≡ x.name.items → now ≡ seen ++ name ∷ []
    → now ≡ take (i + 1) (names_of (map file_view files))
names_more files i x seen now name lt is e n more =
    let names = names_of (map file_view files) in
    let below : i < length names = omega (arith, count_names files) in
    more ∙ ap (λ (l : List Text). l ++ name ∷ []) e ∙ ap (λ (t : Text). take i names ++ t ∷ []) (n ∙ sym (named files i x lt is)) ∙ sym (take_more names i [] below)

-- a length without a fault is within the limit
pub within : (n : ℕ) → too_large n ≡ None → n ≤ most_bytes
within n none = elim (cases_lt most_bytes n) [ inl over ↦ absurd (let e : too_large n ≡ Some TooLarge = rw (lt-ltb most_bytes n over) refl in (cc)) | inr le ↦ le ]
