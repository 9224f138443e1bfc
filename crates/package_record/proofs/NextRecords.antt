-- Parsing records one after the other.
use Rattle.std.proofs.Common.{◌≡◌, ℕ, zero, suc, ◌+◌, ◌-◌, ◌<◌, ◌≤◌, ◌⊎◌, List, [], ◌∷◌, ◌++◌, length, true, false, eqb, take, drop, get_or, Option, None, Some, Result, Ok, Err, refl, sym, ap, ◌∙◌, arith, inl, inr}
use Rattle.std.proofs.lemmas.Bool.{eqb-true, le-ltb, lt-ltb}
use Rattle.std.proofs.lemmas.List.{drop_all, length-drop, take_all}
use Rattle.faults.specs.Answers.{first_given, map_ok, option_or, unless_fault}
use Rattle.faults.specs.Bytes.{Text, is_empty}
use Rattle.package_record.specs.BuildReading.{alone, first_build_of, is_several, next_fault, next_of, packages_of, records_in, several_of, whole_build_of, whole_several_of}
use Rattle.package_record.specs.Content.{Content, most_bytes}
use Rattle.package_record.specs.Reading.{first_of, whole_of}
use Rattle.package_record.specs.declared.RecordFault.{RecordFault}
use Rattle.package_record.specs.declared.RecordFault.TheVariants.{TooLarge, Trailing}
use Rattle.package_record.proofs.Lists.{drop_one}
use Rattle.package_record.proofs.ReadFields.{where_false, where_true}

-- a right result, or `Memory`, is still right if the refusal is passed on
pub passed_on : {A B F : Type 0} (memory e : F) (r : Result A F) (s : Result B F) → (r ≡ Err e → s ≡ Err e) → (e ≡ memory) ⊎ (r ≡ Err e) → (e ≡ memory) ⊎ (s ≡ Err e)
passed_on memory e r s on (inl m) = inl m
passed_on memory e r s on (inr h) = inr (on h)

-- likewise, if the refusal that is passed on is only known to be equal
pub passed_as : {A B F : Type 0} (memory e f : F) → f ≡ e → (r : Result A F) (s : Result B F) → (r ≡ Err e → s ≡ Err e) → (e ≡ memory) ⊎ (r ≡ Err e) → (f ≡ memory) ⊎ (s ≡ Err f)
passed_as memory e f same r s on h = rw same (passed_on memory e r s on h)

-- ---- this number of records

pub records_more : (n k : ℕ) (front : List Content) (text : Text) (total : Result (List Content × Text) RecordFault) (x : Content × Text) → 0 < k → records_in n k front text ≡ total
    → next_of n front text ≡ Ok x → records_in n (k - 1) (front ++ x.0 ∷ []) x.1 ≡ total
unfolding records_in
records_more n zero front text total x some e next = absurd (omega arith)
records_more n (suc k) front text total x some e next =
    let less : suc k - 1 ≡ k = omega arith in
    let step : records_in n (suc k) front text ≡ records_in n k (front ++ x.0 ∷ []) x.1 = rw next refl in
    ap (λ (m : ℕ). records_in n m (front ++ x.0 ∷ []) x.1) less ∙ sym step ∙ e

pub records_end : (n k : ℕ) (front : List Content) (text : Text) (total : Result (List Content × Text) RecordFault) → k ≤ 0 → records_in n k front text ≡ total → total ≡ Ok (front, text)
unfolding records_in
records_end n zero front text total none e = sym e
records_end n (suc k) front text total none e = absurd (omega arith)

pub records_fail : (n k : ℕ) (front : List Content) (text : Text) (total : Result (List Content × Text) RecordFault) (f : RecordFault) → 0 < k → records_in n k front text ≡ total
    → next_of n front text ≡ Err f → total ≡ Err f
unfolding records_in
records_fail n zero front text total f some e next = absurd (omega arith)
records_fail n (suc k) front text total f some e next = sym e ∙ rw next refl

-- ---- the first value given

pub given_next : {X F : Type 0} (f : X → Option F) (xs : List X) (i : ℕ) (x : X) → i < length xs → x ≡ get_or xs i x → first_given f (drop i xs) ≡ option_or (f x) (first_given f (drop (i + 1) xs))
given_next f xs i x lt here = rw (drop_one xs i x lt here) refl

pub given_end : {X F : Type 0} (f : X → Option F) (xs : List X) (i : ℕ) → length xs ≤ i → first_given f (drop i xs) ≡ None
given_end f xs i long = rw (drop_all i xs long) refl

pub fault_none : {X F : Type 0} (o : Option F) (x y : X) → unless_fault o x ≡ Ok y → o ≡ None
fault_none None x y e = refl
fault_none (Some f) x y e = absurd cc

pub fault_some : {X F : Type 0} (o : Option F) (x : X) (f : F) → unless_fault o x ≡ Err f → o ≡ Some f
fault_some None x f e = absurd cc
fault_some (Some g) x f e = cc

-- the first value, given by the next item
pub given_here : {X F : Type 0} (f : X → Option F) (xs : List X) (i : ℕ) (x : X) (e : F) → i < length xs → x ≡ get_or xs i x → f x ≡ Some e → first_given f (drop i xs) ≡ Some e
given_here f xs i x e lt here some = given_next f xs i x lt here ∙ rw some refl

pub given_behind : {X F : Type 0} (f : X → Option F) (xs : List X) (i : ℕ) (x : X) → i < length xs → x ≡ get_or xs i x → f x ≡ None → first_given f (drop i xs) ≡ first_given f (drop (i + 1) xs)
given_behind f xs i x lt here none = given_next f xs i x lt here ∙ rw none refl

-- ---- one record

module _ (n : ℕ) (front : List Content) (text : Text) where
  pub next_read : (x : Content × Text) → first_of text ≡ Ok x → n - length x.1 ≤ most_bytes → next_fault front x.0 ≡ None → next_of n front text ≡ Ok x
  unfolding next_of
  next_read x read within none = rw (read, le-ltb most_bytes (n - length x.1) within, none) refl

  pub next_long : (x : Content × Text) → first_of text ≡ Ok x → most_bytes < n - length x.1 → next_of n front text ≡ Err TooLarge
  unfolding next_of
  next_long x read over = rw (read, lt-ltb most_bytes (n - length x.1) over) refl

  pub next_unlike : (x : Content × Text) (f : RecordFault) → first_of text ≡ Ok x → n - length x.1 ≤ most_bytes → next_fault front x.0 ≡ Some f → next_of n front text ≡ Err f
  unfolding next_of
  next_unlike x f read within some = rw (read, le-ltb most_bytes (n - length x.1) within, some) refl

  pub next_unread : (f : RecordFault) → first_of text ≡ Err f → next_of n front text ≡ Err f
  unfolding next_of
  next_unread f unread = rw unread refl

-- ---- the whole

-- a slice up to the end of a text
pub rest_whole : (text : Text) (n : ℕ) → take (length text - n) (drop n text) ≡ drop n text
rest_whole text n = take_all (length text - n) (drop n text) (omega (arith, length-drop n text))

pub several_unread : (text : Text) (f : RecordFault) → packages_of text ≡ Err f → several_of text ≡ Err f
unfolding several_of
several_unread text f unread = rw unread refl

pub several_is : (text : Text) (x : ℕ × Text) → packages_of text ≡ Ok x → several_of text ≡ records_in (length text) x.0 [] x.1
unfolding several_of
several_is text x read = rw read refl

pub whole_long : (text : Text) → most_bytes < length text → whole_several_of text ≡ Err TooLarge
unfolding whole_several_of
whole_long text over = rw (lt-ltb most_bytes (length text) over) refl

pub whole_unread : (text : Text) (f : RecordFault) → length text ≤ most_bytes → several_of text ≡ Err f → whole_several_of text ≡ Err f
unfolding whole_several_of
whole_unread text f within unread = rw (le-ltb most_bytes (length text) within, unread) refl

pub whole_read : (text : Text) (x : List Content × Text) → length text ≤ most_bytes → several_of text ≡ Ok x → is_empty x.1 ≡ true → whole_several_of text ≡ Ok x.0
unfolding whole_several_of
whole_read text x within read none = rw (le-ltb most_bytes (length text) within, read, none) refl

pub whole_trailing : (text : Text) (x : List Content × Text) → length text ≤ most_bytes → several_of text ≡ Ok x → is_empty x.1 ≡ false → whole_several_of text ≡ Err Trailing
unfolding whole_several_of
whole_trailing text x within read some = rw (le-ltb most_bytes (length text) within, read, some) refl

pub whole_of_several : (text : Text) → is_several text ≡ true → whole_build_of text ≡ whole_several_of text
unfolding whole_build_of
whole_of_several text several = where_true (is_several text) (whole_several_of text) (map_ok alone (whole_of text)) several

pub whole_of_one : (text : Text) → is_several text ≡ false → whole_build_of text ≡ map_ok alone (whole_of text)
unfolding whole_build_of
whole_of_one text one = where_false (is_several text) (whole_several_of text) (map_ok alone (whole_of text)) one

pub first_of_several : (text : Text) → is_several text ≡ true → first_build_of text ≡ several_of text
unfolding first_build_of
first_of_several text several = where_true (is_several text) (several_of text) (map_ok (λ c. (alone c.0, c.1)) (first_of text)) several

pub first_of_one : (text : Text) → is_several text ≡ false → first_build_of text ≡ map_ok (λ c. (alone c.0, c.1)) (first_of text)
unfolding first_build_of
first_of_one text one = where_false (is_several text) (several_of text) (map_ok (λ c. (alone c.0, c.1)) (first_of text)) one

pub no_bytes : (bytes : Text) → eqb (length bytes) 0 ≡ true → is_empty bytes ≡ true
no_bytes [] e = refl
no_bytes (b ∷ bytes) e = absurd (omega (arith, eqb-true (length (b ∷ bytes)) 0 e))
