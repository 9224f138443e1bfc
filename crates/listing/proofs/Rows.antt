-- Rows that represent what lines set, and one more setting.
use Rattle.std.proofs.Common.{◌≡◌, ◌<◌, ◌≤◌, ◌+◌, ◌++◌, ◌&&◌, ◌||◌, ◌⊎◌, ℕ, suc, zero, Bool, true, false, not, nat_le, List, [], ◌∷◌, length, set, option_and_then, option_map, Option, None, Some, Ok, Bor, IfSome, is_some, ◌≢◌, refl, sym, ap, subst, ◌∙◌, arith, if◌then◌else◌, get_or, inl, inr}
use Rattle.std.proofs.Math.Bool.{and-false, or-true}
use Rattle.std.specs.List.{list_any, IsDistinct}
use Rattle.std.specs.Str.{bytes_eq}
use Rattle.std.specs.Cmp.Lexicographic.{nat_list_eq_equiv}
use Rattle.std.proofs.lemmas.Bool.{cases_eq, cases_lt}
use Rattle.std.proofs.lemmas.Bool.Decides.{nat_tests}
use Rattle.std.proofs.lemmas.List.{get_or_default, get_or-set_same, get_or-set_other, get_or_append_left, get_or_push, length-set, length_push}
use Rattle.std.proofs.lemmas.List.Elements.{All-push}
use Rattle.std.proofs.lemmas.Map.Keys.{apart_from_distinct, IsDistinct-push}
use Rattle.indexmap.specs.IndexSet.{insert_key}
use Rattle.faults.specs.Answers.{first_given, first_that_applies, option_or}
use Rattle.faults.specs.Bytes.{Text, is_among}
use Rattle.pkgpath.specs.PkgPath.{IsPath, path_of}
use Rattle.listing.specs.Dependencies.{words_of}
use Rattle.listing.specs.Lines.{Setting, full_name}
use Rattle.listing.specs.Listing.{is_another, is_one_too_many, is_set_anew, nameless_fault, paths_of, setting_fault, value_fault, value_of}
use Rattle.listing.specs.inside.Parts.{Grows, IsReadAs, name_of_variable}
use Rattle.listing.specs.Rules.{names_and_specs}
use Rattle.listing.specs.inside.Table.{AreRowsOf, IsRowOf, name_in, name_read, new_row, row_fault, setting, text_in, value_in, with_value}
use Rattle.listing.specs.Tree.{most_paths}
use Rattle.listing.specs.declared.ListingFault.{ListingFault}
use Rattle.listing.specs.declared.ListingFault.TheVariants.{NoName, TooMany, TwiceSet}
use Rattle.listing.specs.declared.line.Variable.{Variable}
use Rattle.listing.specs.declared.line.Variable.TheVariants.{FullName, BuildDepends, LibDepends, RunDepends, Ignore}
use Rattle.listing.specs.declared.table.Reading.{Reading}
use Rattle.listing.specs.declared.table.Reading.TheVariants.{Name, Numbers, Unread}
use Rattle.listing.specs.declared.table.Row.{Row}
use Rattle.listing.specs.declared.table.Value.{Value}
use Rattle.listing.proofs.First.{or_none}
use Rattle.listing.proofs.Numbers.{numbers_stay}
use Rattle.listing.proofs.Settings.{among_flip, eq_flip, eq_self, line_of, line_of-push, map_or, nameless_by_paths, new_path, no_line, no_value, old_path, path_fault, same_text, value_of-push}

first_false : (a b : Bool) → (a || b) ≡ false → a ≡ false
first_false true b e = e
first_false false b e = refl

second_false : (a b : Bool) → (a || b) ≡ false → b ≡ false
second_false true b e = cc
second_false false b e = e

absent_at : (ps : List Text) (q : Text) (k : ℕ) → list_any (bytes_eq q) ps ≡ false → k < length ps → bytes_eq q (get_or ps k []) ≡ false
absent_at [] q k new l = absurd (omega arith)
absent_at (p ∷ ps) q zero new l = first_false (bytes_eq q p) (list_any (bytes_eq q) ps) new
absent_at (p ∷ ps) q (suc k) new l = absent_at ps q k (second_false (bytes_eq q p) (list_any (bytes_eq q) ps) new) (omega arith)

-- ---- one row

value_in-with_value : (v w : Variable) (row : Row) (x : Value)
    → value_in w (with_value row v x) ≡ option_or (value_in w row) (if bytes_eq (name_of_variable v) (name_of_variable w) then Some x else None)
value_in-with_value FullName FullName row x = refl
value_in-with_value BuildDepends BuildDepends row x = refl
value_in-with_value LibDepends LibDepends row x = refl
value_in-with_value RunDepends RunDepends row x = refl
value_in-with_value Ignore Ignore row x = refl
value_in-with_value v w row x = sym (or_none (value_in w row))

-- variables with equal names are equal
same_variable : (v w : Variable) → bytes_eq (name_of_variable v) (name_of_variable w) ≡ true → v ≡ w
same_variable FullName FullName e = refl
same_variable BuildDepends BuildDepends e = refl
same_variable LibDepends LibDepends e = refl
same_variable RunDepends RunDepends e = refl
same_variable Ignore Ignore e = refl
same_variable v w e = cc

values_set : (ss : List Setting) (line : ℕ) (p path : Text) (v : Variable) (x : Value) (row : Row) → bytes_eq p path ≡ true
    → ((w : Variable) → value_of ss path (name_of_variable w) ≡ text_in w row)
    → (w : Variable) → value_of (ss ++ setting line p v x.text.now ∷ []) path (name_of_variable w) ≡ text_in w (with_value row v x)
values_set ss line p path v x row e before w =
    value_of-push ss (setting line p v x.text.now) path (name_of_variable w)
    ∙ ap (λ b. option_or (value_of ss path (name_of_variable w)) (if (b && bytes_eq (name_of_variable v) (name_of_variable w)) then Some x.text.now else None)) e
    ∙ ap (λ o. option_or o (if bytes_eq (name_of_variable v) (name_of_variable w) then Some x.text.now else None)) (before w)
    ∙ sym (map_or (λ (y : Value). y.text.now) (value_in w row) (bytes_eq (name_of_variable v) (name_of_variable w)) x)
    ∙ ap (option_map (λ (y : Value). y.text.now)) (sym (value_in-with_value v w row x))

if_some_or : (P : Value → Type 0) (o : Option Value) (b : Bool) (x : Value) → IfSome o P → (b ≡ true → P x) → IfSome (option_or o (if b then Some x else None)) P
if_some_or P None true x before new = new refl
if_some_or P None false x before new = tt
if_some_or P (Some y) b x before new = before

-- The variable's value was parsed correctly.
abbrev pub IsReadValue : List Text → Variable → Value → Type 0
IsReadValue words v x = IsReadAs words v x.text.now x.reading

reads_set : (words : List Text) (v : Variable) (x : Value) (row : Row) → ((w : Variable) → IfSome (value_in w row) (IsReadValue words w)) → IsReadValue words v x
    → (w : Variable) → IfSome (value_in w (with_value row v x)) (IsReadValue words w)
reads_set words v x row before new w =
    subst (λ o. IfSome o (IsReadValue words w)) (sym (value_in-with_value v w row x))
    (if_some_or (IsReadValue words w) (value_in w row) (bytes_eq (name_of_variable v) (name_of_variable w)) x (before w)
    (λ e. subst (λ u. IsReadValue words u x) (same_variable v w e) new))

if_some_weaker : (P Q : Value → Type 0) (o : Option Value) → ((x : Value) → P x → Q x) → IfSome o P → IfSome o Q
if_some_weaker P Q None f h = tt
if_some_weaker P Q (Some x) f h = f x h

reading_stays : (words more : List Text) (v : Variable) (text : Text) (r : Reading) → Grows words more → IsReadAs words v text r → IsReadAs more v text r
reading_stays words more v text (Name name) grows h = h
reading_stays words more v text (Numbers numbers) grows h = (h.0, numbers_stay words more numbers.items (words_of text) grows h.1)
reading_stays words more v text Unread grows h = h

reads_kept : (words more : List Text) (row : Row) → Grows words more → ((w : Variable) → IfSome (value_in w row) (IsReadValue words w))
    → (w : Variable) → IfSome (value_in w row) (IsReadValue more w)
reads_kept words more row grows before w =
    if_some_weaker (IsReadValue words w) (IsReadValue more w) (value_in w row) (λ y h. reading_stays words more w y.text.now y.reading grows h) (before w)

line_kept : (o : Option ℕ) (n : ℕ) (more : Option ℕ) → o ≡ Some n → option_or o more ≡ Some n
line_kept o n more e = ap (λ x. option_or x more) e

-- the row of another path stays the same
row_kept : (ss : List Setting) (words more : List Text) (s : Setting) (path : Text) (row : Row) → bytes_eq s.path path ≡ false → Grows words more
    → IsRowOf ss words path row → IsRowOf (ss ++ s ∷ []) more path row
row_kept ss words more s path row other grows h = record {
  line = line_of-push ss s path ∙ line_kept (line_of ss path) row.line _ h.line;
  values = λ w. value_of-push ss s path (name_of_variable w)
      ∙ ap (λ b. option_or (value_of ss path (name_of_variable w)) (if (b && bytes_eq s.variable (name_of_variable w)) then Some s.value else None)) other
      ∙ or_none (value_of ss path (name_of_variable w)) ∙ h.values w;
  reads = reads_kept words more row grows h.reads;
  spelled = h.spelled;
}

line-with_value : (row : Row) (v : Variable) (x : Value) → (with_value row v x).line ≡ row.line
line-with_value row FullName x = refl
line-with_value row BuildDepends x = refl
line-with_value row LibDepends x = refl
line-with_value row RunDepends x = refl
line-with_value row Ignore x = refl

spelled-with_value : (row : Row) (v : Variable) (x : Value) → (with_value row v x).spelled ≡ row.spelled
spelled-with_value row FullName x = refl
spelled-with_value row BuildDepends x = refl
spelled-with_value row LibDepends x = refl
spelled-with_value row RunDepends x = refl
spelled-with_value row Ignore x = refl

-- the path's row gets the value
row_set : (ss : List Setting) (words more : List Text) (line : ℕ) (p path : Text) (v : Variable) (x : Value) (row : Row) → bytes_eq p path ≡ true → Grows words more
    → IsReadValue more v x
    → IsRowOf ss words path row → IsRowOf (ss ++ setting line p v x.text.now ∷ []) more path (with_value row v x)
row_set ss words more line p path v x row same grows new h = record {
  line = line_of-push ss (setting line p v x.text.now) path ∙ line_kept (line_of ss path) row.line _ h.line ∙ ap Some (sym (line-with_value row v x));
  values = values_set ss line p path v x row same h.values;
  reads = reads_set more v x row (reads_kept words more row grows h.reads) new;
  spelled = ap (λ (t : Bor Text). path_of t.now) (spelled-with_value row v x) ∙ h.spelled;
}

pub nothing_in_new : (w : Variable) (line : ℕ) (t : Bor Text) → value_in w (new_row line t) ≡ None
nothing_in_new FullName line t = refl
nothing_in_new BuildDepends line t = refl
nothing_in_new LibDepends line t = refl
nothing_in_new RunDepends line t = refl
nothing_in_new Ignore line t = refl

-- the first row of a path
row_first : (ss : List Setting) (more : List Text) (line : ℕ) (p : Text) (t : Bor Text) (v : Variable) (x : Value) → list_any (bytes_eq p) (paths_of ss) ≡ false
    → path_of t.now ≡ Ok p → IsReadValue more v x
    → IsRowOf (ss ++ setting line p v x.text.now ∷ []) more p (with_value (new_row line t) v x)
row_first ss more line p t v x new spells read = record {
  line = line_of-push ss (setting line p v x.text.now) p
      ∙ ap (λ o. option_or o (if bytes_eq p p then Some line else None)) (no_line ss p new)
      ∙ ap (λ b. if b then Some line else None) (eq_self p) ∙ ap Some (sym (line-with_value (new_row line t) v x));
  values = values_set ss line p p v x (new_row line t) (eq_self p)
      (λ w. no_value ss p (name_of_variable w) new ∙ sym (ap (option_map (λ (y : Value). y.text.now)) (nothing_in_new w line t)));
  reads = reads_set more v x (new_row line t) (λ w. subst (λ o. IfSome o (IsReadValue more w)) (sym (nothing_in_new w line t)) tt) read;
  spelled = ap (λ (s : Bor Text). path_of s.now) (spelled-with_value (new_row line t) v x) ∙ spells;
}

-- ---- all rows

-- another path than the one at index j
other_path : (ps : List Text) (q : Text) (j k : ℕ) → IsDistinct bytes_eq ps → j < length ps → bytes_eq q (get_or ps j []) ≡ true → k < length ps → k ≢ j
    → bytes_eq q (get_or ps k []) ≡ false
other_path ps q j k once inj e ink apart =
    ap (λ t. bytes_eq t (get_or ps k [])) (same_text q (get_or ps j []) e)
    ∙ elim (cases_lt j k) [
      | inl before ↦ apart_from_distinct bytes_eq ps j k [] once before ink
      | inr behind ↦ eq_flip (get_or ps j []) (get_or ps k []) ∙ apart_from_distinct bytes_eq ps k j [] once (omega arith) inj
    ]

-- the path at an index is among them
pub listed_at : (ps : List Text) (p : Text) (k : ℕ) → k < length ps → bytes_eq p (get_or ps k []) ≡ true → list_any (bytes_eq p) ps ≡ true
listed_at [] p k within same = absurd (omega arith)
listed_at (q ∷ ps) p zero within same = ap (λ b. b || list_any (bytes_eq p) ps) same
listed_at (q ∷ ps) p (suc k) within same = ap (λ b. bytes_eq p q || b) (listed_at ps p k (omega arith) same) ∙ or-true (bytes_eq p q)

-- an existing path's row gets a value
pub rows_set : (ss : List Setting) (words more : List Text) (paths : List Text) (rows : List Row) (line : ℕ) (p : Text) (v : Variable) (x : Value) (i : ℕ) (d : Row)
    → AreRowsOf ss words paths rows → (i < length paths) × (bytes_eq p (get_or paths i []) ≡ true) → Grows words more
    → IsReadValue more v x
    → AreRowsOf (ss ++ setting line p v x.text.now ∷ []) more paths (set rows i (with_value (get_or rows i d) v x))
rows_set ss words more paths rows line p v x i d h place grows read =
    let s : Setting = setting line p v x.text.now in
    let there = listed_at paths p i place.0 place.1 in
    let row : Row = with_value (get_or rows i d) v x in
    record {
      all = h.all ∙ sym (old_path ss s (ap (list_any (bytes_eq p)) (sym h.all) ∙ there));
      lengths = length-set rows i row ∙ h.lengths;
      each = λ k e within. elim (cases_eq k i) [
        | inl same ↦
            subst (λ n. IsRowOf (ss ++ s ∷ []) more (get_or paths n []) (get_or (set rows i row) n e)) (sym same)
            (subst (IsRowOf (ss ++ s ∷ []) more (get_or paths i [])) (sym (get_or-set_same rows i row e (omega (arith, place.0, h.lengths))))
            (row_set ss words more line p (get_or paths i []) v x (get_or rows i d) place.1 grows read (h.each i d place.0)))
        | inr other ↦
            subst (IsRowOf (ss ++ s ∷ []) more (get_or paths k [])) (sym (get_or-set_other rows i k row e other))
            (row_kept ss words more s (get_or paths k []) (get_or rows k e) (other_path paths p i k h.once place.0 place.1 within other) grows (h.each k e within))
      ];
      once = h.once;
      few = h.few;
      spelled = h.spelled;
    }

-- a new path gets a row of its own
pub rows_push : (ss : List Setting) (words more : List Text) (paths : List Text) (rows : List Row) (line : ℕ) (p : Text) (t : Bor Text) (v : Variable) (x : Value)
    → AreRowsOf ss words paths rows → list_any (bytes_eq p) paths ≡ false → length paths < most_paths → IsPath p → path_of t.now ≡ Ok p → Grows words more
    → IsReadValue more v x
    → AreRowsOf (ss ++ setting line p v x.text.now ∷ []) more (paths ++ p ∷ []) (rows ++ with_value (new_row line t) v x ∷ [])
rows_push ss words more paths rows line p t v x h new few spelled spells grows read =
    let s : Setting = setting line p v x.text.now in
    let row : Row = with_value (new_row line t) v x in
    let fresh : list_any (bytes_eq p) (paths_of ss) ≡ false = ap (list_any (bytes_eq p)) (sym h.all) ∙ new in
    let size = length_push paths p in
    record {
      all = ap (λ ps. ps ++ p ∷ []) h.all ∙ sym (new_path ss s fresh);
      lengths = length_push rows row ∙ ap (λ n. n + 1) h.lengths ∙ sym size;
      each = λ k e within. elim (cases_lt k (length paths)) [
        | inl before ↦
            subst (λ q. IsRowOf (ss ++ s ∷ []) more q (get_or (rows ++ row ∷ []) k e)) (sym (get_or_append_left paths (p ∷ []) [] k before))
            (subst (IsRowOf (ss ++ s ∷ []) more (get_or paths k [])) (sym (get_or_append_left rows (row ∷ []) e k (omega (arith, before, h.lengths))))
            (row_kept ss words more s (get_or paths k []) (get_or rows k e) (absent_at paths p k new before) grows (h.each k e before)))
        | inr last ↦
            let here : length paths ≡ k = omega (arith, within, size, last) in
            subst (λ q. IsRowOf (ss ++ s ∷ []) more q (get_or (rows ++ row ∷ []) k e)) (sym (get_or_push paths p [] k here))
            (subst (IsRowOf (ss ++ s ∷ []) more p) (sym (get_or_push rows row e k (h.lengths ∙ here)))
            (row_first ss more line p t v x fresh spells read))
      ];
      once = IsDistinct-push nat_list_eq_equiv paths p h.once new;
      few = omega (arith, size, few);
      spelled = All-push IsPath paths p h.spelled spelled;
    }

-- ---- the fault of a setting

pub fault_many : (earlier : List Setting) (s : Setting) → is_one_too_many earlier s ≡ true → setting_fault names_and_specs earlier s ≡ Some (TooMany s.line)
fault_many earlier s e =
    ap (λ b. option_or (first_that_applies ((b, TooMany s.line) ∷ []))
    (option_or (value_fault names_and_specs s.line s.variable s.value) (first_that_applies ((is_set_anew earlier s, TwiceSet s.line) ∷ [])))) e

fault_few : (earlier : List Setting) (s : Setting) → is_one_too_many earlier s ≡ false
    → setting_fault names_and_specs earlier s ≡ option_or (value_fault names_and_specs s.line s.variable s.value) (first_that_applies ((is_set_anew earlier s, TwiceSet s.line) ∷ []))
fault_few earlier s e =
    ap (λ b. option_or (first_that_applies ((b, TooMany s.line) ∷ []))
    (option_or (value_fault names_and_specs s.line s.variable s.value) (first_that_applies ((is_set_anew earlier s, TwiceSet s.line) ∷ [])))) e

pub fault_value : (earlier : List Setting) (s : Setting) (e : ListingFault) → is_one_too_many earlier s ≡ false
    → value_fault names_and_specs s.line s.variable s.value ≡ Some e → setting_fault names_and_specs earlier s ≡ Some e
fault_value earlier s e few bad =
    fault_few earlier s few ∙ ap (λ o. option_or o (first_that_applies ((is_set_anew earlier s, TwiceSet s.line) ∷ []))) bad

pub fault_anew : (earlier : List Setting) (s : Setting) → is_one_too_many earlier s ≡ false
    → value_fault names_and_specs s.line s.variable s.value ≡ None → is_set_anew earlier s ≡ true → setting_fault names_and_specs earlier s ≡ Some (TwiceSet s.line)
fault_anew earlier s few good anew =
    fault_few earlier s few ∙ (λ i. option_or (good i) (first_that_applies ((anew i, TwiceSet s.line) ∷ [])))

pub no_fault : (earlier : List Setting) (s : Setting) → is_one_too_many earlier s ≡ false
    → value_fault names_and_specs s.line s.variable s.value ≡ None → is_set_anew earlier s ≡ false → setting_fault names_and_specs earlier s ≡ None
no_fault earlier s few good anew =
    fault_few earlier s few ∙ (λ i. option_or (good i) (first_that_applies ((anew i, TwiceSet s.line) ∷ [])))

-- ---- whether there are too many paths

pub one_too_many : (ss : List Setting) (words paths : List Text) (rows : List Row) (s : Setting) → AreRowsOf ss words paths rows
    → list_any (bytes_eq s.path) paths ≡ false → most_paths ≤ length paths → is_one_too_many ss s ≡ true
one_too_many ss words paths rows s h new many =
    let absent : is_among (paths_of ss) s.path ≡ false = among_flip (paths_of ss) s.path ∙ ap (list_any (bytes_eq s.path)) (sym h.all) ∙ new in
    let full : nat_le most_paths (length (paths_of ss)) ≡ true = ap (λ ps. nat_le most_paths (length ps)) (sym h.all) ∙ grind (arith, nat_tests) in
    λ i. not (absent i) && full i

pub not_too_many : (ss : List Setting) (words paths : List Text) (rows : List Row) (s : Setting) → AreRowsOf ss words paths rows
    → (list_any (bytes_eq s.path) paths ≡ true) ⊎ (length paths < most_paths) → is_one_too_many ss s ≡ false
not_too_many ss words paths rows s h (inl there) =
    let present : is_among (paths_of ss) s.path ≡ true = among_flip (paths_of ss) s.path ∙ ap (list_any (bytes_eq s.path)) (sym h.all) ∙ there in
    ap (λ b. not b && nat_le most_paths (length (paths_of ss))) present
not_too_many ss words paths rows s h (inr few) =
    let room : nat_le most_paths (length (paths_of ss)) ≡ false = ap (λ ps. nat_le most_paths (length ps)) (sym h.all) ∙ grind (arith, nat_tests) in
    ap (λ b. not (is_among (paths_of ss) s.path) && b) room ∙ and-false (not (is_among (paths_of ss) s.path))

-- ---- the first row without a name

first_given-same : {X Y F : Type 0} (f : X → Option F) (g : Y → Option F) (xs : List X) (ys : List Y) → length xs ≡ length ys
    → ((k : ℕ) (d : X) (e : Y) → k < length xs → f (get_or xs k d) ≡ g (get_or ys k e)) → first_given f xs ≡ first_given g ys
first_given-same f g [] [] same h = refl
first_given-same f g [] (y ∷ ys) same h = absurd (omega arith)
first_given-same f g (x ∷ xs) [] same h = absurd (omega arith)
first_given-same f g (x ∷ xs) (y ∷ ys) same h =
    let head = h zero x y (omega arith) in
    let tail = first_given-same f g xs ys (omega arith) (λ k d e l. h (suc k) d e (omega arith)) in
    λ i. option_or (head i) (tail i)

-- a name that is set was parsed as a name
read_as_name : (words : List Text) (text : Text) (r : Reading) → IsReadAs words FullName text r → true ≡ is_some (name_read r)
read_as_name words text (Name name) h = refl
read_as_name words text (Numbers numbers) h = sym h.0
read_as_name words text Unread h = cc

named_where_set : (words : List Text) (o : Option Value) → IfSome o (IsReadValue words FullName)
    → is_some (option_map (λ (y : Value). y.text.now) o) ≡ is_some (option_and_then (λ (y : Value). name_read y.reading) o)
named_where_set words None h = refl
named_where_set words (Some x) h = read_as_name words x.text.now x.reading h

pub nameless_by_rows : (ss : List Setting) (words paths : List Text) (rows : List Row) → AreRowsOf ss words paths rows
    → first_given row_fault rows ≡ nameless_fault ss
nameless_by_rows ss words paths rows h =
    let named : Text → Bool = λ p. is_some (value_of ss p full_name) in
    first_given-same row_fault (path_fault named ss) rows paths h.lengths
    (λ k d e l.
    let row = h.each k d (omega (arith, l, h.lengths)) in
    let same : get_or paths k [] ≡ get_or paths k e = get_or_default paths k [] e (omega (arith, l, h.lengths)) in
    let has : is_some (value_of ss (get_or paths k []) full_name) ≡ is_some (name_in (get_or rows k d)) =
    ap is_some (row.values FullName) ∙ named_where_set words (get_or rows k d).name (row.reads FullName) in
    let line = row.line in
    sym (λ i. if has i then None else option_map NoName (line i)) ∙ ap (path_fault named ss) same)
    ∙ ap (first_given (path_fault named ss)) h.all ∙ sym (nameless_by_paths ss)

-- ---- whether the variable is set to a different value

pub anew_there : (ss : List Setting) (words paths : List Text) (rows : List Row) (p : Text) (i : ℕ) (line : ℕ) (v : Variable) (text : Text) (d : Row) (b : Bool)
    → AreRowsOf ss words paths rows → (i < length paths) × (bytes_eq p (get_or paths i []) ≡ true) → is_another text (text_in v (get_or rows i d)) ≡ b
    → is_set_anew ss (setting line p v text) ≡ b
anew_there ss words paths rows p i line v text d b h place e =
    ap (λ q. is_another text (value_of ss q (name_of_variable v))) (same_text p (get_or paths i []) place.1)
    ∙ ap (is_another text) ((h.each i d place.0).values v) ∙ e

pub anew_first : (ss : List Setting) (words paths : List Text) (rows : List Row) (p : Text) (line : ℕ) (v : Variable) (text : Text)
    → AreRowsOf ss words paths rows → list_any (bytes_eq p) paths ≡ false → is_set_anew ss (setting line p v text) ≡ false
anew_first ss words paths rows p line v text h new =
    ap (is_another text) (no_value ss p (name_of_variable v) (ap (list_any (bytes_eq p)) (sym h.all) ∙ new))

pub rows_moved : (ss : List Setting) (words more : List Text) (paths keys : List Text) (rows now : List Row) → words ≡ more → paths ≡ keys → rows ≡ now
    → AreRowsOf ss words paths rows → AreRowsOf ss more keys now
rows_moved ss words more paths keys rows now e f g h =
    subst (λ w. AreRowsOf ss w keys now) e (subst (λ p. AreRowsOf ss words p now) f (subst (λ r. AreRowsOf ss words paths r) g h))

pub inserted_new : (keys : List Text) (p : Text) → list_any (bytes_eq p) keys ≡ false → insert_key bytes_eq keys p ≡ keys ++ p ∷ []
inserted_new keys p e = ap (λ b. if b then keys else keys ++ p ∷ []) e
