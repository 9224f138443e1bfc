-- The numbers of dependencies.
use Rattle.std.proofs.Common.{◌≡◌, ◌<◌, ◌≤◌, ◌+◌, ◌++◌, ◌⊎◌, ℕ, Bool, true, false, not, ◌&&◌, cond, nat_lt, nat_le, List, [], ◌∷◌, All, length, map, take, get_or, position, is_some, is_err, is_ok, Option, None, Some, Ok, Bor, refl, sym, ap, subst, ◌∙◌, arith, inl, inr, zero-add}
use Rattle.std.specs.List.{list_all, enumerate_from, position_or_len, prefix_len}
use Rattle.std.specs.Map.{keys_of}
use Rattle.std.specs.Str.{bytes_eq}
use Rattle.std.proofs.lemmas.Bool.{ltb-false}
use Rattle.std.proofs.lemmas.Bool.Decides.{nat_tests}
use Rattle.std.proofs.lemmas.List.{get_or-map, get_or_append_left, get_or_push, length_push, length-map, length-append, map_push, append_assoc, take_more, take_all, append-nil}
use Rattle.std.proofs.lemmas.List.Elements.{All-get_or, All-head, All-push, All-tail, All-weaker}
use Rattle.std.proofs.lemmas.List.FromFn.{get_or-enumerate_from, length-enumerate_from}
use Rattle.std.proofs.lemmas.List.Quantifiers.{position-Some}
use Rattle.std.proofs.lemmas.Slice.Eq.{bytes_eq-Decides}
use Rattle.faults.specs.Answers.{first_given, first_that_applies, option_or}
use Rattle.faults.specs.Bytes.{Text}
use Rattle.pkgpath.specs.PkgPath.{path_of}
use Rattle.pkgspec.specs.Matching.{matches}
use Rattle.pkgspec.specs.Spec.{Alternative, spec_of}
use Rattle.listing.specs.Dependencies.{dependency_path_text, is_shaped, specs_of, words_of}
use Rattle.listing.specs.inside.Entries.{Entry, IsRead, IsReadEntry, words_of_entries}
use Rattle.listing.specs.Listing.{dependencies_fault, dependency_fault, dependency_path, most_dependencies, path_or_empty, word_fault}
use Rattle.listing.specs.inside.BarePackages.{all_match, resolution_at, resolution_of, resolution_of_word, word_matches}
use Rattle.listing.specs.inside.Parts.{AreFieldsOf, AreNumbersOf, Grows, IsNumberOf, specs_from}
use Rattle.listing.specs.Rules.{names_and_specs, read_spec_matches}
use Rattle.listing.specs.declared.ListingFault.{ListingFault}
use Rattle.listing.specs.declared.ListingFault.TheVariants.{BadLine, BadPath, Memory, TooMany}
use Rattle.listing.specs.declared.dependency.Dependency.{Dependency}
use Rattle.listing.specs.declared.dependency.Fields.{Fields}
use Rattle.listing.specs.declared.table.Row.{Row}
use Rattle.listing.proofs.First.{given_at, none_given_at_all, none_given_more}
use Rattle.listing.proofs.Places.{from_none}

-- ---- the fault of a dependency

-- texts that parse as specs are specs
all_specs : (ts : List Text) (ss : List (List Alternative)) → map spec_of ts ≡ map Ok ss → list_all names_and_specs.is_spec ts ≡ true
all_specs [] ss e = refl
all_specs (t ∷ ts) [] e = cc
all_specs (t ∷ ts) (s ∷ ss) e =
    let head : spec_of t ≡ Ok s = cc in
    let rest : map spec_of ts ≡ map Ok ss = cc in
    let tail = all_specs ts ss rest in
    λ i. is_ok (head i) && tail i

word_fault_by : (n : ℕ) (w : Text) (a b c : Bool) → is_shaped w ≡ a → list_all names_and_specs.is_spec (specs_of w) ≡ b → is_err (path_of (dependency_path_text w)) ≡ c
    → word_fault names_and_specs n w ≡ first_that_applies ((not a, BadLine n) ∷ (not b, BadLine n) ∷ (c, BadPath n) ∷ [])
word_fault_by n w a b c shaped specs path = λ i. first_that_applies ((not (shaped i), BadLine n) ∷ (not (specs i), BadLine n) ∷ (path i, BadPath n) ∷ [])

pub no_word_fault : (n : ℕ) (w : Text) (d : Dependency) → IsRead w d → word_fault names_and_specs n w ≡ None
no_word_fault n w d h = word_fault_by n w true true false h.shaped (all_specs (specs_of w) d.specs.items h.specs) (ap is_err h.spelled)

-- the fault of a dependency with a malformed spec
pub specs_fault : (line : ℕ) (word : Text) (fields : Fields) (e : ListingFault) → AreFieldsOf word fields
    → (e ≡ Memory) ⊎ ((list_all names_and_specs.is_spec (specs_from fields.spec.now fields.bounds.now) ≡ false) × (e ≡ BadLine line))
    → (e ≡ Memory) ⊎ (word_fault names_and_specs line word ≡ Some e)
specs_fault line word fields e h (inl m) = inl m
specs_fault line word fields e h (inr bad) =
    inr (word_fault_by line word true false (is_err (path_of (dependency_path_text word))) h.shaped (ap (list_all names_and_specs.is_spec) h.specs ∙ bad.0) refl ∙ ap Some (sym bad.1))

-- the fault of a dependency with a malformed path
pub path_fault : (line : ℕ) (word : Text) (fields : Fields) (specs : List (List Alternative)) (e : ListingFault) → AreFieldsOf word fields
    → map spec_of (specs_from fields.spec.now fields.bounds.now) ≡ map Ok specs
    → (e ≡ Memory) ⊎ ((is_err (path_of fields.path.now) ≡ true) × (e ≡ BadPath line)) → (e ≡ Memory) ⊎ (word_fault names_and_specs line word ≡ Some e)
path_fault line word fields specs e h spelled (inl m) = inl m
path_fault line word fields specs e h spelled (inr bad) =
    inr (word_fault_by line word true true true h.shaped (all_specs (specs_of word) specs (ap (map spec_of) h.specs ∙ spelled))
    (ap (λ t. is_err (path_of t)) (sym h.path) ∙ bad.0) ∙ ap Some (sym bad.1))

pub none_from_is_some : {X : Type 0} (o : Option X) → false ≡ is_some o → o ≡ None
none_from_is_some None e = refl
none_from_is_some (Some x) e = cc

-- ---- a dependency that was parsed before

entry_at : (es : List Entry) (word : Text) (n : ℕ) (d : Entry) → position (bytes_eq word) (keys_of es) ≡ Some n
    → (n < length es) × (word ≡ (get_or es n d).0)
entry_at es word n d e =
    let h = position-Some (bytes_eq word) (keys_of es) n d.0 e in
    let within : n < length es = omega (arith, h.0, length-map es (λ (x : Entry). x.0)) in
    let key : get_or (keys_of es) n d.0 ≡ (get_or es n d).0 = get_or-map (λ (x : Entry). x.0) es n d d.0 within in
    (within, (bytes_eq-Decides word (get_or es n d).0).0 (ap (bytes_eq word) (sym key) ∙ h.1))

pub number_there : (line : ℕ) (es : List Entry) (word : Text) (n : ℕ) → All IsReadEntry es
    → position (bytes_eq word) (keys_of es) ≡ Some n
    → (word_fault names_and_specs line word ≡ None) × IsNumberOf (words_of_entries es) n word
number_there line [] word n good e = cc
number_there line (x ∷ xs) word n good e =
    let h = entry_at (x ∷ xs) word n x e in
    let entry = All-get_or IsReadEntry (x ∷ xs) n x h.0 good in (
      no_word_fault line word (get_or (x ∷ xs) n x).1 (subst (λ w. IsRead w (get_or (x ∷ xs) n x).1) (sym h.1) entry),
      (omega (arith, h.0, length-map (x ∷ xs) (λ (y : Entry). y.0)), get_or-map (λ (y : Entry). y.0) (x ∷ xs) n x [] h.0 ∙ sym h.1),
    )

-- ---- one more dependency

prefix_le : {X : Type 0} (p : X → Bool) (xs : List X) → prefix_len p xs ≤ length xs
prefix_le p [] = omega arith
prefix_le p (x ∷ xs) = by (p x) (prefix_len p xs) (prefix_le p xs)
  where
    by : (b : Bool) (n : ℕ) → n ≤ length xs → cond b (1 + n) 0 ≤ length (x ∷ xs)
    by true n h = omega arith
    by false n h = omega arith

-- a key that isn't there is appended
pub place_of_new : {X : Type 0} (p : X → Bool) (xs : List X) → None ≡ position p xs → position_or_len p xs ≡ length xs
place_of_new p xs e =
    let far = ltb-false _ _ (from_none (nat_lt (position_or_len p xs) (length xs)) (position_or_len p xs) (sym e)) in
    omega (arith, far, prefix_le (λ x. not (p x)) xs)

pub entries_grow : (es new : List Entry) (words : List Text) (e : Entry) → words_of_entries es ≡ words → new ≡ es ++ e ∷ [] → Grows words (words_of_entries new)
entries_grow es new words e seen is = record {
  more = e.0 ∷ [];
  is = ap words_of_entries is ∙ map_push (λ (x : Entry). x.0) es e ∙ ap (λ ws. ws ++ e.0 ∷ []) seen;
}

pub number_of_new : (es new : List Entry) (n : ℕ) (word : Text) (e : Entry) → new ≡ es ++ e ∷ [] → n ≡ length es → e.0 ≡ word
    → IsNumberOf (words_of_entries new) n word
number_of_new es new n word e is place same =
    let words = ap words_of_entries is ∙ map_push (λ (x : Entry). x.0) es e in
    let size : length (words_of_entries new) ≡ length es + 1 =
    ap length words ∙ length_push (words_of_entries es) e.0 ∙ ap (λ m. m + 1) (length-map es (λ (x : Entry). x.0)) in (
      omega (arith, size, place),
      ap (λ ws. get_or ws n []) words ∙ get_or_push (words_of_entries es) e.0 [] n (length-map es (λ (x : Entry). x.0) ∙ sym place) ∙ same,
    )

pub entries_good : (es new : List Entry) (e : Entry) → new ≡ es ++ e ∷ [] → All IsReadEntry es → IsRead e.0 e.1 → All IsReadEntry new
entries_good es new e is good read = subst (All IsReadEntry) (sym is) (All-push IsReadEntry es e good read)

-- ---- the numbers of a value's dependencies

-- a number keeps its word
number_stays : (old new : List Text) (n : ℕ) → Grows old new → n < length old → (n < length new) × (get_or new n [] ≡ get_or old n [])
number_stays old new n g within = (
  omega (arith, ap length g.is, length-append old g.more),
  ap (λ ws. get_or ws n []) g.is ∙ get_or_append_left old g.more [] n within,
)

map_agree : (f g : ℕ → Text) (P : ℕ → Type 0) (xs : List ℕ) → ((x : ℕ) → P x → f x ≡ g x) → All P xs → map f xs ≡ map g xs
map_agree f g P [] same all = refl
map_agree f g P (x ∷ xs) same all =
    let head = same x (All-head P x xs all) in
    let tail = map_agree f g P xs same (All-tail P x xs all) in
    λ i. head i ∷ tail i

pub numbers_stay : (old new : List Text) (ns : List ℕ) (these : List Text) → Grows old new → AreNumbersOf old ns these → AreNumbersOf new ns these
numbers_stay old new ns these g h = record {
  within = All-weaker (λ n. n < length old) (λ n. n < length new) (λ n l. (number_stays old new n g l).0) ns h.within;
  are = map_agree (λ n. get_or new n []) (λ n. get_or old n []) (λ n. n < length old) ns (λ n l. (number_stays old new n g l).1) h.within ∙ h.are;
}

pub grows_refl : (words : List Text) → Grows words words
grows_refl words = record { more = []; is = sym (append-nil words) }

pub grows_trans : (a b c : List Text) → Grows a b → Grows b c → Grows a c
grows_trans a b c g h = record { more = g.more ++ h.more; is = h.is ∙ ap (λ x. x ++ h.more) g.is ∙ append_assoc a g.more h.more }

pub numbers_push : (words : List Text) (ns : List ℕ) (these : List Text) (n : ℕ) (word : Text) → AreNumbersOf words ns these → IsNumberOf words n word
    → AreNumbersOf words (ns ++ n ∷ []) (these ++ word ∷ [])
numbers_push words ns these n word h here = record {
  within = All-push (λ m. m < length words) ns n h.within here.0;
  are =
      let last = here.1 in
      let front = h.are in
      map_push (λ m. get_or words m []) ns n ∙ (λ i. front i ++ last i ∷ []);
}

-- ---- a value, read from the left

pub record ReadSoFar (line : ℕ) (value : Text) (old new : List Text) (ns : List ℕ) (k : ℕ) : Type 0 where
  pub faultless : first_given (dependency_fault names_and_specs line) (take k (enumerate_from 0 (words_of value))) ≡ None
  pub are : AreNumbersOf new ns (take k (words_of value))
  pub grows : Grows old new

fault_at_place : (line : ℕ) (value : Text) (k : ℕ) (w : Text) → k < length (words_of value) → w ≡ get_or (words_of value) k w
    → dependency_fault names_and_specs line (get_or (enumerate_from 0 (words_of value)) k (k, w))
    ≡ option_or (first_that_applies ((nat_le most_dependencies k, TooMany line) ∷ [])) (word_fault names_and_specs line w)
fault_at_place line value k w within here =
    let place : get_or (enumerate_from 0 (words_of value)) k (k, w) ≡ (k, w) =
    get_or-enumerate_from 0 (words_of value) k (k, w) within ∙ (λ i. (zero-add k i, sym here i)) in
    ap (dependency_fault names_and_specs line) place

pub read_more : (line : ℕ) (value : Text) (old new newer : List Text) (numbers : List ℕ) (k n : ℕ) (w : Text) → ReadSoFar line value old new numbers k
    → k < length (words_of value) → w ≡ get_or (words_of value) k w → k < most_dependencies → word_fault names_and_specs line w ≡ None → IsNumberOf newer n w → Grows new newer
    → ReadSoFar line value old newer (numbers ++ n ∷ []) (k + 1)
read_more line value old new newer numbers k n w so_far within here few good number grows = record {
  faultless = none_given_more (dependency_fault names_and_specs line) (enumerate_from 0 (words_of value)) k (k, w)
      (omega (arith, within, length-enumerate_from 0 (words_of value))) so_far.faultless
      (let below : nat_le most_dependencies k ≡ false = grind (arith, nat_tests) in
      fault_at_place line value k w within here
      ∙ (λ i. option_or (first_that_applies ((below i, TooMany line) ∷ [])) (good i)));
  are = subst (AreNumbersOf newer (numbers ++ n ∷ []))
      (sym (take_more (words_of value) k w within ∙ ap (λ x. take k (words_of value) ++ x ∷ []) (sym here)))
      (numbers_push newer numbers (take k (words_of value)) n w (numbers_stay new newer numbers (take k (words_of value)) grows so_far.are) number);
  grows = grows_trans old new newer so_far.grows grows;
}

pub too_many : (line : ℕ) (value : Text) (old new : List Text) (numbers : List ℕ) (k : ℕ) (w : Text) → ReadSoFar line value old new numbers k
    → k < length (words_of value) → w ≡ get_or (words_of value) k w → most_dependencies ≤ k → dependencies_fault names_and_specs line value ≡ Some (TooMany line)
too_many line value old new numbers k w so_far within here many =
    given_at (dependency_fault names_and_specs line) (enumerate_from 0 (words_of value)) k (k, w) (TooMany line)
    (omega (arith, within, length-enumerate_from 0 (words_of value))) so_far.faultless
    (let over : nat_le most_dependencies k ≡ true = grind (arith, nat_tests) in
    fault_at_place line value k w within here
    ∙ ap (λ b. option_or (first_that_applies ((b, TooMany line) ∷ [])) (word_fault names_and_specs line w)) over)

pub faulty_word : (line : ℕ) (value : Text) (old new : List Text) (numbers : List ℕ) (k : ℕ) (w : Text) (e : ListingFault) → ReadSoFar line value old new numbers k
    → k < length (words_of value) → w ≡ get_or (words_of value) k w → k < most_dependencies → word_fault names_and_specs line w ≡ Some e
    → dependencies_fault names_and_specs line value ≡ Some e
faulty_word line value old new numbers k w e so_far within here few bad =
    given_at (dependency_fault names_and_specs line) (enumerate_from 0 (words_of value)) k (k, w) e
    (omega (arith, within, length-enumerate_from 0 (words_of value))) so_far.faultless
    (let below : nat_le most_dependencies k ≡ false = grind (arith, nat_tests) in
    fault_at_place line value k w within here
    ∙ (λ i. option_or (first_that_applies ((below i, TooMany line) ∷ [])) (bad i)))

pub all_read : (line : ℕ) (value : Text) (old new : List Text) (numbers : List ℕ) (k : ℕ) → ReadSoFar line value old new numbers k
    → length (words_of value) ≤ k → (dependencies_fault names_and_specs line value ≡ None) × AreNumbersOf new numbers (words_of value)
all_read line value old new numbers k so_far all = (
  none_given_at_all (dependency_fault names_and_specs line) (enumerate_from 0 (words_of value)) k (omega (arith, all, length-enumerate_from 0 (words_of value))) so_far.faultless,
  subst (AreNumbersOf new numbers) (take_all k (words_of value) all) so_far.are,
)

-- ---- the resolution of parsed dependencies

-- the parsed specs match exactly what the texts match
same_matches : (ts : List Text) (ss : List (List Alternative)) (name : Text) → map spec_of ts ≡ map Ok ss
    → list_all (λ s. matches s name) ss ≡ list_all (λ t. names_and_specs.matches t name) ts
same_matches [] [] name e = refl
same_matches [] (s ∷ ss) name e = cc
same_matches (t ∷ ts) [] name e = cc
same_matches (t ∷ ts) (s ∷ ss) name e =
    let head : spec_of t ≡ Ok s = cc in
    let rest : map spec_of ts ≡ map Ok ss = cc in
    let tail = same_matches ts ss name rest in
    λ i. read_spec_matches (sym head i) name && tail i

resolution_is : (listed : List Text) (rows : List Row) (word : Text) (d : Dependency) → IsRead word d → resolution_of listed rows d ≡ resolution_of_word listed rows word
resolution_is listed rows word d h =
    let path : d.path ≡ dependency_path word = sym (ap path_or_empty h.spelled) in
    let will_do : (name : Text) → all_match d.specs.items name ≡ word_matches word name = λ name. same_matches (specs_of word) d.specs.items name h.specs in
    λ i. resolution_at rows (λ name. will_do name i) (position (bytes_eq (path i)) listed)

pub resolutions_are : (listed : List Text) (rows : List Row) (es : List Entry) → All IsReadEntry es
    → map (λ (e : Entry). resolution_of listed rows e.1) es ≡ map (resolution_of_word listed rows) (words_of_entries es)
resolutions_are listed rows [] good = refl
resolutions_are listed rows (e ∷ es) good =
    let head = resolution_is listed rows e.0 e.1 (All-head IsReadEntry e es good) in
    let tail = resolutions_are listed rows es (All-tail IsReadEntry e es good) in
    λ i. head i ∷ tail i

pub map_deref : {X Y : Type 0} (f : X → Y) (xs : List (Bor X)) → map (λ (p : Bor X). f p.now) xs ≡ map f (map (λ (p : Bor X). p.now) xs)
map_deref f [] = refl
map_deref f (x ∷ xs) = ap (λ ys. f x.now ∷ ys) (map_deref f xs)

pub map_values : {Y : Type 0} (f : Dependency → Y) (es : List Entry) → map f (map (λ (e : Entry). e.1) es) ≡ map (λ (e : Entry). f e.1) es
map_values f [] = refl
map_values f (e ∷ es) = ap (λ ys. f e.1 ∷ ys) (map_values f es)
