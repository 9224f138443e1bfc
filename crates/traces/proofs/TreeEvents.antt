-- Events that are parsed directly from a text's tree.
use Rattle.std.proofs.Common.{◌≡◌, ◌==◌, ◌+◌, ◌<◌, ◌≤◌, ℕ, ◌^◌, List, [], ◌∷◌, ◌++◌, length, get_or, drop, Option, None, Some, Result, Ok, Err, option_map, true, false, codes, refl, sym, ap, subst, ◌∙◌, arith, rules, append-nil, append_assoc, lt-ltb, le-leb, ne_eqb}
use Rattle.std.proofs.lemmas.List.{drop_all, drop_more}
use Rattle.std.specs.Char.{digit_value}
use Rattle.std.specs.Global.{Global}
use Rattle.std.specs.Prelude.{IfOk, IfSome, slice_index}
use Rattle.std.specs.Result.{result_ok}
use Rattle.std.specs.Str.Parse.{AllDigits, IsNumeral, ParsesUnsigned, digits_value, without_leading_plus}
use Rattle.fast_float.specs.Text.{Parts, text_of, digits_of, IsWellFormed}
use Rattle.fast_float.proofs.Writing.{scan-text_of}
use Rattle.hex.specs.Hex.{decode_of}
use Rattle.json.specs.Find as find
use Rattle.json.specs.Json as json
use Rattle.json.specs.Value.{items_view, value_view}
use Rattle.json.specs.declared.value.Value.{Value}
use Rattle.serde_json.specs.Data.{Items, array, item, no_items, no_members, number, object, put, string, unsigned}
use Rattle.serde_json.specs.Read.{of_items, of_json, number_of, number_from, is_integer}
use Rattle.pkgpath.specs.PkgPath.{path_of}
use Rattle.package_record.specs.Content.{NamedFile}
use Rattle.protocol.specs.Events.{Built, Claim, Deliver, Nudge}
use Rattle.traces.specs.Events.{built_alone_in, claim_in, deliver_in, event_in, most, node_alone_in}
use Rattle.traces.specs.Fields.{◌>>=◌, all_of, answer_in, file_in, files_in}
use Rattle.traces.specs.Fields as fields
use Rattle.traces.specs.declared.read_error.ReadError.{ReadError}
use Rattle.traces.specs.inside.Given.{Gives}
use Rattle.traces.specs.inside.Trees.{Entry, Reads, path_in}

-- ---- numbers

no_minus : (ds rest : List ℕ) → AllDigits 10 ds → 0 < length ds → get_or (ds ++ rest) 0 0 ≡ 45 → ⊥
no_minus [] rest h some e = omega arith
no_minus (d ∷ ds) rest h some e = let digit : digit_value d < 10 = h.0 in let is : d ≡ 45 = e in grind arith

abbrev whole : List ℕ → Parts
whole ds = record { whole = ds; point = false; fraction = []; exponent_negative = false; exponent = []; len = length (ds ++ []) }

parts_read : (p : Parts) → IsWellFormed p → 0 < length p.whole → number_of (text_of p) ≡ number_from false p
unfolding number_of
parts_read p h some = rw (ne_eqb (get_or (text_of p) 0 0) 45 (no_minus p.whole _ h.whole_digits some)) (ap (number_from false) (scan-text_of p h))

-- digits are parsed as the number that they write
pub numeral_read : (s : List ℕ) → IsNumeral 10 s → digits_value 10 s < 2 ^ 64 → number_of s ≡ Some (unsigned (digits_value 10 s))
numeral_read s h small =
    let formed : IsWellFormed (whole s) = record { whole_digits = h.1; fraction_digits = tt; exponent_digits = tt; no_point = λ _. refl; no_exponent = λ _. refl; len_is = refl } in
    let integer : is_integer (whole s) ≡ true = rw (lt-ltb _ _ h.0) refl in
    let value : digits_of (whole s) ≡ digits_value 10 s = rw append-nil refl in
    ap number_of (sym (append-nil s)) ∙ parts_read (whole s) formed h.0 ∙ rw (integer, value) (rw (lt-ltb _ _ small) refl)

numeral_in : {E : Type 0} (n : ℕ) (s : List ℕ) (r : Result ℕ E) → (slice_index s 0 == 43) ≡ false → ParsesUnsigned 64 10 s r → result_ok r ≡ Some n → number_of s ≡ Some (unsigned n)
numeral_in n s (Err e) plus parses ok = absurd (search (rules, ok))
numeral_in n s (Ok x) plus parses ok =
    let same : without_leading_plus s ≡ s = rw plus refl in
    let numeral : IsNumeral 10 s = subst (IsNumeral 10) same parses.0.0 in
    let value : digits_value 10 s ≡ x = ap (digits_value 10) (sym same) ∙ sym parses.1 in
    let small : digits_value 10 s < 2 ^ 64 = subst (λ t. digits_value 10 t < 2 ^ 64) same parses.0.1 in
    let is : x ≡ n = search (rules, ok) in
    numeral_read s numeral small ∙ ap (λ m. Some (unsigned m)) (value ∙ is)

number_at_most : (most n : ℕ) → n ≤ most → fields.number_of most (number (unsigned n)) ≡ Some n
unfolding fields.number_of
number_at_most most n small = rw (le-leb _ _ small) refl

-- a number of the tree, if it is in range
pub number_tree : {E : Type 0} (most n : ℕ) (j : json.Json) (s : List ℕ) (r : Result ℕ E) → find.as_number j ≡ Some s → (slice_index s 0 == 43) ≡ false → ParsesUnsigned 64 10 s r → result_ok r ≡ Some n → n ≤ most → Reads (fields.number_of most) j n
number_tree most n json.null s r is plus parses ok small = absurd (search (rules, is))
number_tree most n (json.boolean b) s r is plus parses ok small = absurd (search (rules, is))
number_tree most n (json.string t) s r is plus parses ok small = absurd (search (rules, is))
number_tree most n (json.array js) s r is plus parses ok small = absurd (search (rules, is))
number_tree most n (json.object ms) s r is plus parses ok small = absurd (search (rules, is))
number_tree most n (json.number t) s r is plus parses ok small =
    let same : t ≡ s = search (rules, is) in
    (number (unsigned n), ap (option_map number) (ap number_of same ∙ numeral_in n s r plus parses ok), number_at_most most n small)

-- a number of 64 bits in the tree
pub small_tree : {E : Type 0} (j : json.Json) (s : List ℕ) (r : Result ℕ E) (o : Option ℕ) → find.as_number j ≡ Some s → (slice_index s 0 == 43) ≡ false → ParsesUnsigned 64 10 s r → o ≡ result_ok r → IfSome o (λ n. (limit : ℕ) → n ≤ limit → Reads (fields.number_of limit) j n)
small_tree j s r None is plus parses same = tt
small_tree j s r (Some n) is plus parses same = λ limit small. number_tree limit n j s r is plus parses (sym same) small

-- ---- paths and files

pub path_tree : (j : json.Json) (text : List ℕ) (r : Result (List ℕ) ReadError) → j ≡ json.string text → Gives (λ p. p) r (answer_in (path_of text)) → IfOk r (Reads path_in j)
path_tree j text (Ok p) is gives = (string text, ap of_json is, gives)
path_tree j text (Err e) is gives = tt

pub named_tree : (k l h n : List ℕ) (hex name : json.Json) (bytes : List ℕ) → k ≡ codes "hex" → l ≡ codes "name" → hex ≡ json.string h → name ≡ json.string n → answer_in (decode_of h) ≡ Some bytes
    → Reads file_in (json.object (json.member k hex (json.member l name json.no_members))) (record { name = n; bytes = bytes })
unfolding file_in
named_tree k l h n hex name bytes first second is called reads = (
  object (put (codes "name") (string n) (put (codes "hex") (string h) no_members)),
  rw (first, second, is, called) refl,
  rw reads refl,
)

-- the items of an array are these files
abbrev pub ReadsItems : List (Value Global) → List NamedFile → Type 0
ReadsItems vs fs = (ds : Items) × (of_items (items_view vs) ≡ Some ds) × (all_of file_in ds ≡ Some fs)

items_cons : (v : Value Global) (vs : List (Value Global)) (f : NamedFile) (fs : List NamedFile) → Reads file_in (value_view v) f → ReadsItems vs fs → ReadsItems (v ∷ vs) (f ∷ fs)
items_cons v vs f fs first rest = (item first.0 rest.0, rw (first.1, rest.1) refl, rw (first.2, rest.2) refl)

-- one more item
pub items_more : (vs : List (Value Global)) (i : ℕ) (v : Value Global) (f : NamedFile) (done : List NamedFile) → i < length vs → v ≡ get_or vs i v → Reads file_in (value_view v) f
    → ((fs : List NamedFile) → ReadsItems (drop i vs) fs → ReadsItems vs (done ++ fs))
    → (fs : List NamedFile) → ReadsItems (drop (i + 1) vs) fs → ReadsItems vs ((done ++ f ∷ []) ++ fs)
items_more vs i v f done lt is reads before fs rest =
    let split : drop i vs ≡ v ∷ drop (i + 1) vs = drop_more vs i v lt ∙ ap (λ w. w ∷ drop (i + 1) vs) (sym is) in
    let more = subst (λ ws. ReadsItems ws (f ∷ fs)) (sym split) (items_cons v (drop (i + 1) vs) f fs reads rest) in
    subst (ReadsItems vs) (sym (append_assoc done (f ∷ []) fs)) (before (f ∷ fs) more)

-- no item is left
pub items_done : (vs : List (Value Global)) (i : ℕ) (done : List NamedFile) → length vs ≤ i → ((fs : List NamedFile) → ReadsItems (drop i vs) fs → ReadsItems vs (done ++ fs)) → Reads files_in (json.array (items_view vs)) done
items_done vs i done le before =
    let all = subst (ReadsItems vs) (append-nil done) (before [] (subst (λ ws. ReadsItems ws []) (sym (drop_all i vs le)) (no_items, refl, refl))) in
    (array all.0, ap (option_map array) all.1, all.2)

-- ---- events

pub nudge_tree : (k l : List ℕ) (event node : json.Json) (n : ℕ) → k ≡ codes "event" → l ≡ codes "node" → event ≡ json.string (codes "nudge") → Reads (fields.number_of 255) node n
    → Reads event_in (json.object (json.member k event (json.member l node json.no_members))) (Nudge n)
unfolding node_alone_in
nudge_tree k l event node n first second is goes = (
  object (put (codes "node") goes.0 (put (codes "event") (string (codes "nudge")) no_members)),
  rw (first, second, is, goes.1) refl,
  rw goes.2 refl,
)

pub delivery_tree : (k l m : List ℕ) (datagram event node : json.Json) (d n : ℕ) → k ≡ codes "datagram" → l ≡ codes "event" → m ≡ codes "node" → Reads (fields.number_of most) datagram d → event ≡ json.string (codes "deliver") → Reads (fields.number_of 255) node n
    → Reads event_in (json.object (json.member k datagram (json.member l event (json.member m node json.no_members)))) (Deliver d n)
unfolding deliver_in
delivery_tree k l m datagram event node d n first second third comes is goes = (
  object (put (codes "node") goes.0 (put (codes "event") (string (codes "deliver")) (put (codes "datagram") comes.0 no_members))),
  rw (first, second, third, comes.1, is, goes.1) refl,
  rw comes.2 (rw goes.2 refl),
)

pub build_tree : (k l m o : List ℕ) (event files node path : json.Json) (fs : List NamedFile) (n : ℕ) (p : List ℕ) → k ≡ codes "event" → l ≡ codes "files" → m ≡ codes "node" → o ≡ codes "path" → event ≡ json.string (codes "built") → Reads files_in files fs → Reads (fields.number_of 255) node n → Reads path_in path p
    → Reads event_in (json.object (json.member k event (json.member l files (json.member m node (json.member o path json.no_members))))) (Built n p ((p, fs) ∷ []))
unfolding built_alone_in
build_tree k l m o event files node path fs n p first second third fourth is given goes of = (
  object (put (codes "path") of.0 (put (codes "node") goes.0 (put (codes "files") given.0 (put (codes "event") (string (codes "built")) no_members)))),
  rw (first, second, third, fourth, is, given.1, goes.1, of.1) refl,
  rw goes.2 (rw of.2 (rw given.2 refl)),
)

pub claim_tree : (k l m o q : List ℕ) (above event host node path : json.Json) (a h n : ℕ) (p : List ℕ) → k ≡ codes "above" → l ≡ codes "event" → m ≡ codes "host" → o ≡ codes "node" → q ≡ codes "path" → Reads (fields.number_of most) above a → event ≡ json.string (codes "claim") → Reads (fields.number_of 65535) host h → Reads (fields.number_of 255) node n → Reads path_in path p
    → Reads event_in (json.object (json.member k above (json.member l event (json.member m host (json.member o node (json.member q path json.no_members)))))) (Claim n p h a)
unfolding claim_in
claim_tree k l m o q above event host node path a h n p first second third fourth fifth over is by goes of = (
  object (put (codes "path") of.0 (put (codes "node") goes.0 (put (codes "host") by.0 (put (codes "event") (string (codes "claim")) (put (codes "above") over.0 no_members))))),
  rw (first, second, third, fourth, fifth, over.1, is, by.1, goes.1, of.1) refl,
  rw goes.2 (rw of.2 (rw by.2 (rw over.2 refl))),
)

-- ---- members in order

pub in_three : (xs : List Entry) (a b c : Entry) → 3 ≤ length xs → length xs < 4 → a ≡ get_or xs 0 a → b ≡ get_or xs 1 b → c ≡ get_or xs 2 c → xs ≡ a ∷ b ∷ c ∷ []
in_three [] a b c most least first second third = absurd (omega arith)
in_three (x ∷ []) a b c most least first second third = absurd (omega arith)
in_three (x ∷ y ∷ []) a b c most least first second third = absurd (omega arith)
in_three (x ∷ y ∷ z ∷ []) a b c most least first second third = rw (first, second, third) refl
in_three (x ∷ y ∷ z ∷ w ∷ xs) a b c most least first second third = absurd (omega arith)

pub in_four : (xs : List Entry) (a b c d : Entry) → 4 ≤ length xs → length xs < 5 → a ≡ get_or xs 0 a → b ≡ get_or xs 1 b → c ≡ get_or xs 2 c → d ≡ get_or xs 3 d → xs ≡ a ∷ b ∷ c ∷ d ∷ []
in_four [] a b c d most least first second third fourth = absurd (omega arith)
in_four (x ∷ []) a b c d most least first second third fourth = absurd (omega arith)
in_four (x ∷ y ∷ []) a b c d most least first second third fourth = absurd (omega arith)
in_four (x ∷ y ∷ z ∷ []) a b c d most least first second third fourth = absurd (omega arith)
in_four (x ∷ y ∷ z ∷ w ∷ []) a b c d most least first second third fourth = rw (first, second, third, fourth) refl
in_four (x ∷ y ∷ z ∷ w ∷ v ∷ xs) a b c d most least first second third fourth = absurd (omega arith)

pub in_five : (xs : List Entry) (a b c d e : Entry) → 5 ≤ length xs → length xs < 6 → a ≡ get_or xs 0 a → b ≡ get_or xs 1 b → c ≡ get_or xs 2 c → d ≡ get_or xs 3 d → e ≡ get_or xs 4 e → xs ≡ a ∷ b ∷ c ∷ d ∷ e ∷ []
in_five [] a b c d e most least first second third fourth fifth = absurd (omega arith)
in_five (x ∷ []) a b c d e most least first second third fourth fifth = absurd (omega arith)
in_five (x ∷ y ∷ []) a b c d e most least first second third fourth fifth = absurd (omega arith)
in_five (x ∷ y ∷ z ∷ []) a b c d e most least first second third fourth fifth = absurd (omega arith)
in_five (x ∷ y ∷ z ∷ w ∷ []) a b c d e most least first second third fourth fifth = absurd (omega arith)
in_five (x ∷ y ∷ z ∷ w ∷ v ∷ []) a b c d e most least first second third fourth fifth = rw (first, second, third, fourth, fifth) refl
in_five (x ∷ y ∷ z ∷ w ∷ v ∷ u ∷ xs) a b c d e most least first second third fourth fifth = absurd (omega arith)
