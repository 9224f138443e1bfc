-- Properties of the bare package of a row.
use Rattle.std.proofs.Common.{◌≡◌, ◌<◌, ◌+◌, ◌++◌, ◌&&◌, ◌||◌, ◌⊎◌, ℕ, Bool, true, false, not, cond, List, [], ◌∷◌, All, length, map, take, get_or, position, is_some, unwrap_or, option_and_then, option_map, IfSome, Option, None, Some, Ok, refl, sym, ap, subst, ◌∙◌, arith, ext_get_or, true≢false, inl, inr}
use Rattle.std.specs.List.{list_any, list_all, filter_map, cons_option, IsDistinct, position_from}
use Rattle.std.specs.Option.{option_map_or}
use Rattle.std.specs.Str.{bytes_eq}
use Rattle.std.proofs.lemmas.Bool.{cases_eq, cases_lt}
use Rattle.std.proofs.lemmas.List.{append-nil, append_assoc, get_or-map, get_or_append_left, get_or_default, get_or_push, length_push, length-map, nil_from_length, take_more}
use Rattle.std.proofs.lemmas.List.Elements.{All-head, All-tail, All-map, All-nil, All-weaker, filter_map-append}
use Rattle.std.proofs.lemmas.List.Quantifiers.{position-Some}
use Rattle.std.proofs.lemmas.Iterator.Adapters.{position_from-zero}
use Rattle.std.proofs.lemmas.Map.Keys.{apart_from_distinct}
use Rattle.faults.specs.Answers.{unless_fault}
use Rattle.faults.specs.Bytes.{Text, is_among, is_empty}
use Rattle.pkgname.specs.PkgName as pkgname
use Rattle.pkgname.specs.PkgName.{IsName}
use Rattle.pkgname.specs.declared.NameFault.{NameFault}
use Rattle.pkgpath.specs.PkgPath.{IsPath, without_subpackage}
use Rattle.listing.specs.Dependencies.{words_of}
use Rattle.listing.specs.Lines.{Setting, build_depends, ignore, lib_depends, run_depends}
use Rattle.listing.specs.Listing.{dependencies_of, dependency_path, dependency_positions, is_met, name_of, package_of, paths_of, positions_of, tree_of_settings, value_of}
use Rattle.listing.specs.inside.BarePackages.{HasNumbersBelow, IsBarePackageOf, IsSetOf, are_met, listed_positions, numbers_of_value, numbers_read, package_of_bare, packages_of, resolution_at, resolution_of_word, text_of_value, unlisted, word_matches}
use Rattle.listing.specs.inside.Parts.{AreNumbersOf, IsReadAs, has_dependencies, position_of_word}
use Rattle.listing.specs.Rules.{group_by, names_and_specs, with_groups}
use Rattle.listing.specs.inside.Table.{AreRowsOf, IsRowOf, name_in, name_read, no_row}
use Rattle.listing.specs.Tree.{AreGrouped, ArePositions, AreSingle, IsTree, Package, no_package, path_at}
use Rattle.listing.specs.declared.dependency.Resolution.{Resolution}
use Rattle.listing.specs.declared.line.Variable.{Variable}
use Rattle.listing.specs.declared.line.Variable.TheVariants.{FullName, BuildDepends, LibDepends, RunDepends, Ignore}
use Rattle.listing.specs.declared.bare_package.BarePackage.{BarePackage}
use Rattle.listing.specs.declared.table.Reading.{Reading}
use Rattle.listing.specs.declared.table.Reading.TheVariants.{Name, Numbers, Unread}
use Rattle.listing.specs.declared.table.Row.{Row}
use Rattle.listing.specs.declared.table.Value.{Value}
use Rattle.listing.proofs.Members.{has, positions_of-increasing, positions_of-within, set_is}
use Rattle.listing.proofs.Positions.{length-packages_of, package_at-packages_of}
use Rattle.listing.proofs.Settings.{among_flip, eq_self, same_text}

-- ---- one more number

more : (resolutions : List Resolution) (numbers : List ℕ) (k n : ℕ) → k < length numbers → n ≡ get_or numbers k n
    → listed_positions resolutions (take (k + 1) numbers) ≡ listed_positions resolutions (take k numbers) ++ cons_option (get_or resolutions n unlisted).position []
more resolutions numbers k n within here =
    ap (listed_positions resolutions) (take_more numbers k n within ∙ ap (λ m. take k numbers ++ m ∷ []) (sym here))
    ∙ filter_map-append (λ m. (get_or resolutions m unlisted).position) (take k numbers) (n ∷ [])

pub add_some : (resolutions : List Resolution) (numbers start found now : List ℕ) (k n p : ℕ) → k < length numbers → n ≡ get_or numbers k n
    → (get_or resolutions n unlisted).position ≡ Some p → found ≡ start ++ listed_positions resolutions (take k numbers) → now ≡ found ++ p ∷ []
    → now ≡ start ++ listed_positions resolutions (take (k + 1) numbers)
add_some resolutions numbers start found now k n p within here at before after =
    after ∙ ap (λ xs. xs ++ p ∷ []) before ∙ append_assoc start (listed_positions resolutions (take k numbers)) (p ∷ [])
    ∙ ap (λ xs. start ++ xs) (sym (more resolutions numbers k n within here ∙ ap (λ o. listed_positions resolutions (take k numbers) ++ cons_option o []) at))

pub add_none : (resolutions : List Resolution) (numbers start found now : List ℕ) (k n : ℕ) → k < length numbers → n ≡ get_or numbers k n
    → (get_or resolutions n unlisted).position ≡ None → found ≡ start ++ listed_positions resolutions (take k numbers) → now ≡ found
    → now ≡ start ++ listed_positions resolutions (take (k + 1) numbers)
add_none resolutions numbers start found now k n within here at before after =
    after ∙ before
    ∙ ap (λ xs. start ++ xs) (sym (more resolutions numbers k n within here ∙ ap (λ o. listed_positions resolutions (take k numbers) ++ cons_option o []) at
    ∙ append-nil (listed_positions resolutions (take k numbers))))

-- ---- words and their resolutions

resolution_at_number : (paths : List Text) (rows : List Row) (words : List Text) (resolutions : List Resolution) (n : ℕ) → resolutions ≡ map (resolution_of_word paths rows) words
    → n < length words → get_or resolutions n unlisted ≡ resolution_of_word paths rows (get_or words n [])
resolution_at_number paths rows words resolutions n e within =
    ap (λ rs. get_or rs n unlisted) e ∙ get_or-map (resolution_of_word paths rows) words n [] unlisted within

position_at : (paths : List Text) (rows : List Row) (word : Text) → (resolution_of_word paths rows word).position ≡ position_of_word paths word
position_at paths rows word = by (position_of_word paths word)
  where
    by : (o : Option ℕ) → (resolution_at rows (word_matches word) o).position ≡ o
    by None = refl
    by (Some p) = refl

-- the positions found by the words' numbers are those found by the words
by_words : (paths words : List Text) (rows : List Row) (resolutions : List Resolution) (ns : List ℕ) → resolutions ≡ map (resolution_of_word paths rows) words
    → All (λ n. n < length words) ns → listed_positions resolutions ns ≡ filter_map (position_of_word paths) (map (λ n. get_or words n []) ns)
by_words paths words rows resolutions [] e within = refl
by_words paths words rows resolutions (n ∷ ns) e within =
    let head : (get_or resolutions n unlisted).position ≡ position_of_word paths (get_or words n []) =
    ap (λ (r : Resolution). r.position) (resolution_at_number paths rows words resolutions n e (All-head (λ m. m < length words) n ns within)) ∙ position_at paths rows (get_or words n []) in
    let tail = by_words paths words rows resolutions ns e (All-tail (λ m. m < length words) n ns within) in
    λ i. cons_option (head i) (tail i)

met_by_words : (paths words : List Text) (rows : List Row) (resolutions : List Resolution) (ns : List ℕ) → resolutions ≡ map (resolution_of_word paths rows) words
    → All (λ n. n < length words) ns → are_met resolutions ns ≡ list_all (λ w. (resolution_of_word paths rows w).is_met) (map (λ n. get_or words n []) ns)
met_by_words paths words rows resolutions [] e within = refl
met_by_words paths words rows resolutions (n ∷ ns) e within =
    let head : (get_or resolutions n unlisted).is_met ≡ (resolution_of_word paths rows (get_or words n [])).is_met =
    ap (λ (r : Resolution). r.is_met) (resolution_at_number paths rows words resolutions n e (All-head (λ m. m < length words) n ns within)) in
    let tail = met_by_words paths words rows resolutions ns e (All-tail (λ m. m < length words) n ns within) in
    λ i. head i && tail i

-- what a row has for a variable with dependencies
numbers_here : (words : List Text) (v : Variable) (text : Text) (r : Reading) → has_dependencies v ≡ true → IsReadAs words v text r
    → AreNumbersOf words (numbers_read r) (words_of text)
numbers_here words FullName text r has h = cc
numbers_here words Ignore text r has h = cc
numbers_here words BuildDepends text (Name name) has h = absurd (true≢false (sym h.0))
numbers_here words LibDepends text (Name name) has h = absurd (true≢false (sym h.0))
numbers_here words RunDepends text (Name name) has h = absurd (true≢false (sym h.0))
numbers_here words v text (Numbers numbers) has h = h.1
numbers_here words v text Unread has h = absurd (true≢false (sym has ∙ ap has_dependencies h))

words_here : (words : List Text) (v : Variable) (o : Option Value) → has_dependencies v ≡ true → IfSome o (λ y. IsReadAs words v y.text.now y.reading)
    → AreNumbersOf words (numbers_of_value o) (words_of (text_of_value o))
words_here words v None has h = record { within = All-nil (λ n. n < length words); are = refl }
words_here words v (Some x) has h = numbers_here words v x.text.now x.reading has h

text_here : (o : Option Value) → unwrap_or (option_map (λ (y : Value). y.text.now) o) [] ≡ text_of_value o
text_here None = refl
text_here (Some v) = refl

pub within_row : (ss : List Setting) (words : List Text) (path : Text) (row : Row) → IsRowOf ss words path row
    → HasNumbersBelow (length words) row
within_row ss words path row h = record {
  build = (words_here words BuildDepends row.build refl (h.reads BuildDepends)).within;
  lib = (words_here words LibDepends row.lib refl (h.reads LibDepends)).within;
  run = (words_here words RunDepends row.run refl (h.reads RunDepends)).within;
}

-- ---- whether there is a position

some_from_by : {X : Type 0} (p : X → Bool) (n : ℕ) (ys : List X) (b : Bool) → is_some (position_from p (n + 1) ys) ≡ list_any p ys
    → is_some (cond b (Some n) (position_from p (n + 1) ys)) ≡ (b || list_any p ys)
some_from_by p n ys true e = refl
some_from_by p n ys false e = e

some_from : {X : Type 0} (p : X → Bool) (n : ℕ) (ys : List X) → is_some (position_from p n ys) ≡ list_any p ys
some_from p n [] = refl
some_from p n (y ∷ ys) = some_from_by p n ys (p y) (some_from p (n + 1) ys)

some_position : {X : Type 0} (p : X → Bool) (xs : List X) → is_some (position p xs) ≡ list_any p xs
some_position p xs = ap is_some (position_from-zero p xs) ∙ some_from p 0 xs

-- ---- names

same_name : (text name : Text) → pkgname.name_of text ≡ Ok name → text ≡ name
same_name text name e = by (pkgname.fault_of text) e
  where
    by : (o : Option NameFault) → unless_fault o text ≡ Ok name → text ≡ name
    by None e = cc
    by (Some f) e = cc

is_name : (text name : Text) → pkgname.name_of text ≡ Ok name → IsName name
is_name text name e = ap pkgname.name_of (sym (same_name text name e)) ∙ e

-- the name in a row is the value of the path's FULLPKGNAME
read_name : (words : List Text) (text name : Text) (r : Reading) → IsReadAs words FullName text r → name_read r ≡ Some name → pkgname.name_of text ≡ Ok name
read_name words text name (Name n) h e = h.1 ∙ ap Ok (let same : n ≡ name = cc in same)
read_name words text name (Numbers numbers) h e = cc
read_name words text name Unread h e = cc

name_by : (words : List Text) (o : Option Value) (name : Text) → IfSome o (λ y. IsReadAs words FullName y.text.now y.reading)
    → option_and_then (λ (y : Value). name_read y.reading) o ≡ Some name
    → (unwrap_or (option_map (λ (y : Value). y.text.now) o) [] ≡ name) × IsName name
name_by words None name h e = cc
name_by words (Some x) name h e =
    let read = read_name words x.text.now name x.reading h e in
    (same_name x.text.now name read, is_name x.text.now name read)

name_known : (ss : List Setting) (words : List Text) (path : Text) (row : Row) (name : Text) → IsRowOf ss words path row → name_in row ≡ Some name
    → (name_of ss path ≡ name) × IsName name
name_known ss words path row name h e =
    let known = name_by words row.name name (h.reads FullName) e in
    (ap (λ o. unwrap_or o []) (h.values FullName) ∙ known.0, known.1)

-- each row has a name
abbrev pub AreNamed : List Row → Type 0
AreNamed rows = (k : ℕ) → k < length rows → (name : Text) × (name_in (get_or rows k no_row) ≡ Some name)

-- ---- whether a dependency is met

met_by : (ss : List Setting) (words paths : List Text) (rows : List Row) (w : Text) (o : Option ℕ) → AreRowsOf ss words paths rows → AreNamed rows
    → position_of_word paths w ≡ o → (resolution_at rows (word_matches w) o).is_met ≡ is_met names_and_specs ss w
met_by ss words paths rows w None h named e =
    let absent : is_among (paths_of ss) (dependency_path w) ≡ false =
    among_flip (paths_of ss) (dependency_path w) ∙ ap (list_any (bytes_eq (dependency_path w))) (sym h.all)
    ∙ sym (some_position (bytes_eq (dependency_path w)) paths) ∙ ap is_some e in
    sym (ap (λ b. b && word_matches w (name_of ss (dependency_path w))) absent)
met_by ss words paths rows w (Some p) h named e =
    let there : is_among (paths_of ss) (dependency_path w) ≡ true =
    among_flip (paths_of ss) (dependency_path w) ∙ ap (list_any (bytes_eq (dependency_path w))) (sym h.all)
    ∙ sym (some_position (bytes_eq (dependency_path w)) paths) ∙ ap is_some e in
    let place = position-Some (bytes_eq (dependency_path w)) paths p [] e in
    let here = named p (omega (arith, place.0, h.lengths)) in
    let known = name_known ss words (get_or paths p []) (get_or rows p no_row) here.0 (h.each p no_row place.0) here.1 in
    let name : name_of ss (dependency_path w) ≡ here.0 = ap (name_of ss) (same_text (dependency_path w) (get_or paths p []) place.1) ∙ known.0 in
    ap (λ o. option_map_or (word_matches w) o false) here.1 ∙ ap (word_matches w) (sym name)
    ∙ sym (ap (λ b. b && word_matches w (name_of ss (dependency_path w))) there)

met_is : (ss : List Setting) (words paths : List Text) (rows : List Row) (w : Text) → AreRowsOf ss words paths rows → AreNamed rows
    → (resolution_of_word paths rows w).is_met ≡ is_met names_and_specs ss w
met_is ss words paths rows w h named = met_by ss words paths rows w (position_of_word paths w) h named refl

all_agree : (f g : Text → Bool) → ((w : Text) → f w ≡ g w) → (ws : List Text) → list_all f ws ≡ list_all g ws
all_agree f g same [] = refl
all_agree f g same (w ∷ ws) =
    let head = same w in
    let tail = all_agree f g same ws in
    λ i. head i && tail i

and_assoc : (a b c : Bool) → (a && (b && c)) ≡ ((a && b) && c)
and_assoc true b c = refl
and_assoc false b c = refl

all_append : (f : Text → Bool) (xs ys : List Text) → list_all f (xs ++ ys) ≡ (list_all f xs && list_all f ys)
all_append f [] ys = refl
all_append f (x ∷ xs) ys = ap (λ b. f x && b) (all_append f xs ys) ∙ and_assoc (f x) (list_all f xs) (list_all f ys)

-- ---- a package

-- the words of two variables together
two_deps : (ss : List Setting) (path v w : Text) (a b : Option Value) → unwrap_or (value_of ss path v) [] ≡ text_of_value a → unwrap_or (value_of ss path w) [] ≡ text_of_value b
    → words_of (text_of_value a) ++ words_of (text_of_value b) ≡ dependencies_of ss path (v ∷ w ∷ [])
two_deps ss path v w a b e f =
    sym ((λ i. words_of (e i) ++ (words_of (f i) ++ [])) ∙ ap (λ x. words_of (text_of_value a) ++ x) (append-nil (words_of (text_of_value b))))

listed_words : (words paths : List Text) (rows : List Row) (resolutions : List Resolution) (o : Option Value) → resolutions ≡ map (resolution_of_word paths rows) words
    → AreNumbersOf words (numbers_of_value o) (words_of (text_of_value o))
    → listed_positions resolutions (numbers_of_value o) ≡ filter_map (position_of_word paths) (words_of (text_of_value o))
listed_words words paths rows resolutions o at h = by_words paths words rows resolutions (numbers_of_value o) at h.within ∙ ap (filter_map (position_of_word paths)) h.are

set_of_two : (words paths : List Text) (rows : List Row) (resolutions : List Resolution) (a b : Option Value) (ps : List ℕ) → IsDistinct bytes_eq paths
    → resolutions ≡ map (resolution_of_word paths rows) words
    → AreNumbersOf words (numbers_of_value a) (words_of (text_of_value a)) → AreNumbersOf words (numbers_of_value b) (words_of (text_of_value b))
    → IsSetOf ps (listed_positions resolutions (numbers_of_value a) ++ listed_positions resolutions (numbers_of_value b))
    → ps ≡ positions_of paths (map dependency_path (words_of (text_of_value a) ++ words_of (text_of_value b)))
set_of_two words paths rows resolutions a b ps once at ha hb h =
    let front = listed_words words paths rows resolutions a at ha in
    let back = listed_words words paths rows resolutions b at hb in
    set_is dependency_path paths (words_of (text_of_value a) ++ words_of (text_of_value b)) ps once h.rising
    (λ p. h.members p ∙ ap (has p) ((λ i. front i ++ back i) ∙ sym (filter_map-append (position_of_word paths) (words_of (text_of_value a)) (words_of (text_of_value b)))))

all_met : (ss : List Setting) (words paths : List Text) (rows : List Row) (resolutions : List Resolution) (o : Option Value) → AreRowsOf ss words paths rows → AreNamed rows
    → resolutions ≡ map (resolution_of_word paths rows) words → AreNumbersOf words (numbers_of_value o) (words_of (text_of_value o))
    → are_met resolutions (numbers_of_value o) ≡ list_all (is_met names_and_specs ss) (words_of (text_of_value o))
all_met ss words paths rows resolutions o all named at h =
    met_by_words paths words rows resolutions (numbers_of_value o) at h.within ∙ ap (list_all (λ w. (resolution_of_word paths rows w).is_met)) h.are
    ∙ all_agree (λ w. (resolution_of_word paths rows w).is_met) (is_met names_and_specs ss) (λ w. met_is ss words paths rows w all named) (words_of (text_of_value o))

three_met : (ss : List Setting) (path : Text) (u v w : Text) (a b c : Option Value) → unwrap_or (value_of ss path u) [] ≡ text_of_value a
    → unwrap_or (value_of ss path v) [] ≡ text_of_value b → unwrap_or (value_of ss path w) [] ≡ text_of_value c
    → (list_all (is_met names_and_specs ss) (words_of (text_of_value a)) && list_all (is_met names_and_specs ss) (words_of (text_of_value b))
    && list_all (is_met names_and_specs ss) (words_of (text_of_value c)))
    ≡ list_all (is_met names_and_specs ss) (dependencies_of ss path (u ∷ v ∷ w ∷ []))
three_met ss path u v w a b c e f g =
    let met : Text → Bool = is_met names_and_specs ss in
    let xs = words_of (text_of_value a) in
    let ys = words_of (text_of_value b) in
    let zs = words_of (text_of_value c) in
    let parts : list_all met (xs ++ (ys ++ (zs ++ []))) ≡ (list_all met xs && list_all met ys && list_all met zs) =
    all_append met xs (ys ++ (zs ++ []))
    ∙ ap (λ b. list_all met xs && b) (all_append met ys (zs ++ []) ∙ ap (λ t. list_all met ys && list_all met t) (append-nil zs))
    ∙ and_assoc (list_all met xs) (list_all met ys) (list_all met zs) in
    sym (ap (list_all met) (λ i. words_of (e i) ++ (words_of (f i) ++ (words_of (g i) ++ []))) ∙ parts)

package_is : (g : Text → Text) (ss : List Setting) (words paths : List Text) (rows : List Row) (resolutions : List Resolution) (path : Text) (row : Row) (n : BarePackage)
    → AreRowsOf ss words paths rows → AreNamed rows → resolutions ≡ map (resolution_of_word paths rows) words → IsRowOf ss words path row → IsBarePackageOf resolutions row n
    → package_of_bare g path n ≡ package_of (with_groups g) ss path
package_is g ss words paths rows resolutions path row n all named at h bare_package =
    let text : (o : Option Value) (v : Text) → value_of ss path v ≡ option_map (λ (y : Value). y.text.now) o → unwrap_or (value_of ss path v) [] ≡ text_of_value o =
    λ o v e. ap (λ x. unwrap_or x []) e ∙ text_here o in
    let tb = text row.build build_depends (h.values BuildDepends) in
    let tl = text row.lib lib_depends (h.values LibDepends) in
    let tr = text row.run run_depends (h.values RunDepends) in
    let ti = text row.ignore ignore (h.values Ignore) in
    let nb = words_here words BuildDepends row.build refl (h.reads BuildDepends) in
    let nl = words_here words LibDepends row.lib refl (h.reads LibDepends) in
    let nr = words_here words RunDepends row.run refl (h.reads RunDepends) in
    let name : n.name ≡ name_of ss path = sym (name_known ss words path row n.name h bare_package.name).0 in
    let build : n.build.items ≡ dependency_positions ss path (build_depends ∷ lib_depends ∷ []) =
    set_of_two words paths rows resolutions row.build row.lib n.build.items all.once at nb nl bare_package.build
    ∙ (λ i. positions_of (all.all i) (map dependency_path (two_deps ss path build_depends lib_depends row.build row.lib tb tl i))) in
    let run : n.run.items ≡ dependency_positions ss path (lib_depends ∷ run_depends ∷ []) =
    set_of_two words paths rows resolutions row.lib row.run n.run.items all.once at nl nr bare_package.run
    ∙ (λ i. positions_of (all.all i) (map dependency_path (two_deps ss path lib_depends run_depends row.lib row.run tl tr i))) in
    let mb = all_met ss words paths rows resolutions row.build all named at nb in
    let ml = all_met ss words paths rows resolutions row.lib all named at nl in
    let mr = all_met ss words paths rows resolutions row.run all named at nr in
    let met = (λ i. mb i && ml i && mr i) ∙ three_met ss path build_depends lib_depends run_depends row.build row.lib row.run tb tl tr in
    let marked : n.is_marked ≡ (not (is_empty (unwrap_or (value_of ss path ignore) [])) || not (list_all (is_met names_and_specs ss) (dependencies_of ss path (build_depends ∷ lib_depends ∷ run_depends ∷ [])))) =
    bare_package.marked ∙ (λ i. not (is_empty (sym ti i)) || not (met i)) in
    λ i. record { path = path; group = g path; name = name i; build = build i; run = run i; is_marked = marked i }

-- ---- the tree

-- rows with bare packages have names
pub named_by : (resolutions : List Resolution) (rows : List Row) (bare_packages : List BarePackage) → length bare_packages ≡ length rows
    → ((k : ℕ) (d : Row) (e : BarePackage) → k < length rows → IsBarePackageOf resolutions (get_or rows k d) (get_or bare_packages k e)) → AreNamed rows
named_by resolutions rows [] same each k l = absurd (omega (arith, l, same))
named_by resolutions rows (m ∷ ms) same each k l = ((get_or (m ∷ ms) k m).name, (each k no_row m l).name)

tree_by : (g : Text → Text) (ss : List Setting) (words paths : List Text) (rows : List Row) (resolutions : List Resolution) (bare_packages : List BarePackage) (m : BarePackage)
    → AreRowsOf ss words paths rows → resolutions ≡ map (resolution_of_word paths rows) words → length bare_packages ≡ length rows
    → ((k : ℕ) (d : Row) (e : BarePackage) → k < length rows → IsBarePackageOf resolutions (get_or rows k d) (get_or bare_packages k e))
    → packages_of g paths bare_packages ≡ tree_of_settings (with_groups g) ss
tree_by g ss words paths rows resolutions bare_packages m h at same each =
    let size = length-packages_of g paths bare_packages (same ∙ h.lengths) in
    ext_get_or no_package (packages_of g paths bare_packages) (tree_of_settings (with_groups g) ss)
    (size ∙ ap length h.all ∙ sym (length-map (paths_of ss) (package_of (with_groups g) ss)))
    (λ i l.
    let within : i < length paths = omega (arith, size, l) in
    let n : BarePackage = get_or bare_packages i m in
    let d : Row = no_row in
    package_at-packages_of g paths bare_packages i n (same ∙ h.lengths) within (get_or_default bare_packages i m n (omega (arith, within, same, h.lengths)))
    ∙ package_is g ss words paths rows resolutions (get_or paths i []) (get_or rows i d) n h (named_by resolutions rows bare_packages same each) at (h.each i d within) (each i d m (omega (arith, within, h.lengths)))
    ∙ ap (λ ps. package_of (with_groups g) ss (get_or ps i [])) h.all
    ∙ sym (get_or-map (package_of (with_groups g) ss) (paths_of ss) i [] no_package (omega (arith, within, ap length h.all))))

pub tree_is : (g : Text → Text) (ss : List Setting) (words paths : List Text) (rows : List Row) (resolutions : List Resolution) (bare_packages : List BarePackage)
    → AreRowsOf ss words paths rows → resolutions ≡ map (resolution_of_word paths rows) words → length bare_packages ≡ length rows
    → ((k : ℕ) (d : Row) (e : BarePackage) → k < length rows → IsBarePackageOf resolutions (get_or rows k d) (get_or bare_packages k e))
    → packages_of g paths bare_packages ≡ tree_of_settings (with_groups g) ss
tree_is g ss words paths rows resolutions [] h at same each =
    let none : paths ≡ [] = nil_from_length paths (omega (arith, same, h.lengths)) in
    ap (λ ps. packages_of g ps []) none ∙ ap (map (package_of (with_groups g) ss)) (sym none ∙ h.all)
tree_is g ss words paths rows resolutions (m ∷ ms) h at same each = tree_by g ss words paths rows resolutions (m ∷ ms) m h at same each

-- in such a tree no path occurs twice, and dependencies are positions of the tree
path_here : (g : Text → Text) (ss : List Setting) (p : ℕ) → p < length (tree_of_settings (with_groups g) ss) → path_at (tree_of_settings (with_groups g) ss) p ≡ get_or (paths_of ss) p []
path_here g ss p l =
    ap (λ (x : Package). x.path) (get_or-map (package_of (with_groups g) ss) (paths_of ss) p [] no_package (omega (arith, l, length-map (paths_of ss) (package_of (with_groups g) ss))))

apart_paths : (ps : List Text) (p q : ℕ) → IsDistinct bytes_eq ps → p < q → q < length ps → get_or ps p [] ≡ get_or ps q [] → ⊥
apart_paths ps p q once lt l e =
    true≢false (sym (eq_self (get_or ps q [])) ∙ ap (λ t. bytes_eq t (get_or ps q [])) (sym e) ∙ apart_from_distinct bytes_eq ps p q [] once lt l)

grouped : (is_single : Bool) (ss : List Setting) → AreGrouped (tree_of_settings (with_groups (group_by is_single)) ss) ⊎ AreSingle (tree_of_settings (with_groups (group_by is_single)) ss)
grouped true ss = inr (All-map (λ (x : Package). x.group ≡ x.path) (package_of (with_groups (group_by true)) ss) (paths_of ss) (λ k d l. refl))
grouped false ss = inl (All-map (λ (x : Package). x.group ≡ without_subpackage x.path) (package_of (with_groups (group_by false)) ss) (paths_of ss) (λ k d l. refl))

pub is_tree : (is_single : Bool) (ss : List Setting) (words paths : List Text) (rows : List Row) → AreRowsOf ss words paths rows → AreNamed rows → IsTree (tree_of_settings (with_groups (group_by is_single)) ss)
is_tree is_single ss words paths rows h named =
    let g : Text → Text = group_by is_single in
    let size = length-map (paths_of ss) (package_of (with_groups g) ss) in
    let once : IsDistinct bytes_eq (paths_of ss) = subst (IsDistinct bytes_eq) h.all h.once in
    let sets : (qs : List Text) → ArePositions (tree_of_settings (with_groups g) ss) (positions_of (paths_of ss) qs) = λ qs. record {
      within = All-weaker (λ p. p < length (paths_of ss)) (λ p. p < length (tree_of_settings (with_groups g) ss)) (λ p l. omega (arith, l, size))
          (positions_of (paths_of ss) qs) (positions_of-within (paths_of ss) qs);
      rising = positions_of-increasing (paths_of ss) qs;
    } in
    record {
      few = omega (arith, size, ap length h.all, h.few);
      paths = All-map (λ (x : Package). IsPath x.path) (package_of (with_groups g) ss) (paths_of ss) (subst (All IsPath) h.all h.spelled);
      groups = grouped is_single ss;
      names = All-map (λ (x : Package). IsName x.name) (package_of (with_groups g) ss) (paths_of ss)
          (λ k d l.
          let within : k < length paths = omega (arith, l, ap length h.all) in
          let here = named k (omega (arith, within, h.lengths)) in
          let known = name_known ss words (get_or paths k []) (get_or rows k no_row) here.0 (h.each k no_row within) here.1 in
          let path : get_or paths k [] ≡ get_or (paths_of ss) k d = ap (λ ps. get_or ps k []) h.all ∙ get_or_default (paths_of ss) k [] d l in
          subst IsName (sym known.0 ∙ ap (name_of ss) path) known.1);
      once = λ p q lp lq e.
          let same = sym (path_here g ss p lp) ∙ e ∙ path_here g ss q lq in
          elim (cases_lt p q) [
            | inl below ↦ absurd (apart_paths (paths_of ss) p q once below (omega (arith, lq, size)) same)
            | inr above ↦ elim (cases_eq p q) [
              | inl eq ↦ eq
              | inr other ↦ absurd (apart_paths (paths_of ss) q p once (omega arith) (omega (arith, lp, size)) (sym same))
            ]
          ];
      build = All-map (λ (x : Package). ArePositions (tree_of_settings (with_groups g) ss) x.build) (package_of (with_groups g) ss) (paths_of ss)
          (λ k d l. sets (map dependency_path (dependencies_of ss (get_or (paths_of ss) k d) (build_depends ∷ lib_depends ∷ []))));
      run = All-map (λ (x : Package). ArePositions (tree_of_settings (with_groups g) ss) x.run) (package_of (with_groups g) ss) (paths_of ss)
          (λ k d l. sets (map dependency_path (dependencies_of ss (get_or (paths_of ss) k d) (lib_depends ∷ run_depends ∷ []))));
    }

-- ---- one more bare package

pub bare_package_more : (resolutions : List Resolution) (rows : List Row) (bare_packages now : List BarePackage) (i : ℕ) (row : Row) (n : BarePackage) → row ≡ get_or rows i row → i < length rows
    → IsBarePackageOf resolutions row n → now ≡ bare_packages ++ n ∷ [] → length bare_packages ≡ i
    → ((k : ℕ) (d : Row) (e : BarePackage) → k < i → IsBarePackageOf resolutions (get_or rows k d) (get_or bare_packages k e))
    → (length now ≡ i + 1) × ((k : ℕ) (d : Row) (e : BarePackage) → k < i + 1 → IsBarePackageOf resolutions (get_or rows k d) (get_or now k e))
bare_package_more resolutions rows bare_packages now i row n here within bare_package is size before = (
  ap length is ∙ length_push bare_packages n ∙ ap (λ m. m + 1) size,
  λ k d e l. subst (λ ns. IsBarePackageOf resolutions (get_or rows k d) (get_or ns k e)) (sym is)
      (elim (cases_lt k i) [
        | inl less ↦
            subst (IsBarePackageOf resolutions (get_or rows k d)) (sym (get_or_append_left bare_packages (n ∷ []) e k (omega (arith, less, size)))) (before k d e less)
        | inr last ↦
            let at : i ≡ k = omega (arith, last, l) in
            subst (IsBarePackageOf resolutions (get_or rows k d)) (sym (get_or_push bare_packages n e k (size ∙ at)))
            (subst (λ r. IsBarePackageOf resolutions r n) (here ∙ get_or_default rows i row d within ∙ ap (λ m. get_or rows m d) at) bare_package)
      ]),
)
