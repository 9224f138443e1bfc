-- A text is at most one list, and prefixes of a list are lists.
use Rattle.std.proofs.Common.{◌≡◌, ◌∙◌, ◌++◌, ℕ, zero, suc, List, [], ◌∷◌, map, take, codes, ap, refl, subst, sym}
use Rattle.std.specs.List.{AllZip, flat_map}
use Rattle.auditing.specs.declared.entry.Entry.{Entry}
use Rattle.claims.specs.declared.deps.Dep.{Dep}
use Rattle.faults.specs.Bytes.{Text}
use Rattle.hex.specs.Hex.{decode_sized}
use Rattle.pkgname.specs.PkgName.{name_of}
use Rattle.pkgpath.specs.PkgPath.{path_of}
use Rattle.program_io.proofs.Once.{ok_once}
use Rattle.package_lists.specs.List.{AreList, Names, Says, said_of}
use Rattle.package_lists.specs.declared.list_line.ListLine.{ListLine}
use Rattle.package_lists.specs.declared.list_line.ListLine.TheVariants.{Package, Built}

-- a line names one package, after one word
named_once : (line word other : Text) (d e : Dep) → Names word line d → Names other line e → (word ≡ other) × (d ≡ e)
named_once line word other d e names also =
    let fields : word ∷ names.path ∷ names.name ∷ names.digest ∷ [] ≡ other ∷ also.path ∷ also.name ∷ also.digest ∷ [] = sym names.fields ∙ also.fields in
    let at_path : names.path ≡ also.path = cc in
    let at_name : names.name ≡ also.name = cc in
    let at_digest : names.digest ≡ also.digest = cc in
    let path = ok_once (path_of also.path) d.path e.path (ap path_of (sym at_path) ∙ names.spelled.path_is) also.spelled.path_is in
    let name = ok_once (name_of also.name) d.name e.name (ap name_of (sym at_name) ∙ names.spelled.name_is) also.spelled.name_is in
    let digest = ok_once (decode_sized also.digest 32) d.digest e.digest (ap (λ (t : Text). decode_sized t 32) (sym at_digest) ∙ names.spelled.digest_is) also.spelled.digest_is in
    let at_word : word ≡ other = cc in
    (at_word, λ i. record { path = path i; name = name i; digest = digest i })

says_once : (line : Text) (s t : ListLine) → Says line s → Says line t → s ≡ t
says_once line (Package d) (Package e) says also = ap Package (named_once line _ _ d e says also).1
says_once line (Built d) (Built e) says also = ap Built (named_once line _ _ d e says also).1
says_once line (Package d) (Built e) says also = absurd (let same : codes "package" ≡ codes "built" = (named_once line _ _ d e says also).0 in cc)
says_once line (Built d) (Package e) says also = absurd (let same : codes "built" ≡ codes "package" = (named_once line _ _ d e says also).0 in cc)

said_once : (lines : List Text) (said more : List ListLine) → AllZip Says lines said → AllZip Says lines more → said ≡ more
said_once [] [] [] all also = refl
said_once [] [] (t ∷ ts) all also = absurd also
said_once [] (s ∷ ss) more all also = absurd all
said_once (l ∷ ls) [] more all also = absurd all
said_once (l ∷ ls) (s ∷ ss) [] all also = absurd also
said_once (l ∷ ls) (s ∷ ss) (t ∷ ts) all also =
    let first = says_once l s t all.0 also.0 in
    let rest = said_once ls ss ts all.1 also.1 in
    λ i. first i ∷ rest i

-- the end of the lines of what a package was built on
built_once : (xs ys : List Dep) (es fs : List Entry) → map Built xs ++ flat_map said_of es ≡ map Built ys ++ flat_map said_of fs
    → (xs ≡ ys) × (flat_map said_of es ≡ flat_map said_of fs)
built_once [] [] es fs e = (refl, e)
built_once [] (y ∷ ys) [] fs e = absurd cc
built_once [] (y ∷ ys) (x ∷ es) fs e = absurd cc
built_once (x ∷ xs) [] es [] e = absurd cc
built_once (x ∷ xs) [] es (y ∷ fs) e = absurd cc
built_once (x ∷ xs) (y ∷ ys) es fs e =
    let first : x ≡ y = cc in
    let behind : map Built xs ++ flat_map said_of es ≡ map Built ys ++ flat_map said_of fs = cc in
    let rest = built_once xs ys es fs behind in
    (λ i. first i ∷ rest.0 i, rest.1)

abbrev signature : Entry → Dep
signature e = record { path = e.path; name = e.name; digest = e.digest }

entries_once : (es fs : List Entry) → flat_map said_of es ≡ flat_map said_of fs → es ≡ fs
entries_once [] [] e = refl
entries_once [] (y ∷ fs) e = absurd cc
entries_once (x ∷ es) [] e = absurd cc
entries_once (x ∷ es) (y ∷ fs) e =
    let first : signature x ≡ signature y = cc in
    let behind : map Built x.built ++ flat_map said_of es ≡ map Built y.built ++ flat_map said_of fs = cc in
    let parts = built_once x.built y.built es fs behind in
    let rest = entries_once es fs parts.1 in
    λ i. record { path = (first i).path; name = (first i).name; digest = (first i).digest; built = parts.0 i } ∷ rest i

pub one_list : (lines : List Text) (es fs : List Entry) → AllZip Says lines (flat_map said_of es) → AllZip Says lines (flat_map said_of fs) → es ≡ fs
one_list lines es fs all also = entries_once es fs (said_once lines (flat_map said_of es) (flat_map said_of fs) all also)

-- ---- prefixes

taken_said : (n : ℕ) (lines : List Text) (said : List ListLine) → AllZip Says lines said → AllZip Says (take n lines) (take n said)
taken_said zero lines said all = tt
taken_said (suc n) [] [] all = tt
taken_said (suc n) [] (s ∷ ss) all = absurd all
taken_said (suc n) (l ∷ ls) [] all = absurd all
taken_said (suc n) (l ∷ ls) (s ∷ ss) all = (all.0, taken_said n ls ss all.1)

record Begun (said : List ListLine) : Type 0 where
  built : List Dep
  entries : List Entry
  same : said ≡ map Built built ++ flat_map said_of entries

begun_built : (es : List Entry) → ((k : ℕ) → (fs : List Entry) × (take k (flat_map said_of es) ≡ flat_map said_of fs))
    → (xs : List Dep) (n : ℕ) → Begun (take n (map Built xs ++ flat_map said_of es))
begun_built es begun [] n = record { built = []; entries = (begun n).0; same = (begun n).1 }
begun_built es begun (x ∷ xs) zero = record { built = []; entries = []; same = refl }
begun_built es begun (x ∷ xs) (suc n) =
    let rest = begun_built es begun xs n in
    record { built = x ∷ rest.built; entries = rest.entries; same = ap (λ (ss : List ListLine). Built x ∷ ss) rest.same }

-- a prefix of the contents is that of some entries
begun_list : (es : List Entry) (k : ℕ) → (fs : List Entry) × (take k (flat_map said_of es) ≡ flat_map said_of fs)
begun_list [] zero = ([], refl)
begun_list [] (suc k) = ([], refl)
begun_list (x ∷ es) zero = ([], refl)
begun_list (x ∷ es) (suc k) =
    let rest = begun_built es (begun_list es) x.built k in (
      record { path = x.path; name = x.name; digest = x.digest; built = rest.built } ∷ rest.entries,
      ap (λ (ss : List ListLine). Package (signature x) ∷ ss) rest.same,
    )

pub beginnings : (lines : List Text) (es : List Entry) (n : ℕ) → AllZip Says lines (flat_map said_of es) → AreList (take n lines)
beginnings lines es n all =
    let begun = begun_list es n in
    (begun.0, subst (λ (said : List ListLine). AllZip Says (take n lines) said) begun.1 (taken_said n lines (flat_map said_of es) all))
